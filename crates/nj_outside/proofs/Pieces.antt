-- A text that is written or put piece by piece, and what is told after each piece.
use Rattle.std.proofs.Common.{◌≡◌, ℕ, ◌+◌, ◌<◌, ◌≤◌, List, [], ◌++◌, Bool, true, false, Option, Some, None, length, take, drop, refl, sym, ◌∙◌, ap, subst, arith, length-drop, drop-drop}
use Rattle.std.proofs.Math.Seq.{take-add}
use Rattle.std.proofs.lemmas.List.{take_all, drop_all, length-take-le}
use Rattle.std.specs.Prelude.{unwrap_or}
use Rattle.nj_outside.specs.Handed.{HandsOver, nothing_left, fails, takes}
use Rattle.nj_outside.specs.Told.{Files, with_file, bytes_at, put_file, put_file_from, appended, appended-append, with_file_same, with_file_twice}

-- the next piece of the text is appended after its first i bytes
pub appended_more : (now old told : Option (List ℕ)) (i n : ℕ) (text : List ℕ)
    → told ≡ appended old (take i text) → now ≡ appended told (take n (drop i text))
    → now ≡ appended old (take (i + n) text)
appended_more now old told i n text before here =
    here ∙ ap (λ t. appended t (take n (drop i text))) before ∙ appended-append old (take i text) (take n (drop i text))
    ∙ ap (appended old) (sym (take-add i n text))

-- a file that has the bytes is their length long
pub length-put : (files : Files) (name bytes : List ℕ) → bytes_at (with_file files name bytes) name ≡ bytes
length-put files name bytes = ap (λ o. unwrap_or o []) (with_file_same files name bytes)

-- a put at the end of the bytes that a put left
pub put_file_from-put_file : (old : Option Files) (name bytes piece : List ℕ)
    → put_file_from (put_file old name bytes) name (length bytes) piece ≡ put_file old name (bytes ++ piece)
put_file_from-put_file None name bytes piece = refl
put_file_from-put_file (Some files) name bytes piece =
    ap (λ x. Some (with_file (with_file files name bytes) name (take (length bytes) x ++ piece)))
    (length-put files name bytes)
    ∙ ap (λ x. Some (with_file (with_file files name bytes) name (x ++ piece)))
    (take_all (length bytes) bytes (omega arith))
    ∙ ap Some (with_file_twice files name bytes (bytes ++ piece))

-- the next piece of the text is put after its first i bytes
pub put_more : (now old told : Option Files) (name text : List ℕ) (i n : ℕ)
    → i ≤ length text → told ≡ put_file old name (take i text) → now ≡ put_file_from told name i (take n (drop i text))
    → now ≡ put_file old name (take (i + n) text)
put_more now old told name text i n within before here =
    here ∙ ap (λ t. put_file_from t name i (take n (drop i text))) before
    ∙ ap (λ k. put_file_from (put_file old name (take i text)) name k (take n (drop i text)))
    (sym (length-take-le i text within))
    ∙ put_file_from-put_file old name (take i text) (take n (drop i text))
    ∙ ap (put_file old name) (sym (take-add i n text))

-- after its first i bytes the file is i bytes long
pub put_place : (old told : Option Files) (files : Files) (name text : List ℕ) (i : ℕ)
    → i ≤ length text → told ≡ put_file old name (take i text) → told ≡ Some files → i ≡ length (bytes_at files name)
put_place None told files name text i within before is =
    let clash : put_file None name (take i text) ≡ Some files = sym before ∙ is in cc
put_place (Some was) told files name text i within before is =
    let same : with_file was name (take i text) ≡ files =
    let both : Some (with_file was name (take i text)) ≡ Some files = sym before ∙ is in cc in
    sym (length-take-le i text within)
    ∙ ap length (sym (length-put was name (take i text)))
    ∙ ap (λ f. length (bytes_at f name)) same

module _ {S : Type 0} (wrote : S → List ℕ → Option ℕ → S → Type 0) (text : List ℕ) (taken : ℕ) where
  -- where all was taken, nothing is left to hand over
  pub all_handed : (sink : S) → length text ≤ taken → HandsOver wrote sink (drop taken text) true sink
  all_handed sink all =
      subst (λ left. HandsOver wrote sink left true sink) (sym (drop_all taken text all)) (nothing_left sink)

  -- a write of all that is left, and the writes of what it left
  pub more_handed : (sink next last : S) (left : List ℕ) (count : ℕ) (whole : Bool) → left ≡ drop taken text
      → taken < length text →
      wrote sink left (Some count) next → HandsOver wrote next (drop (taken + count) text) whole last →
      HandsOver wrote sink (drop taken text) whole last
  more_handed sink next last left count whole is some here rest =
      takes sink next last (drop taken text) count whole (omega (arith, length-drop taken text))
      (subst (λ piece. wrote sink piece (Some count) next) is here)
      (subst (λ piece. HandsOver wrote next piece whole last) (sym (drop-drop count taken text)) rest)

  -- a write of all that is left, which failed
  pub none_handed : (sink next : S) (left : List ℕ) → left ≡ drop taken text → taken < length text
      → wrote sink left None next →
      HandsOver wrote sink (drop taken text) false next
  none_handed sink next left is some here =
      fails sink next (drop taken text) (omega (arith, length-drop taken text))
      (subst (λ piece. wrote sink piece None next) is here)
