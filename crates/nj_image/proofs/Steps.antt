-- One page more of the loops that write and read flagged pages.
use Rattle.std.proofs.Common.{◌≡◌, ℕ, zero, suc, ◌+◌, ◌-◌, ◌*◌, ◌==◌, ◌≤◌, ◌<◌, Bool, true, false, not, cond, List, [], ◌∷◌, ◌++◌, length, take, drop, get_or, Some, None, Option, refl, sym, ap, ◌∙◌, arith, length-append, length-take, length-drop, append_assoc, append-nil}
use Rattle.std.proofs.lemmas.List.{take_all, drop_all, drop-drop, drop_more}
use Rattle.std.proofs.lemmas.Bool.{lt-ltb, le-ltb, ne_eqb, eq-eqb}
use Rattle.std.proofs.Math.Seq.{take-append_seam}
use Rattle.std.specs.Str.{bytes_eq}
use Rattle.nj_image.specs.Pages.{first_pages, overwritten}
use Rattle.nj_image.specs.Packing.{flagged}
use Rattle.nj_image.specs.Filling.{merged, later, stop}
use Rattle.nj_image.proofs.Fill.{count-pages}

-- a page of a memory among its pages
pub page-get : (n p : ℕ) (memory : List ℕ) → p < n → get_or (first_pages n memory) p [] ≡ take 64 (drop (64 * p) memory)
page-get zero p memory below = absurd (omega arith)
page-get (suc n) zero memory below = refl
page-get (suc n) (suc p) memory below =
    let next : 64 + 64 * p ≡ 64 * suc p = omega arith in
    page-get n p (drop 64 memory) (omega arith)
    ∙ (ap (take 64) (drop-drop (64 * p) 64 memory) ∙ ap (λ k. take 64 (drop k memory)) next)

-- the pages from page p on
pub pages-from : (n p : ℕ) (memory : List ℕ) → p < n
    → drop p (first_pages n memory) ≡ take 64 (drop (64 * p) memory) ∷ drop (p + 1) (first_pages n memory)
pages-from n p memory below =
    drop_more (first_pages n memory) p [] (omega (arith, count-pages n memory))
    ∙ ap (λ page. page ∷ drop (p + 1) (first_pages n memory)) (page-get n p memory below)

pub flags-from : (flags : List Bool) (p : ℕ) (flag : Bool) → p < length flags → get_or flags p false ≡ flag
    → drop p flags ≡ flag ∷ drop (p + 1) flags
flags-from flags p flag below is = drop_more flags p false below ∙ ap (λ f. f ∷ drop (p + 1) flags) is

-- bytes that were copied to a place, up to their end
pub copied : (at : ℕ) (part before after : List ℕ) → at + length part ≤ length before
    → after ≡ overwritten at part before →
    take (at + length part) after ≡ take at before ++ part
copied at part before after fits is =
    let size : length (take at before ++ part) ≡ at + length part =
    omega (arith, length-append (take at before) part, length-take {A = ℕ} at before) in
    ap (take (at + length part)) (is ∙ sym (append_assoc (take at before) part (drop (at + length part) before)))
    ∙ (ap (λ k. take k ((take at before ++ part) ++ drop (at + length part) before)) (sym size)
    ∙ take-append_seam (take at before ++ part) (drop (at + length part) before))

pub copied-size : (at : ℕ) (part before after : List ℕ) → at + length part ≤ length before
    → after ≡ overwritten at part before → length after ≡ length before
copied-size at part before after fits is =
    ap length is
    ∙ omega (
      arith,
      length-append (take at before) (part ++ drop (at + length part) before),
      length-append part (drop (at + length part) before),
      length-take {A = ℕ} at before,
      length-drop {A = ℕ} (at + length part) before,
    )

-- flagged pages that were written, and those from page p on that are left, are all the flagged pages
pub record IsWritten (flags : List Bool) (pages : List (List ℕ)) (start : ℕ) (before : List ℕ) (p at : ℕ)
    (into : List ℕ) : Type 0 where
  pub size : length into ≡ length before
  pub room : at + length (flagged (drop p flags) (drop p pages)) ≡ start + length (flagged flags pages)
  pub bytes : take at into ++ flagged (drop p flags) (drop p pages) ≡ take start before ++ flagged flags pages

-- a flagged page has room
pub page-room : (flags : List Bool) (pages : List (List ℕ)) (start : ℕ) (before : List ℕ) (p at : ℕ)
    (into page : List ℕ) → IsWritten flags pages start before p at into →
    drop p flags ≡ true ∷ drop (p + 1) flags → drop p pages ≡ page ∷ drop (p + 1) pages
    → start + length (flagged flags pages) ≤ length before → at + length page ≤ length into
page-room flags pages start before p at into page is f q fits =
    let left : flagged (drop p flags) (drop p pages) ≡ page ++ flagged (drop (p + 1) flags) (drop (p + 1) pages) =
    ap (λ l. flagged l (drop p pages)) f ∙ ap (flagged (true ∷ drop (p + 1) flags)) q in
    omega (
      arith,
      is.room,
      is.size,
      ap length left,
      length-append page (flagged (drop (p + 1) flags) (drop (p + 1) pages)),
    )

-- and is written
pub page-written : (flags : List Bool) (pages : List (List ℕ)) (start : ℕ) (before : List ℕ) (p at : ℕ)
    (into page after : List ℕ) → IsWritten flags pages start before p at into →
    drop p flags ≡ true ∷ drop (p + 1) flags → drop p pages ≡ page ∷ drop (p + 1) pages
    → start + length (flagged flags pages) ≤ length before →
    after ≡ overwritten at page into → IsWritten flags pages start before (p + 1) (at + length page) after
page-written flags pages start before p at into page after is f q fits written =
    let left : flagged (drop p flags) (drop p pages) ≡ page ++ flagged (drop (p + 1) flags) (drop (p + 1) pages) =
    ap (λ l. flagged l (drop p pages)) f ∙ ap (flagged (true ∷ drop (p + 1) flags)) q in
    let room = page-room flags pages start before p at into page is f q fits in
    record {
      size = copied-size at page into after room written ∙ is.size;
      room = omega (
        arith,
        is.room,
        ap length left,
        length-append page (flagged (drop (p + 1) flags) (drop (p + 1) pages)),
      );
      bytes =
          ap (λ l. l ++ flagged (drop (p + 1) flags) (drop (p + 1) pages)) (copied at page into after room written)
          ∙ (append_assoc (take at into) page (flagged (drop (p + 1) flags) (drop (p + 1) pages))
          ∙ (ap (λ l. take at into ++ l) (sym left) ∙ is.bytes));
    }

-- a page that is not flagged is passed over
pub page-skipped : (flags : List Bool) (pages : List (List ℕ)) (start : ℕ) (before : List ℕ) (p at : ℕ)
    (into page : List ℕ) → IsWritten flags pages start before p at into →
    drop p flags ≡ false ∷ drop (p + 1) flags → drop p pages ≡ page ∷ drop (p + 1) pages
    → IsWritten flags pages start before (p + 1) at into
page-skipped flags pages start before p at into page is f q =
    let left : flagged (drop p flags) (drop p pages) ≡ flagged (drop (p + 1) flags) (drop (p + 1) pages) =
    ap (λ l. flagged l (drop p pages)) f ∙ ap (flagged (false ∷ drop (p + 1) flags)) q in
    record {
      size = is.size;
      room = ap (λ l. at + length l) (sym left) ∙ is.room;
      bytes = ap (λ l. take at into ++ l) (sym left) ∙ is.bytes;
    }

-- behind the last page nothing is left
none-flagged : (flags : List Bool) → flagged flags [] ≡ []
none-flagged [] = refl
none-flagged (flag ∷ flags) = refl

pub all-written : (flags : List Bool) (pages : List (List ℕ)) (start : ℕ) (before : List ℕ) (p at : ℕ) (into : List ℕ)
    → IsWritten flags pages start before p at into →
    length pages ≤ p → (take at into ≡ take start before ++ flagged flags pages)
    × (at ≡ start + length (flagged flags pages))
all-written flags pages start before p at into is past =
    let left : flagged (drop p flags) (drop p pages) ≡ [] = ap (flagged (drop p flags)) (drop_all p pages past)
    ∙ none-flagged (drop p flags) in (
      sym (ap (λ l. take at into ++ l) left ∙ append-nil (take at into)) ∙ is.bytes,
      omega (arith, is.room, ap length left),
    )

-- the state of a reading: what is left of the pages and the bytes gives the rest
pub record IsFilled (flags : List Bool) (bases : List (List ℕ)) (bytes : List ℕ) (first : ℕ) (p from : ℕ)
    (into : List ℕ) : Type 0 where
  pub start : first ≤ from
  pub within : from ≤ length bytes
  pub size : length into ≡ 64 * length bases
  pub stops : stop flags bases (drop first bytes)
      ≡ later (from - first) (stop (drop p flags) (drop p bases) (drop from bytes))
  pub image : merged flags bases (drop first bytes)
      ≡ take (64 * p) into ++ merged (drop p flags) (drop p bases) (drop from bytes)

-- bytes end within a flagged page
cond-is : {A : Type 0} (b : Bool) (x y : A) → b ≡ true → cond b x y ≡ x
cond-is b x y is = ap (λ c. cond c x y) is

cond-not : {A : Type 0} (b : Bool) (x y : A) → b ≡ false → cond b x y ≡ y
cond-not b x y is = ap (λ c. cond c x y) is

later-some : (n at : ℕ) (o : Option ℕ) → o ≡ Some at → later n o ≡ Some (n + at)
later-some n at o is = ap (later n) is

later-twice : (m n : ℕ) (o : Option ℕ) → later m (later n o) ≡ later (m + n) o
later-twice m n None = refl
later-twice m n (Some at) = ap Some (omega arith)

-- the rest of a reading at a flagged page, and at another
pub at-flagged : (flags : List Bool) (bases : List (List ℕ)) (bytes : List ℕ) (first p from : ℕ) (into base : List ℕ)
    → IsFilled flags bases bytes first p from into →
    drop p flags ≡ true ∷ drop (p + 1) flags → drop p bases ≡ base ∷ drop (p + 1) bases →
    stop flags bases (drop first bytes)
    ≡ later (from - first) (stop (true ∷ drop (p + 1) flags) (base ∷ drop (p + 1) bases) (drop from bytes))
at-flagged flags bases bytes first p from into base is f q =
    is.stops ∙ (ap (λ l. later (from - first) (stop l (drop p bases) (drop from bytes))) f
    ∙ ap (λ l. later (from - first) (stop (true ∷ drop (p + 1) flags) l (drop from bytes))) q)

pub ends-short : (flags : List Bool) (bases : List (List ℕ)) (bytes : List ℕ) (first p from : ℕ) (into base : List ℕ)
    → IsFilled flags bases bytes first p from into →
    drop p flags ≡ true ∷ drop (p + 1) flags → drop p bases ≡ base ∷ drop (p + 1) bases → length bytes - from < 64 →
    stop flags bases (drop first bytes) ≡ Some (length bytes - first)
ends-short flags bases bytes first p from into base is f q short =
    let sum : from - first + length (drop from bytes) ≡ length bytes - first =
    omega (arith, is.start, is.within, length-drop {A = ℕ} from bytes) in
    at-flagged flags bases bytes first p from into base is f q
    ∙ (later-some (from - first) (length (drop from bytes)) _
    (cond-is _ _ _ (lt-ltb (length (drop from bytes)) 64 (omega (arith, length-drop {A = ℕ} from bytes, short))))
    ∙ ap Some sum)

-- a flagged page is the base's
pub ends-same : (flags : List Bool) (bases : List (List ℕ)) (bytes : List ℕ) (first p from : ℕ) (into base : List ℕ)
    → IsFilled flags bases bytes first p from into →
    drop p flags ≡ true ∷ drop (p + 1) flags → drop p bases ≡ base ∷ drop (p + 1) bases → 64 ≤ length bytes - from →
    bytes_eq (take 64 (drop from bytes)) base ≡ true
    → stop flags bases (drop first bytes) ≡ Some (from + 64 - 1 - first)
ends-same flags bases bytes first p from into base is f q long same =
    let sum : from - first + 63 ≡ from + 64 - 1 - first = omega (arith, is.start) in
    at-flagged flags bases bytes first p from into base is f q
    ∙ (later-some (from - first) 63 _ (cond-not _ _ _ (le-ltb (length (drop from bytes)) 64
    (omega (arith, length-drop {A = ℕ} from bytes, long))) ∙ cond-is _ _ _ same)
    ∙ ap Some sum)

-- what is copied to page p
pub page-copied : (p n : ℕ) (page into after : List ℕ) → length page ≡ 64 → length into ≡ 64 * n → p < n
    → after ≡ overwritten (64 * p) page into →
    (take (64 * (p + 1)) after ≡ take (64 * p) into ++ page) × (length after ≡ 64 * n)
page-copied p n page into after wide size below is =
    let fits : 64 * p + length page ≤ length into = omega (arith, wide, size) in
    let end : 64 * (p + 1) ≡ 64 * p + length page = omega (arith, wide) in (
      ap (λ k. take k after) end ∙ copied (64 * p) page into after fits is,
      copied-size (64 * p) page into after fits is ∙ size,
    )

-- a flagged page is taken
pub page-taken : (flags : List Bool) (bases : List (List ℕ)) (bytes : List ℕ) (first p from : ℕ)
    (into base after : List ℕ) → IsFilled flags bases bytes first p from into →
    drop p flags ≡ true ∷ drop (p + 1) flags → drop p bases ≡ base ∷ drop (p + 1) bases → 64 ≤ length bytes - from
    → p < length bases →
    bytes_eq (take 64 (drop from bytes)) base ≡ false → after ≡ overwritten (64 * p) (take 64 (drop from bytes)) into →
    IsFilled flags bases bytes first (p + 1) (from + 64) after
page-taken flags bases bytes first p from into base after is f q long below other put =
    let wide : length (take 64 (drop from bytes)) ≡ 64 =
    omega (arith, length-take {A = ℕ} 64 (drop from bytes), length-drop {A = ℕ} from bytes, long) in
    let copy = page-copied p (length bases) (take 64 (drop from bytes)) into after wide is.size below put in
    let further : from - first + 64 ≡ from + 64 - first = omega (arith, is.start) in
    record {
      start = omega (arith, is.start);
      within = omega (arith, long);
      size = copy.1;
      stops =
          at-flagged flags bases bytes first p from into base is f q
          ∙ (ap (later (from - first)) (cond-not _ _ _ (le-ltb (length (drop from bytes)) 64
          (omega (arith, length-drop {A = ℕ} from bytes, long))) ∙ cond-not _ _ _ other)
          ∙ (later-twice (from - first) 64 (stop (drop (p + 1) flags) (drop (p + 1) bases) (drop 64 (drop from bytes)))
          ∙ (ap (λ k. later k (stop (drop (p + 1) flags) (drop (p + 1) bases) (drop 64 (drop from bytes)))) further
          ∙ ap (λ l. later (from + 64 - first) (stop (drop (p + 1) flags) (drop (p + 1) bases) l))
          (drop-drop 64 from bytes))));
      image =
          is.image
          ∙ (ap (λ l. take (64 * p) into ++ merged l (drop p bases) (drop from bytes)) f
          ∙ (ap (λ l. take (64 * p) into ++ merged (true ∷ drop (p + 1) flags) l (drop from bytes)) q
          ∙ (sym (append_assoc (take (64 * p) into) (take 64 (drop from bytes))
          (merged (drop (p + 1) flags) (drop (p + 1) bases) (drop 64 (drop from bytes))))
          ∙ (ap (λ l. l ++ merged (drop (p + 1) flags) (drop (p + 1) bases) (drop 64 (drop from bytes))) (sym copy.0)
          ∙ ap (λ l. take (64 * (p + 1)) after ++ merged (drop (p + 1) flags) (drop (p + 1) bases) l)
          (drop-drop 64 from bytes)))));
    }

-- another page is the base's
pub page-kept : (flags : List Bool) (bases : List (List ℕ)) (bytes : List ℕ) (first p from : ℕ)
    (into base after : List ℕ) → IsFilled flags bases bytes first p from into →
    drop p flags ≡ false ∷ drop (p + 1) flags → drop p bases ≡ base ∷ drop (p + 1) bases → p < length bases
    → length base ≡ 64 →
    after ≡ overwritten (64 * p) base into → IsFilled flags bases bytes first (p + 1) from after
page-kept flags bases bytes first p from into base after is f q below wide put =
    let copy = page-copied p (length bases) base into after wide is.size below put in
    record {
      start = is.start;
      within = is.within;
      size = copy.1;
      stops = is.stops ∙ (ap (λ l. later (from - first) (stop l (drop p bases) (drop from bytes))) f
          ∙ ap (λ l. later (from - first) (stop (false ∷ drop (p + 1) flags) l (drop from bytes))) q);
      image =
          is.image
          ∙ (ap (λ l. take (64 * p) into ++ merged l (drop p bases) (drop from bytes)) f
          ∙ (ap (λ l. take (64 * p) into ++ merged (false ∷ drop (p + 1) flags) l (drop from bytes)) q
          ∙ (sym (append_assoc (take (64 * p) into) base
          (merged (drop (p + 1) flags) (drop (p + 1) bases) (drop from bytes)))
          ∙ ap (λ l. l ++ merged (drop (p + 1) flags) (drop (p + 1) bases) (drop from bytes)) (sym copy.0))));
    }

-- behind the last page
last-stop : (flags : List Bool) (bytes : List ℕ) → stop flags [] bytes ≡ cond (length bytes == 0) None (Some 0)
last-stop [] bytes = refl
last-stop (flag ∷ flags) bytes = refl

last-merged : (flags : List Bool) (bytes : List ℕ) → merged flags [] bytes ≡ []
last-merged [] bytes = refl
last-merged (flag ∷ flags) bytes = refl

at-last : (flags : List Bool) (bases : List (List ℕ)) (bytes : List ℕ) (first p from : ℕ) (into : List ℕ)
    → IsFilled flags bases bytes first p from into →
    length bases ≤ p → stop flags bases (drop first bytes)
    ≡ later (from - first) (cond (length (drop from bytes) == 0) None (Some 0))
at-last flags bases bytes first p from into is past =
    is.stops ∙ ap (later (from - first)) (ap (λ l. stop (drop p flags) l (drop from bytes)) (drop_all p bases past)
    ∙ last-stop (drop p flags) (drop from bytes))

pub ends-behind : (flags : List Bool) (bases : List (List ℕ)) (bytes : List ℕ) (first p from : ℕ) (into : List ℕ)
    → IsFilled flags bases bytes first p from into →
    length bases ≤ p → from < length bytes → stop flags bases (drop first bytes) ≡ Some (from - first)
ends-behind flags bases bytes first p from into is past more =
    let sum : from - first + 0 ≡ from - first = omega arith in
    at-last flags bases bytes first p from into is past
    ∙ (later-some (from - first) 0 _ (cond-not _ _ _ (ne_eqb (length (drop from bytes)) 0
    (λ h. omega (arith, h, length-drop {A = ℕ} from bytes, more)))) ∙ ap Some sum)

pub ends-well : (flags : List Bool) (bases : List (List ℕ)) (bytes : List ℕ) (first p from : ℕ) (into : List ℕ)
    → IsFilled flags bases bytes first p from into →
    length bases ≤ p → length bytes ≤ from → (stop flags bases (drop first bytes) ≡ None)
    × (into ≡ merged flags bases (drop first bytes))
ends-well flags bases bytes first p from into is past all = (
  at-last flags bases bytes first p from into is past
      ∙ ap (later (from - first))
      (cond-is _ _ _ (eq-eqb (length (drop from bytes)) 0 (omega (arith, length-drop {A = ℕ} from bytes, all)))),
  sym (is.image
      ∙ (ap (λ l. take (64 * p) into ++ merged (drop p flags) l (drop from bytes)) (drop_all p bases past)
      ∙ (ap (λ l. take (64 * p) into ++ l) (last-merged (drop p flags) (drop from bytes))
      ∙ (append-nil (take (64 * p) into) ∙ take_all (64 * p) into (omega (arith, is.size)))))),
)

-- a part of a memory that is a page
pub slice-page : (memory : List ℕ) (at : ℕ) → take (at + 64 - at) (drop at memory) ≡ take 64 (drop at memory)
slice-page memory at = let width : at + 64 - at ≡ 64 = omega arith in ap (λ k. take k (drop at memory)) width

-- what a comparison of two such parts tells
pub compared : (r b : Bool) (one two : List ℕ) (from at : ℕ)
    → r ≡ not (bytes_eq (take (from + 64 - from) (drop from one)) (take (at + 64 - at) (drop at two))) → r ≡ not b →
    bytes_eq (take 64 (drop from one)) (take 64 (drop at two)) ≡ b
compared r b one two from at is told =
    ap (λ l. bytes_eq l (take 64 (drop at two))) (sym (slice-page one from))
    ∙ (ap (bytes_eq (take (from + 64 - from) (drop from one))) (sym (slice-page two at)) ∙ back _ _ (sym is ∙ told))
  where
    back : (x y : Bool) → not x ≡ not y → x ≡ y
    back true true e = refl
    back true false e = cc
    back false true e = cc
    back false false e = refl

-- before the first page
pub begun-filled : (flags : List Bool) (bases : List (List ℕ)) (bytes : List ℕ) (first : ℕ) (into : List ℕ)
    → first ≤ length bytes → length into ≡ 64 * length bases →
    IsFilled flags bases bytes first 0 first into
begun-filled flags bases bytes first into within size =
    let none : 0 ≡ first - first = omega arith in
    record {
      start = omega arith;
      within = within;
      size = size;
      stops = sym (later-zero (stop flags bases (drop first bytes)))
          ∙ ap (λ k. later k (stop flags bases (drop first bytes))) none;
      image = refl;
    }
  where
    later-zero : (o : Option ℕ) → later 0 o ≡ o
    later-zero None = refl
    later-zero (Some at) = ap Some (omega arith)
