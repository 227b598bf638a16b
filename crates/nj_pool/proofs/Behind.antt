-- Strings one behind the other: one more, and the one at a place.
use Rattle.std.proofs.Common.{◌≡◌, ℕ, zero, suc, ◌+◌, ◌-◌, ◌<◌, ◌≤◌, List, [], ◌∷◌, ◌++◌, length, map, take, drop, get_or, refl, sym, ap, ap₂, ◌∙◌, subst, arith, length-drop, length-append}
use Rattle.std.specs.Prelude.{slice_range}
use Rattle.std.specs.List.{All}
use Rattle.std.proofs.lemmas.List.{take_all, take-append-le, drop-append-le, drop-drop}
use Rattle.std.proofs.lemmas.List.Elements.{All-nil, All-cons, All-weaker}
use Rattle.std.proofs.Math.Seq.{drop-append_seam}
use Rattle.nj_pool.specs.Strings.{strings_in, start_in, AreEnds}

-- a part of bytes is one of longer bytes
part_longer : (bytes more : List ℕ) (from end : ℕ) → from ≤ end → end ≤ length bytes
    → slice_range (bytes ++ more) from end ≡ slice_range bytes from end
part_longer bytes more from end in_order within =
    ap (take (end - from)) (drop-append-le from bytes more (omega (arith, in_order, within)))
    ∙ take-append-le (end - from) (drop from bytes) more (omega (arith, in_order, within, length-drop from bytes))

-- what stands behind bytes
part_behind : (bytes more : List ℕ) → slice_range (bytes ++ more) (length bytes) (length bytes + length more) ≡ more
part_behind bytes more =
    let all : length bytes + length more - length bytes ≡ length more = omega arith in
    ap (λ n. take n (drop (length bytes) (bytes ++ more))) all
    ∙ (ap (take (length more)) (drop-append_seam bytes more) ∙ take_all (length more) more (omega arith))

-- the first string begins no later than the last ends
within_ends : (from : ℕ) (ends : List ℕ) (last : ℕ) → AreEnds from ends last → from ≤ last
within_ends from [] last are = omega (arith, are)
within_ends from (end ∷ ends) last are = omega (arith, are.0, within_ends end ends last are.1)

-- one string more
pub ends_more : (from : ℕ) (ends : List ℕ) (last next : ℕ) → AreEnds from ends last → last ≤ next
    → AreEnds from (ends ++ next ∷ []) next
ends_more from [] last next are later = (omega (arith, are, later), refl)
ends_more from (end ∷ ends) last next are later = (are.0, ends_more end ends last next are.1 later)

pub strings_more : (from : ℕ) (ends bytes more : List ℕ) → AreEnds from ends (length bytes)
    → strings_in from (ends ++ (length bytes + length more) ∷ []) (bytes ++ more)
    ≡ strings_in from ends bytes ++ more ∷ []
strings_more from [] bytes more are =
    ap (λ string. string ∷ []) (ap (λ n. slice_range (bytes ++ more) n (length bytes + length more)) are
    ∙ part_behind bytes more)
strings_more from (end ∷ ends) bytes more are =
    ap (λ string. string ∷ strings_in end (ends ++ (length bytes + length more) ∷ []) (bytes ++ more))
    (part_longer bytes more from end are.0 (within_ends end ends (length bytes) are.1))
    ∙ ap (λ strings. slice_range bytes from end ∷ strings) (strings_more end ends bytes more are.1)

-- as many strings as ends
pub strings_count : (from : ℕ) (ends bytes : List ℕ) → length (strings_in from ends bytes) ≡ length ends
strings_count from [] bytes = refl
strings_count from (end ∷ ends) bytes = ap suc (strings_count end ends bytes)

-- a string begins at the end of the one before
start_suc : (from : ℕ) (ends : List ℕ) (place : ℕ) → place < length ends
    → start_in from ends (suc place) ≡ get_or ends place 0
start_suc from [] place lt = absurd (omega (arith, lt))
start_suc from (end ∷ ends) zero lt = refl
start_suc from (end ∷ ends) (suc place) lt = start_suc end ends place (omega (arith, lt))

pub start_later : (ends : List ℕ) (place : ℕ) → place < length ends → (place ≡ 0 → ⊥)
    → get_or ends (place - 1) 0 ≡ start_in 0 ends place
start_later ends place lt later =
    let next : suc (place - 1) ≡ place = omega (arith, later) in
    sym (start_suc 0 ends (place - 1) (omega (arith, lt))) ∙ ap (start_in 0 ends) next

-- the string at a place, and that it stands within the bytes
pub string_at : (from : ℕ) (ends bytes : List ℕ) (place : ℕ) → place < length ends
    → get_or (strings_in from ends bytes) place [] ≡ slice_range bytes (start_in from ends place) (get_or ends place 0)
string_at from [] bytes place lt = absurd (omega (arith, lt))
string_at from (end ∷ ends) bytes zero lt = refl
string_at from (end ∷ ends) bytes (suc place) lt = string_at end ends bytes place (omega (arith, lt))

pub string_within : (from : ℕ) (ends : List ℕ) (last place : ℕ) → place < length ends → AreEnds from ends last
    → (start_in from ends place ≤ get_or ends place 0) × (get_or ends place 0 ≤ last)
string_within from [] last place lt are = absurd (omega (arith, lt))
string_within from (end ∷ ends) last zero lt are = (are.0, within_ends end ends last are.1)
string_within from (end ∷ ends) last (suc place) lt are = string_within end ends last place (omega (arith, lt)) are.1

-- ends and bytes after a string more
pub record IsOneMore (ends bytes more ends_after bytes_after : List ℕ) : Type 0 where
  pub are_ends : AreEnds 0 ends_after (length bytes_after)
  pub one_more : strings_in 0 ends_after bytes_after ≡ strings_in 0 ends bytes ++ more ∷ []

pub is_one_more : (ends bytes more ends_after bytes_after : List ℕ) (last : ℕ) → last ≡ length bytes_after
    → bytes_after ≡ bytes ++ more → ends_after ≡ ends ++ last ∷ []
    → AreEnds 0 ends (length bytes) → IsOneMore ends bytes more ends_after bytes_after
is_one_more ends bytes more ends_after bytes_after last is longer later are =
    let long : last ≡ length bytes + length more = is ∙ (ap length longer ∙ length-append bytes more) in
    let same : ends_after ≡ ends ++ (length bytes + length more) ∷ [] = later ∙ ap (λ n. ends ++ n ∷ []) long in
    record {
      are_ends = subst (λ (n : ℕ). AreEnds 0 ends_after n) is
          (subst (λ (e : List ℕ). AreEnds 0 e last) (sym later)
          (ends_more 0 ends (length bytes) last are (omega (arith, long))));
      one_more = (λ i. strings_in 0 (same i) (longer i)) ∙ strings_more 0 ends bytes more are;
    }

-- ---- all strings of another list behind

-- a part of the bytes behind
part_further : (bytes more : List ℕ) (from end : ℕ)
    → slice_range (bytes ++ more) (length bytes + from) (length bytes + end) ≡ slice_range more from end
part_further bytes more from end =
    let same : length bytes + end - (length bytes + from) ≡ end - from = omega arith in
    ap (λ n. take n (drop (length bytes + from) (bytes ++ more))) same
    ∙ ap (take (end - from))
    (sym (drop-drop from (length bytes) (bytes ++ more)) ∙ ap (drop from) (drop-append_seam bytes more))

strings_further : (bytes more : List ℕ) (from : ℕ) (ends : List ℕ)
    → strings_in (length bytes + from) (map (λ end. length bytes + end) ends) (bytes ++ more)
    ≡ strings_in from ends more
strings_further bytes more from [] = refl
strings_further bytes more from (end ∷ ends) =
    ap₂ (λ string strings. string ∷ strings) (part_further bytes more from end)
    (strings_further bytes more end ends)

strings_joined : (from : ℕ) (ends bytes more_ends more : List ℕ) → AreEnds from ends (length bytes)
    → strings_in from (ends ++ map (λ end. length bytes + end) more_ends) (bytes ++ more)
    ≡ strings_in from ends bytes ++ strings_in 0 more_ends more
strings_joined from [] bytes more_ends more are =
    let first : from ≡ length bytes + 0 = omega (arith, are) in
    ap (λ n. strings_in n (map (λ end. length bytes + end) more_ends) (bytes ++ more)) first
    ∙ strings_further bytes more 0 more_ends
strings_joined from (end ∷ ends) bytes more_ends more are =
    ap₂ (λ string strings. string ∷ strings)
    (part_longer bytes more from end are.0 (within_ends end ends (length bytes) are.1))
    (strings_joined end ends bytes more_ends more are.1)

ends_further : (by from : ℕ) (ends : List ℕ) (last : ℕ) → AreEnds from ends last
    → AreEnds (by + from) (map (λ end. by + end) ends) (by + last)
ends_further by from [] last are = ap (λ n. by + n) are
ends_further by from (end ∷ ends) last are = (omega (arith, are.0), ends_further by end ends last are.1)

ends_joined : (from : ℕ) (ends : List ℕ) (last : ℕ) (more_ends : List ℕ) (more_last : ℕ) → AreEnds from ends last
    → AreEnds 0 more_ends more_last
    → AreEnds from (ends ++ map (λ end. last + end) more_ends) (last + more_last)
ends_joined from [] last more_ends more_last are others =
    let first : last + 0 ≡ from = omega (arith, are) in
    subst (λ n. AreEnds n (map (λ end. last + end) more_ends) (last + more_last)) first
    (ends_further last 0 more_ends more_last others)
ends_joined from (end ∷ ends) last more_ends more_last are others =
    (are.0, ends_joined end ends last more_ends more_last are.1 others)

-- no string ends behind the bytes
ends_within : (from : ℕ) (ends : List ℕ) (last : ℕ) → AreEnds from ends last → All (λ end. end ≤ last) ends
ends_within from [] last are = All-nil (λ end. end ≤ last)
ends_within from (end ∷ ends) last are =
    All-cons (λ end. end ≤ last) end ends (within_ends end ends last are.1) (ends_within end ends last are.1)

pub ends_small : (ends : List ℕ) (start last : ℕ) → AreEnds 0 ends last → start + last < 18446744073709551616
    → All (λ end. start + end < 18446744073709551616) ends
ends_small ends start last are small =
    All-weaker (λ end. end ≤ last) (λ end. start + end < 18446744073709551616) (λ end most. omega (arith, most, small))
    ends (ends_within 0 ends last are)

-- ends and bytes after all strings of another list
pub record AreJoined (ends bytes more_ends more ends_after bytes_after : List ℕ) : Type 0 where
  pub are_ends : AreEnds 0 ends_after (length bytes_after)
  pub joined : strings_in 0 ends_after bytes_after ≡ strings_in 0 ends bytes ++ strings_in 0 more_ends more

pub are_joined : (ends bytes more_ends more ends_after bytes_after : List ℕ) (start : ℕ) → start ≡ length bytes
    → bytes_after ≡ bytes ++ more → ends_after ≡ ends ++ map (λ end. start + end) more_ends
    → AreEnds 0 ends (length bytes) → AreEnds 0 more_ends (length more)
    → AreJoined ends bytes more_ends more ends_after bytes_after
are_joined ends bytes more_ends more ends_after bytes_after start is bytes_are ends_are are others =
    let next : ends_after ≡ ends ++ map (λ end. length bytes + end) more_ends =
    ends_are ∙ ap (λ n. ends ++ map (λ end. n + end) more_ends) is in
    record {
      are_ends =
          subst (λ es. AreEnds 0 es (length bytes_after)) (sym next)
          (subst (AreEnds 0 (ends ++ map (λ end. length bytes + end) more_ends))
          (sym (ap length bytes_are ∙ length-append bytes more))
          (ends_joined 0 ends (length bytes) more_ends (length more) are others));
      joined =
          ap₂ (strings_in 0) next bytes_are
          ∙ strings_joined 0 ends bytes more_ends more are;
    }
