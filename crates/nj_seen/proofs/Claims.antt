-- A key's owner after claims, which rows own their keys then, and that no key finds a table full that had room.
use Rattle.std.proofs.Common.{◌≡◌, ◌≢◌, ℕ, ◌+◌, ◌-◌, ◌/◌, ◌<◌, ◌≤◌, ◌⊎◌, inl, inr, ⊎_elim, Bool, true, false, not, ◌&&◌, ◌||◌, ◌==◌, nat_lt, nat_le, min, List, [], ◌∷◌, ◌++◌, length, map, drop, get_or, refl, sym, ap, ◌∙◌, subst, arith, eq-eqb, ne_eqb, length-append}
use Rattle.std.specs.Prelude.{Option, Some, None, filter, if◌then◌else◌}
use Rattle.std.specs.List.{All, Contains, concat, list_any}
use Rattle.std.proofs.lemmas.Bool.{cases_Bool, le-leb, and_parts, and_from, ltb-true, lt-ltb, eqb-true, cases_lt, both_ways, false_from_ne_true}
use Rattle.std.proofs.lemmas.Bool.Decides.{eqb_tells}
use Rattle.std.proofs.lemmas.List.{length-map}
use Rattle.std.specs.List.Sorted.{IsPermutation}
use Rattle.std.proofs.lemmas.List.Sorted.{Contains-permutation, All-permutation}
use Rattle.std.proofs.lemmas.List.Elements.{All-contains_itself, All-weaker, All-nil, All-cons, All-head, All-tail, Contains-get_or}
use Rattle.nj_search_defs.specs.Pruning.{Seen, key_count, is_seen}
use Rattle.nj_rows.specs.declared.Row.{Row}
use Rattle.nj_claims.specs.Tables.{entries_in, keys_in, owner_in, owner_after, lowered, slot_count}
use Rattle.nj_claims.specs.Passes.{HadNoRoom}
use Rattle.nj_seen.specs.Held.{AreInOrder}
use Rattle.nj_seen.specs.Rows.{is_fresh_row}
use Rattle.nj_seen.specs.Held.{HoldsSeen, AreClaims, claim_of, first_claim, is_owner, is_owned, step_of, oldest_step}
use Rattle.nj_seen.proofs.Members.{contained, In, differ, in_list, of_member, in_left, in_right, in_either, in_map, mapped, some_member, member_any, is_key, key_is}
use Rattle.nj_seen.proofs.Steps.{some_has, has_some, is_within}
use Rattle.nj_seen.proofs.Counting.{NumbersFit, IsMap, fits_in, count_since_is}

abbrev pub Claimed : Type 0
Claimed = List (ℕ × ℕ)

-- an owner only falls
stays : (key most owner : ℕ) (claims : Claimed) → owner ≤ most
    → (last : ℕ) × (owner_after key (Some owner) claims ≡ Some last) × (last ≤ most)
stays key most owner [] le = (owner, refl, le)
stays key most owner (c ∷ cs) le =
    elim (c.0 == key) as (λ b. (last : ℕ)
    × (owner_after key (if b then lowered (Some owner) c.1 else Some owner) cs ≡ Some last) × (last ≤ most)) [
      | true ↦ stays key most (min owner c.1) cs (omega arith)
      | false ↦ stays key most owner cs le
    ]

-- after a claim a key has an owner that is at most the number
pub at_most : (key number : ℕ) (first : Option ℕ) (claims : Claimed) → In (key, number) claims
    → (last : ℕ) × (owner_after key first claims ≡ Some last) × (last ≤ number)
at_most key number first [] i = absurd i
at_most key number first (c ∷ cs) i =
    ⊎_elim
    (λ (e : c ≡ (key, number)). let at : c.1 ≡ number = ap (λ (z : ℕ × ℕ). z.1) e in
    subst (λ b. (last : ℕ) × (owner_after key (if b then lowered first c.1 else first) cs ≡ Some last)
    × (last ≤ number))
    (sym (eq-eqb c.0 key (ap (λ (z : ℕ × ℕ). z.0) e))) (start first (omega arith)))
    (λ (r : In (key, number) cs). at_most key number (if c.0 == key then lowered first c.1 else first) cs r) i where
      start : (first : Option ℕ) → c.1 ≤ number
          → (last : ℕ) × (owner_after key (lowered first c.1) cs ≡ Some last) × (last ≤ number)
      start None le = stays key number c.1 cs le
      start (Some owner) le = stays key number (min owner c.1) cs (omega arith)

-- an owner after claims was the owner or was claimed
pub source : (key owner : ℕ) (first : Option ℕ) (claims : Claimed) → owner_after key first claims ≡ Some owner
    → (first ≡ Some owner) ⊎ In (key, owner) claims
source key owner first [] e = inl e
source key owner first (c ∷ cs) e =
    ⊎_elim
    (λ (t : ((c.0 == key) ≡ true) × (c.0 ≡ key)).
    ⊎_elim (λ (l : lowered first c.1 ≡ Some owner). low first t.1 l) (λ (r : In (key, owner) cs). inr (inr r))
    (source key owner (lowered first c.1) cs
    (subst (λ b. owner_after key (if b then lowered first c.1 else first) cs ≡ Some owner) t.0 e)))
    (λ (t : ((c.0 == key) ≡ false) × (c.0 ≢ key)).
    ⊎_elim (λ (l : first ≡ Some owner). inl l) (λ (r : In (key, owner) cs). inr (inr r))
    (source key owner first cs (subst (λ b. owner_after key (if b then lowered first c.1 else first) cs ≡ Some owner)
    t.0 e)))
    (eqb_tells c.0 key) where
      low : (first : Option ℕ) → c.0 ≡ key → lowered first c.1 ≡ Some owner
          → (first ≡ Some owner) ⊎ In (key, owner) (c ∷ cs)
      low None is l = let same : c.1 ≡ owner = cc in inr (inl (λ i. (is i, same i)))
      low (Some w) is l =
          let least : min w c.1 ≡ owner = cc in
          ⊎_elim (λ (lt : w < c.1). let same : w ≡ owner = omega arith in inl (ap (λ (x : ℕ). Some x) same))
          (λ (le : c.1 ≤ w). let same : c.1 ≡ owner = omega arith in inr (inl (λ i. (is i, same i)))) (cases_lt w c.1)

-- claims that are not below an owner leave it
pub kept_owner : (key owner : ℕ) (claims : Claimed) → All (λ claim. owner ≤ claim.1) claims
    → owner_after key (Some owner) claims ≡ Some owner
kept_owner key owner [] all = refl
kept_owner key owner (c ∷ cs) all =
    elim (c.0 == key) as (λ b. owner_after key (if b then lowered (Some owner) c.1 else Some owner) cs ≡ Some owner) [
      | true ↦ let le : owner ≤ c.1 = All-head (λ (claim : ℕ × ℕ). owner ≤ claim.1) c cs all in
          let same : min owner c.1 ≡ owner = omega arith in
          ap (λ x. owner_after key (Some x) cs) same
          ∙ kept_owner key owner cs (All-tail (λ (claim : ℕ × ℕ). owner ≤ claim.1) c cs all)
      | false ↦ kept_owner key owner cs (All-tail (λ (claim : ℕ × ℕ). owner ≤ claim.1) c cs all)
    ]

-- seen keys are those of the generations
has_generation : (key : ℕ) (seen : Seen) → In key (concat seen) → (keys : List ℕ) × In keys seen × In key keys
has_generation key [] i = absurd i
has_generation key (keys ∷ later) i =
    ⊎_elim (λ (a : In key keys). (keys, inl refl, a))
    (λ (b : In key (concat later)). let g = has_generation key later b in (g.0, inr g.1, g.2))
    (in_either key keys (concat later) i)

in_generation : (key : ℕ) (keys : List ℕ) (seen : Seen) → In keys seen → In key keys → In key (concat seen)
in_generation key keys [] i k = absurd i
in_generation key keys (first ∷ later) i k =
    ⊎_elim (λ (e : first ≡ keys). in_left key first (concat later) (subst (In key) (sym e) k))
    (λ (r : In keys later). in_right key first (concat later) (in_generation key keys later r k)) i

pub is_seen_in : (key : ℕ) (seen : Seen) → In key (concat seen) → is_seen seen key ≡ true
is_seen_in key seen i = let g =
    has_generation key seen i in member_any (list_any (λ k. k == key)) g.0 seen g.1 (key_is key g.0 g.2)

pub in_seen : (key : ℕ) (seen : Seen) → is_seen seen key ≡ true → In key (concat seen)
in_seen key seen t = let s =
    some_member (list_any (λ k. k == key)) seen t in in_generation key s.0 seen s.1 (is_key key s.0 s.2)

-- the owners of a table of seen keys are steps up to the last
pub step_within : (words : List ℕ) (seen : Seen) (step key owner : ℕ) → HoldsSeen words seen step
    → owner_in words key ≡ Some owner → owner ≤ step
step_within words seen step key owner holds e =
    let few : length seen ≤ step + 1 = holds.few in
    let w = is_within (oldest_step step seen) seen key owner (sym (holds.owners key) ∙ e) in
    let high : owner < oldest_step step seen + length seen = w.1 in omega arith

-- a key without an owner is not seen, one with an owner is
pub owner_seen : (words : List ℕ) (seen : Seen) (step key owner : ℕ) → HoldsSeen words seen step
    → owner_in words key ≡ Some owner → is_seen seen key ≡ true
owner_seen words seen step key owner holds e =
    is_seen_in key seen (some_has (oldest_step step seen) seen key owner (sym (holds.owners key) ∙ e))

pub none_seen : (words : List ℕ) (seen : Seen) (step key : ℕ) → HoldsSeen words seen step → owner_in words key ≡ None
    → is_seen seen key ≡ false
none_seen words seen step key holds e =
    false_from_ne_true (is_seen seen key)
    (λ t. let h = has_some (oldest_step step seen) seen key (in_seen key seen t) in
    let f : None ≡ Some h.0 = sym e ∙ (holds.owners key ∙ h.1) in absurd (cc))

-- a table of seen keys, closed after the claims of rows
pub record IsClosed (opening closed : List ℕ) (seen : Seen) (step : ℕ) (rows : List Row)
    (claims : Claimed) : Type 0 where
  pub holds : HoldsSeen opening seen step
  pub below : step < first_claim
  pub claims_are : AreClaims rows claims
  pub closes : (key : ℕ) → owner_in closed key ≡ owner_after key (owner_in opening key) claims

-- the row of a claim, and the claim of a row
pub record MadeBy (rows : List Row) (key number : ℕ) : Type 0 where
  pub row : Row
  pub member : In row rows
  pub key_is : row.key ≡ key
  pub number_is : first_claim + row.number ≡ number

pub made_by : (rows : List Row) (claims : Claimed) (key number : ℕ) → AreClaims rows claims → In (key, number) claims
    → MadeBy rows key number
made_by rows claims key number are i =
    let m = in_map claim_of (key, number) rows
    (in_list (key, number) (map claim_of rows)
    (of_member (Contains (map claim_of rows)) claims (key, number) are.only i)) in
    record { row = m.0; member = m.1; key_is = ap (λ (z : ℕ × ℕ). z.0) m.2; number_is = ap (λ (z : ℕ × ℕ). z.1) m.2 }

pub claim_in : (rows : List Row) (claims : Claimed) (row : Row) → AreClaims rows claims → In row rows
    → In (claim_of row) claims
claim_in rows claims row are i =
    in_list (claim_of row) claims (of_member (λ (r : Row). Contains claims (claim_of r)) rows row are.all i)

pub claims_high : (rows : List Row) (claims : Claimed) (least : ℕ) → AreClaims rows claims → least ≤ first_claim
    → All (λ claim. least ≤ claim.1) claims
claims_high rows claims least are le k d lt =
    high (made_by rows claims (get_or claims k d).0 (get_or claims k d).1 are
    (in_list (get_or claims k d) claims (Contains-get_or claims k d lt))) where
      high : MadeBy rows (get_or claims k d).0 (get_or claims k d).1 → least ≤ (get_or claims k d).1
      high m = let at : first_claim + m.row.number ≡ (get_or claims k d).1 = m.number_is in omega arith

-- whether a row of smaller number has a row's key
abbrev pub is_beaten : List Row → Row → Bool
is_beaten rows row = list_any (λ other. nat_lt other.number row.number && (other.key == row.key)) rows

-- a key that has an owner is not fresh, and its row does not own it
module _ (opening closed : List ℕ) (seen : Seen) (step : ℕ) (rows : List Row) (claims : Claimed)
    (is : IsClosed opening closed seen step rows claims) where
  pub closed_kept : (key owner : ℕ) → owner_in opening key ≡ Some owner → owner_in closed key ≡ Some owner
  closed_kept key owner e =
      let le : owner ≤ step = step_within opening seen step key owner is.holds e in
      let below : step < first_claim = is.below in
      is.closes key ∙ (ap (λ x. owner_after key x claims) e
      ∙ kept_owner key owner claims (claims_high rows claims owner is.claims_are (omega arith)))

  seen_row : (row : Row) (owner : ℕ) → owner_in opening row.key ≡ Some owner
      → is_owned closed row ≡ is_fresh_row seen rows row
  seen_row row owner e =
      let le : owner ≤ step = step_within opening seen step row.key owner is.holds e in
      let below : step < first_claim = is.below in
      ap (is_owner (first_claim + row.number)) (closed_kept row.key owner e)
      ∙ (ne_eqb owner (first_claim + row.number) (λ same. omega arith)
      ∙ sym (ap (λ b. not b && not (is_beaten rows row)) (owner_seen opening seen step row.key owner is.holds e)))

  -- a new key's owner is a claim
  pub closed_claim : (key owner : ℕ) → owner_in opening key ≡ None → owner_in closed key ≡ Some owner
      → MadeBy rows key owner
  closed_claim key owner none e =
      ⊎_elim (λ (f : owner_in opening key ≡ Some owner). let g : None ≡ Some owner = sym none ∙ f in absurd (cc))
      (λ (i : In (key, owner) claims). made_by rows claims key owner is.claims_are i)
      (source key owner (owner_in opening key) claims (sym (is.closes key) ∙ e))

  pub closed_most : (row : Row) → In row rows
      → (last : ℕ) × (owner_in closed row.key ≡ Some last) × (last ≤ first_claim + row.number)
  closed_most row i =
      let m = at_most row.key (first_claim + row.number) (owner_in opening row.key) claims
      (claim_in rows claims row is.claims_are i) in
      (m.0, is.closes row.key ∙ m.1, m.2)

  beaten_row : (row : Row) → is_beaten rows row ≡ true → is_owned closed row ≡ false
  beaten_row row t =
      let s = some_member (λ other. nat_lt other.number row.number && (other.key == row.key)) rows t in
      let parts = and_parts (nat_lt s.0.number row.number) (s.0.key == row.key) s.2 in
      let less : s.0.number < row.number = ltb-true s.0.number row.number parts.0 in
      let m = closed_most s.0 s.1 in let le : m.0 ≤ first_claim + s.0.number = m.2 in
      ap (is_owner (first_claim + row.number)) (ap (owner_in closed) (sym (eqb-true s.0.key row.key parts.1)) ∙ m.1)
      ∙ ne_eqb m.0 (first_claim + row.number) (λ same. omega arith)

  unbeaten_row : (row : Row) → In row rows → owner_in opening row.key ≡ None → is_beaten rows row ≡ false
      → is_owned closed row ≡ true
  unbeaten_row row i none f =
      let m = closed_most row i in let made = closed_claim row.key m.0 none m.1 in
      let le : m.0 ≤ first_claim + row.number = m.2 in let at : first_claim + made.row.number ≡ m.0 = made.number_is in
      ap (is_owner (first_claim + row.number)) m.1
      ∙ eq-eqb m.0 (first_claim + row.number) (⊎_elim
      (λ (lt : made.row.number < row.number). absurd (both_ways (is_beaten rows row) f
      (member_any (λ other. nat_lt other.number row.number && (other.key == row.key)) made.row rows made.member
      (and_from (nat_lt made.row.number row.number) (made.row.key == row.key) (lt-ltb made.row.number row.number lt)
      (eq-eqb made.row.key row.key made.key_is)))))
      (λ (ge : row.number ≤ made.row.number). omega arith) (cases_lt made.row.number row.number))

  new_row : (row : Row) → In row rows → owner_in opening row.key ≡ None
      → is_owned closed row ≡ is_fresh_row seen rows row
  new_row row i none =
      ⊎_elim
      (λ (t : is_beaten rows row ≡ true). beaten_row row t
      ∙ sym ((λ j. not (none_seen opening seen step row.key is.holds none j) && not (t j))))
      (λ (f : is_beaten rows row ≡ false). unbeaten_row row i none f
      ∙ sym ((λ j. not (none_seen opening seen step row.key is.holds none j) && not (f j))))
      (cases_Bool (is_beaten rows row))

  -- a row owns its key where it is fresh
  pub row_owns : (row : Row) → In row rows → is_owned closed row ≡ is_fresh_row seen rows row
  row_owns row i = go (owner_in opening row.key) refl where
    go : (x : Option ℕ) → owner_in opening row.key ≡ x → is_owned closed row ≡ is_fresh_row seen rows row
    go None e = new_row row i e
    go (Some owner) e = seen_row row owner e

-- no key of those that there was room for found the table full
pub none_full : NumbersFit → (opening closed keys full : List ℕ) (claims : Claimed) → IsMap opening → IsMap closed
    → length closed ≡ length opening
    → length (entries_in opening) + length keys ≤ slot_count opening
    → ((key : ℕ) → owner_in closed key ≡ owner_after key (owner_in opening key) claims)
    → All (λ claim. Contains keys claim.0) claims → All (Contains keys) full → All (HadNoRoom closed) full → full ≡ []
none_full law opening closed keys [] claims is is' size room closes asked among none = refl
none_full law opening closed keys (key ∷ full) claims is is' size room closes asked among none =
    let h = All-head (HadNoRoom closed) key full none in
    let all : List ℕ = keys_in opening ++ keys in
    let more : length (key ∷ keys_in closed) ≤ length all = fits_in law (key ∷ keys_in closed) all (
      λ i. let s = in_map (λ (e : ℕ × ℕ). e.0) key (entries_in closed) i in
          let f : None ≡ Some s.0.1 = sym h.absent ∙ (ap (owner_in closed) (sym s.2) ∙ is'.owner s.0.0 s.0.1 s.1) in
          absurd (cc),
      is'.once,
    )
    (λ k i. ⊎_elim
    (λ (e : key ≡ k). in_right k (keys_in opening) keys
    (subst (λ x. In x keys) e (in_list key keys (All-head (Contains keys) key full among))))
    (λ (r : In k (keys_in closed)). stood k (in_map (λ (e : ℕ × ℕ). e.0) k (entries_in closed) r)) i) in
    let n : length (keys_in closed) ≡ length (entries_in closed) =
    length-map (entries_in closed) (λ (e : ℕ × ℕ). e.0) in
    let m : length (keys_in opening) ≡ length (entries_in opening) =
    length-map (entries_in opening) (λ (e : ℕ × ℕ). e.0) in
    let a : length all ≡ length (keys_in opening) + length keys = length-append (keys_in opening) keys in
    let f : length (entries_in closed) ≡ slot_count closed = h.full in
    let s : slot_count closed ≡ slot_count opening = ap (λ x. x / 2) size in
    absurd (omega arith) where
      stood : (k : ℕ) → (x : ℕ × ℕ) × In x (entries_in closed) × (x.0 ≡ k) → In k (keys_in opening ++ keys)
      stood k (x, i, e) =
          ⊎_elim
          (λ (o : owner_in opening x.0 ≡ Some x.1). in_left k (keys_in opening) keys
          (subst (λ y. In y (keys_in opening)) e
          (mapped (λ (e : ℕ × ℕ). e.0) x (entries_in opening) (is.entry x.0 x.1 o))))
          (λ (c : In (x.0, x.1) claims). in_right k (keys_in opening) keys
          (subst (λ y. In y keys) e (in_list x.0 keys
          (of_member (λ (claim : ℕ × ℕ). Contains keys claim.0) claims (x.0, x.1) asked c))))
          (source x.0 x.1 (owner_in opening x.0) claims (sym (closes x.0) ∙ is'.owner x.0 x.1 i))

-- all entries are since step 0
pub all_since : (es : List (ℕ × ℕ)) → filter (λ (e : ℕ × ℕ). nat_le 0 e.1) es ≡ es
all_since [] = refl
all_since (e ∷ es) =
    ap (λ b. if b then e ∷ filter (λ (e : ℕ × ℕ). nat_le 0 e.1) es else filter (λ (e : ℕ × ℕ). nat_le 0 e.1) es)
    (le-leb 0 e.1 (omega arith))
    ∙ ap (λ xs. e ∷ xs) (all_since es)

-- a table of seen keys has as many entries as there are keys
pub entries_count : NumbersFit → (words : List ℕ) (seen : Seen) (step : ℕ) → IsMap words → HoldsSeen words seen step
    → length (entries_in words) ≡ key_count seen
entries_count law words seen step is holds =
    let none : 0 - oldest_step step seen ≡ 0 = omega arith in
    ap length (sym (all_since (entries_in words)))
    ∙ (count_since_is law words seen step 0 is holds ∙ ap (λ n. key_count (drop n seen)) none)

-- its owners are steps up to the last
pub owners_within : (words : List ℕ) (seen : Seen) (step : ℕ) → IsMap words → HoldsSeen words seen step
    → All (λ entry. entry.1 ≤ step) (entries_in words)
owners_within words seen step is holds k d lt =
    let e : ℕ × ℕ = get_or (entries_in words) k d in
    step_within words seen step e.0 e.1 holds
    (is.owner e.0 e.1 (in_list e (entries_in words) (Contains-get_or (entries_in words) k d lt)))

-- a table of one key
pub holds_one : (words : List ℕ) (key : ℕ)
    → ((other : ℕ) → owner_in words other ≡ (if key == other then Some 0 else None))
    → HoldsSeen words ((key ∷ []) ∷ []) 0
holds_one words key owners = record {
  few = omega arith;
  in_order = All-cons AreInOrder (key ∷ []) [] (λ i e low high. absurd (omega arith)) (All-nil AreInOrder);
  once = differ (key ∷ []) (λ i. i, tt);
  owners = λ other. owners other ∙ sym (one other);
} where
  one : (other : ℕ) → step_of 0 ((key ∷ []) ∷ []) other ≡ (if key == other then Some 0 else None)
  one other =
      elim (key == other) as (λ b. let zeroth : ℕ = 0 in (if b || false then Some zeroth else None)
      ≡ (if b then Some zeroth else None)) [ true ↦ refl | false ↦ refl ]

-- the claims of rows are theirs, in any order
pub own_claims : (rows : List Row) → AreClaims rows (map claim_of rows)
own_claims rows = record {
  all = λ k d lt. contained (claim_of (get_or rows k d)) (map claim_of rows)
      (mapped claim_of (get_or rows k d) rows (in_list (get_or rows k d) rows (Contains-get_or rows k d lt)));
  only = All-contains_itself (map claim_of rows);
}

pub moved_claims : (rows : List Row) (claims others : Claimed) → IsPermutation claims others → AreClaims rows claims
    → AreClaims rows others
moved_claims rows claims others moved are = record {
  all = All-weaker (λ (row : Row). Contains claims (claim_of row)) (λ row. Contains others (claim_of row))
      (λ row c. Contains-permutation claims others (claim_of row) moved c) rows are.all;
  only = All-permutation (Contains (map claim_of rows)) claims others moved are.only;
}
