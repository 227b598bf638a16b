-- What all hands bring back serves the end of the step.
use Rattle.std.proofs.Common.{◌≡◌, ◌≢◌, ℕ, suc, ◌+◌, ◌*◌, ◌<◌, ◌≤◌, ◌==◌, ⊎_elim, Bool, true, false, not, List, [], ◌∷◌, ◌++◌, length, get_or, refl, sym, ap, ◌∙◌, subst, arith, if◌then◌else◌, append-nil}
use Rattle.std.specs.Prelude.{map}
use Rattle.std.specs.List.{All, AllPairs, Contains, sum_by}
use Rattle.std.specs.List.Sorted.{IsPermutation}
use Rattle.std.proofs.lemmas.Bool.{eqb-true, eqb-false, eq-eqb, ne_eqb, and_parts}
use Rattle.std.proofs.lemmas.List.{length-map, drop_all}
use Rattle.std.proofs.Math.ListN.{get_or-map}
use Rattle.std.proofs.lemmas.List.Elements.{All-map, All-weaker, All-contains, All-contains_itself, Contains-append_left, Contains-append_right, Contains-append_cases}
use Rattle.std.proofs.lemmas.List.Kept.{AllPairs-cons}
use Rattle.std.proofs.lemmas.List.Sorted.{IsPermutation-trans, IsPermutation-sym, IsPermutation-map, Contains-permutation, length_permutation, sum_by-IsPermutation}
use Rattle.std.proofs.lemmas.List.Sums.{sum_by-append, sum_by-cons, get_or-le-sum_by}
use Rattle.nj_claims.specs.Tables.{IsTable, entries_in, owner_in, owner_after, slot_count}
use Rattle.nj_claims.specs.Passes.{PassView, WasOwner, HadNoRoom}
use Rattle.nj_search_defs.specs.Outcome.{seen_of}
use Rattle.nj_search_defs.specs.Pruning.{Seen, is_seen}
use Rattle.nj_rows.specs.declared.Row.{Row}
use Rattle.nj_seen.specs.Rows.{IsRising, is_fresh_row}
use Rattle.nj_seen.specs.Held.{first_claim, claim_of, is_owner, is_owned, HoldsSeen, AreClaims}
use Rattle.nj_expand.specs.Held.{Held, live_rows}
use Rattle.nj_expand.specs.Closed.{AreRowsOf, IsClosedFor}
use Rattle.nj_hands.specs.Room.{IsOpenFor}
use Rattle.nj_hands.specs.Claimed.{SawLess, MayBeDropped, AreClaimed}

-- ---- numbers that come once

-- 1 for a row of this number
abbrev pub one_at : ℕ → Row → ℕ
one_at number row = if row.number == number then 1 else 0

one_there : (number : ℕ) (row : Row) → row.number ≡ number → one_at number row ≡ 1
one_there number row is = ap (λ (b : Bool). if b then 1 else 0) (eq-eqb row.number number is)

one_not : (number : ℕ) (row : Row) → row.number ≢ number → one_at number row ≡ 0
one_not number row other = ap (λ (b : Bool). if b then 1 else 0) (ne_eqb row.number number other)

none_later : (number : ℕ) (rows : List Row) → All (λ later. number < later.number) rows
    → sum_by (one_at number) rows ≡ 0
none_later number [] later = refl
none_later number (row ∷ rows) later =
    let here = one_not number row (λ is. absurd (let above = later 0 row (omega arith) in omega arith)) in
    let rest = none_later number rows (λ k d within. later (suc k) d (omega arith)) in
    omega (arith, sum_by-cons (one_at number) row rows)

rising_once : (number : ℕ) (rows : List Row) → IsRising rows → sum_by (one_at number) rows ≤ 1
rising_once number [] rising = omega arith
rising_once number (row ∷ rows) rising = by_test (row.number == number) refl (rising_once number rows rising.1)
  where
    by_test : (b : Bool) → (row.number == number) ≡ b → sum_by (one_at number) rows ≤ 1
        → sum_by (one_at number) (row ∷ rows) ≤ 1
    by_test true e rest =
        let same = eqb-true row.number number e in
        let here = one_there number row same in
        let none = none_later number rows (subst (λ (n : ℕ). All (λ later. n < later.number) rows) same rising.0) in
        omega (arith, sum_by-cons (one_at number) row rows)
    by_test false e rest =
        let here = one_not number row (eqb-false row.number number e) in
        omega (arith, sum_by-cons (one_at number) row rows)

once_apart : (rows : List Row) → ((number : ℕ) → sum_by (one_at number) rows ≤ 1)
    → AllPairs (λ a b. a.number ≢ b.number) rows
once_apart [] once = λ i j d low high. absurd (omega arith)
once_apart (row ∷ rows) once = AllPairs-cons (λ (a b : Row). a.number ≢ b.number) row rows
    (λ k d within is.
    absurd (let here = one_there row.number row refl in
    let there = one_there row.number (get_or rows k d) (sym is) in
    let most = once row.number in
    let some = get_or-le-sum_by (one_at row.number) rows k d within in
    omega (arith, sum_by-cons (one_at row.number) row rows)))
    (once_apart rows (λ number. let most = once number in omega (arith, sum_by-cons (one_at number) row rows)))

-- ---- the rows

-- a row of which a smaller number was seen does not own its key
not_owned : (opening closed : List ℕ) (claims seen : List (ℕ × ℕ)) (row : Row)
    → All (λ entry. WasOwner opening closed claims entry.0 entry.1) seen → SawLess seen row
    → is_owned closed row ≡ false
not_owned opening closed claims seen row were saw =
    let was : WasOwner opening closed claims row.key saw.number = All-contains (λ entry.
    WasOwner opening closed claims entry.0 entry.1) seen (row.key, saw.number) were saw.stands in
    let owner : ℕ = was.bound.0 in
    let below : owner ≤ saw.number = was.bound.2 in
    let less = saw.less in
    ap (is_owner (first_claim + row.number)) was.bound.1
    ∙ ne_eqb owner (first_claim + row.number) (λ is. absurd (omega arith))

-- the rows that were kept of the live ones serve the end of the step
pub rows_serve : (held : Held) (opening closed : List ℕ) (claims seen : List (ℕ × ℕ)) (rows dropped : List Row)
    → IsPermutation (live_rows held) (rows ++ dropped) → All (MayBeDropped seen) dropped
    → All (λ entry. WasOwner opening closed claims entry.0 entry.1) seen
    → All (λ row. is_owned closed row ≡ is_fresh_row [] (live_rows held) row) (live_rows held)
    → IsRising (live_rows held) → AreRowsOf held rows
rows_serve held opening closed claims seen rows dropped moved may were owned rising = record {
  live = All-weaker (Contains rows) (Contains (live_rows held)) (λ row there. Contains-permutation (rows ++ dropped)
      (live_rows held) row back (Contains-append_left rows dropped row there)) rows
      (All-contains_itself rows);
  once = once_apart rows (λ number.
      let all = rising_once number (live_rows held) rising in
      let same = sum_by-IsPermutation (one_at number) (live_rows held) (rows ++ dropped) moved in
      omega (arith, sum_by-append (one_at number) rows dropped));
  wins = λ k d within win.
      place (get_or (live_rows held) k d) (here k d within) (λ is_dropped. absurd (absurd_win (is_dropped.0) win));
  fresh = λ k d within fresh. place (get_or (live_rows held) k d) (here k d within)
      (λ is_dropped. absurd (absurd_win (not_owned opening closed claims seen (get_or (live_rows held) k d) were
      is_dropped.1) (owned k d within ∙ first k d fresh)));
} where
  -- what is fresh is so where nothing is seen
  first : (k : ℕ) (d : Row)
      → is_fresh_row (seen_of held.bounds held.state) (live_rows held) (get_or (live_rows held) k d) ≡ true
      → is_fresh_row [] (live_rows held) (get_or (live_rows held) k d) ≡ true
  first k d fresh =
      (and_parts (not (is_seen (seen_of held.bounds held.state) (get_or (live_rows held) k d).key)) _ fresh).1

  back : IsPermutation (rows ++ dropped) (live_rows held)
  back = IsPermutation-sym (live_rows held) (rows ++ dropped) moved

  here : (k : ℕ) (d : Row) → k < length (live_rows held) → Contains (live_rows held) (get_or (live_rows held) k d)
  here k d within = All-contains_itself (live_rows held) k d within

  absurd_win : {b : Bool} → b ≡ false → b ≡ true → ⊥
  absurd_win {b} is_false is_true = cc

  place : (row : Row) → Contains (live_rows held) row → (MayBeDropped seen row → ⊥) → Contains rows row
  place row there kept =
      ⊎_elim (λ stays. stays) (λ gone. absurd (kept (All-contains (MayBeDropped seen) dropped row may gone)))
      (Contains-append_cases rows dropped row (Contains-permutation (live_rows held) (rows ++ dropped) row moved there))

-- ---- the table

-- where no claim was refused for want of room, all were placed
none_refused : (rows : List Row) → map (λ row. row.key) rows ≡ [] → rows ≡ []
none_refused [] none = refl
none_refused (row ∷ rows) none = absurd (let e = ap length none in omega (arith, e))

-- the keys of rows that are claimed are among all their keys
keys_there : (rows others : List Row) → All (Contains others) rows
    → All (λ row. Contains (map (λ other. other.key) others) row.key) rows
keys_there rows others there =
    All-weaker (Contains others) (λ row. Contains (map (λ other. other.key) others) row.key)
    (λ row is. one_key row others is) rows there
  where
    one_key : (row : Row) (others : List Row) → Contains others row → Contains (map (λ other. other.key) others) row.key
    one_key row others is = (
      is.0,
      (let many = length-map others (λ (other : Row). other.key) in let within = is.1 in omega arith),
      get_or-map (λ (other : Row). other.key) others is.0 row ∙ ap (λ (other : Row). other.key) is.2,
    )

-- the laws of the crate below that are used
pub record Laws : Type 0 where
  pub own : (rows : List Row) → AreClaims rows (map claim_of rows)
  pub moved : (rows : List Row) (claims others : List (ℕ × ℕ)) → IsPermutation claims others → AreClaims rows claims
      → AreClaims rows others
  pub owned : (opening closed : List ℕ) (seen : Seen) (step : ℕ) (rows : List Row) (claims : List (ℕ × ℕ))
      → HoldsSeen opening seen step → step < first_claim → AreClaims rows claims
      → ((key : ℕ) → owner_in closed key ≡ owner_after key (owner_in opening key) claims)
      → All (λ row. is_owned closed row ≡ is_fresh_row seen rows row) rows
  pub room : (opening closed : List ℕ) (keys full : List ℕ) (claims : List (ℕ × ℕ))
      → IsTable opening → IsTable closed → length closed ≡ length opening
      → length (entries_in opening) + length keys ≤ slot_count opening
      → ((key : ℕ) → owner_in closed key ≡ owner_after key (owner_in opening key) claims)
      → All (λ claim. Contains keys claim.0) claims → All (Contains keys) full → All (HadNoRoom closed) full
      → full ≡ []

-- a table closed after the claims of these rows, through a pass that knew nothing
pub record IsClosedAfter (opening closed : List ℕ) (pass : PassView) : Type 0 where
  pub table : IsTable closed
  pub size : length closed ≡ length opening
  pub owners : (key : ℕ) → owner_in closed key ≡ owner_after key (owner_in opening key) pass.claims
  pub seen : All (λ entry. WasOwner opening closed pass.claims entry.0 entry.1) pass.seen
  pub full : All (HadNoRoom closed) pass.full

-- no claim was refused
no_refusal : (laws : Laws) (held : Held) (opening closed : List ℕ) (root pass : PassView) (lives rows : List Row)
    → IsOpenFor held opening
    → length (live_rows held) ≤ length held.state.front * held.bounds.inputs → IsPermutation (live_rows held) lives
    → root.claims ≡ [] → root.full ≡ []
    → (claimed : AreClaimed lives root pass rows) → IsClosedAfter opening closed pass → claimed.refused ≡ []
no_refusal laws held opening closed root pass lives rows opened few moved no_claims no_full claimed after =
    none_refused claimed.refused (sym full_is
    ∙ laws.room opening closed keys pass.full pass.claims opened.table after.table after.size
    (let many_keys : length keys ≡ length all = length-map all (λ (row : Row). row.key) in
    let as_many : length all ≡ length lives = length_permutation lives all claimed.parts in
    let as_lives : length lives ≡ length (live_rows held) = length_permutation (live_rows held) lives moved in
    let room = opened.room in omega arith)
    after.owners
    (subst (λ c. All (λ claim. Contains keys claim.0) c) (sym claims_are)
    (All-map (λ claim. Contains keys claim.0) claim_of claimed.placed (keys_there claimed.placed all in_left)))
    (subst (λ f. All (Contains keys) f) (sym full_is)
    (All-map (Contains keys) (λ (row : Row). row.key) claimed.refused (keys_there claimed.refused all in_right)))
    after.full)
  where
    all : List Row
    all = claimed.placed ++ claimed.refused

    keys : List ℕ
    keys = map (λ row. row.key) all

    claims_are : pass.claims ≡ map claim_of claimed.placed
    claims_are = claimed.claims ∙ ap (λ c. c ++ map claim_of claimed.placed) no_claims

    full_is : pass.full ≡ map (λ row. row.key) claimed.refused
    full_is = claimed.full ∙ ap (λ f. f ++ map (λ row. row.key) claimed.refused) no_full

    in_left : All (Contains all) claimed.placed
    in_left = All-weaker (Contains claimed.placed) (Contains all) (λ row is.
        Contains-append_left claimed.placed claimed.refused row is) claimed.placed (All-contains_itself claimed.placed)

    in_right : All (Contains all) claimed.refused
    in_right = All-weaker (Contains claimed.refused) (Contains all) (λ row is. Contains-append_right claimed.placed
        claimed.refused row is) claimed.refused (All-contains_itself claimed.refused)

-- the rows and the closed table serve the end of the step
pub all_serves : (laws : Laws) (held : Held) (opening closed : List ℕ) (root pass : PassView) (lives rows : List Row)
    → IsOpenFor held opening → held.state.step < first_claim
    → IsRising (live_rows held) → length (live_rows held) ≤ length held.state.front * held.bounds.inputs
    → IsPermutation (live_rows held) lives
    → root.claims ≡ [] → root.seen ≡ [] → root.full ≡ [] → AreClaimed lives root pass rows
    → IsClosedAfter opening closed pass
    → AreRowsOf held rows × IsClosedFor held closed
all_serves laws held opening closed root pass lives rows opened step rising few moved no_claims no_seen no_full claimed
    after = (
      rows_serve held opening closed pass.claims pass.seen rows claimed.dropped
          (IsPermutation-trans (live_rows held) lives
          (rows ++ claimed.dropped) moved claimed.choice) claimed.dropped_may after.seen
          (laws.owned opening closed [] held.state.step (live_rows held) pass.claims opened.seen step are_claims
          after.owners) rising,
      record {
        opening = opening;
        claims = pass.claims;
        older = length (seen_of held.bounds held.state);
        table = after.table;
        seen = subst (λ (seen : Seen). HoldsSeen opening seen held.state.step)
            (sym (drop_all (length (seen_of held.bounds held.state)) (seen_of held.bounds held.state) (omega arith)))
            opened.seen;
        claimed = are_claims;
        owners = after.owners;
      },
    ) where
      none : claimed.refused ≡ []
      none = no_refusal laws held opening closed root pass lives rows opened few moved no_claims no_full claimed after

      placed : IsPermutation (live_rows held) claimed.placed
      placed = IsPermutation-trans (live_rows held) lives claimed.placed moved
          (subst (λ r. IsPermutation lives r) (ap (λ r. claimed.placed ++ r) none
          ∙ append-nil claimed.placed) claimed.parts)

      claims_are : pass.claims ≡ map claim_of claimed.placed
      claims_are = claimed.claims ∙ ap (λ c. c ++ map claim_of claimed.placed) no_claims

      are_claims : AreClaims (live_rows held) pass.claims
      are_claims = subst (λ c. AreClaims (live_rows held) c) (sym claims_are)
          (laws.moved (live_rows held) (map claim_of (live_rows held)) (map claim_of claimed.placed)
          (IsPermutation-map claim_of (live_rows held) claimed.placed placed) (laws.own (live_rows held)))
