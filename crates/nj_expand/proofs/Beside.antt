-- The keys of the fresh rows in any order, and the fresh rows by claims beside the seen keys.
use Rattle.std.proofs.Common.{◌≡◌, ◌≢◌, ℕ, ◌-◌, ◌<◌, ◌==◌, ⊎_elim, Bool, true, List, drop, sym, ap, ◌∙◌, subst, arith, eq-eqb, ne_eqb}
use Rattle.std.specs.Prelude.{Some, None, filter, if◌then◌else◌}
use Rattle.std.specs.List.{All, AllPairs, Contains}
use Rattle.std.specs.List.Sorted.{IsPermutation}
use Rattle.std.proofs.lemmas.Bool.Decides.{eqb_tells, Decides-eqb}
use Rattle.std.proofs.lemmas.List.Sorted.{All-permutation, length_permutation, list_any-IsPermutation}
use Rattle.std.proofs.lemmas.Map.Keys.{IsDistinct-IsPermutation}
use Rattle.std.proofs.lemmas.Map.Made.{AllPairs-from_IsDistinct, IsDistinct-from_AllPairs}
use Rattle.nj_search_defs.specs.Pruning.{Seen}
use Rattle.nj_search_defs.specs.Outcome.{seen_of}
use Rattle.nj_rows.specs.declared.Row.{Row}
use Rattle.nj_claims.specs.Tables.{owner_in, owner_after}
use Rattle.nj_seen.specs.declared.forgetting.SeenKeys.{SeenKeys}
use Rattle.nj_seen.specs.Rows.{IsRising, is_fresh_row, fresh_rows}
use Rattle.nj_seen.specs.Held.{HoldsSeen, AreClaims, first_claim, is_owned_unseen, oldest_step}
use Rattle.nj_expand.specs.Held.{Held, live_rows}
use Rattle.nj_expand.specs.Closed.{AreRowsOf, IsClosedFor}
use Rattle.nj_expand.specs.Ending.{fresh_rows_in, CanAdd, IsAdded, IsLeft}

flips : (x y : ℕ) → (x == y) ≡ (y == x)
flips x y =
    ⊎_elim (λ t. t.0 ∙ sym (eq-eqb y x (sym t.1))) (λ t. t.0 ∙ sym (ne_eqb y x (λ e. t.1 (sym e)))) (eqb_tells x y)

-- different numbers stay so when they change places
apart_moved : (xs ys : List ℕ) → IsPermutation xs ys → AllPairs (λ a b. a ≢ b) xs → AllPairs (λ a b. a ≢ b) ys
apart_moved xs ys moved apart =
    AllPairs-from_IsDistinct Decides-eqb ys
    (IsDistinct-IsPermutation (λ a b. a == b) flips xs ys moved (IsDistinct-from_AllPairs Decides-eqb xs apart))

-- what can be added can be added in any order
pub can_add_moved : (words keys others : List ℕ) → IsPermutation keys others → CanAdd words keys → CanAdd words others
can_add_moved words keys others moved can = record {
  table = can.table;
  named = All-permutation (λ (key : ℕ). key ≢ 0) keys others moved can.named;
  once = apart_moved keys others moved can.once;
  new = All-permutation (λ key. owner_in words key ≡ None) keys others moved can.new;
  room = let room = can.room in let many = length_permutation keys others moved in omega (arith, room, many);
}

-- and makes the same
pub added_moved : (before keys others after : List ℕ) (step : ℕ) → IsPermutation keys others
    → IsAdded before others step after → IsAdded before keys step after
added_moved before keys others after step moved added = record {
  table = added.table;
  size = added.size;
  owners = λ key. added.owners key ∙ ap (λ b. if b then Some step else owner_in before key)
      (sym (list_any-IsPermutation (λ k. k == key) keys others moved));
}

-- the rows that own their keys beside the seen keys, and whose keys are not seen, are the fresh ones in some order
pub owned_fresh : (h : Held) (left : SeenKeys) (words claims : List ℕ) (rows fresh : List Row) → IsLeft h left
    → h.state.step < first_claim
    → HoldsSeen words h.state.seen h.state.step → IsRising (live_rows h) → AreRowsOf h rows → IsClosedFor h claims
    → fresh ≡ filter (is_owned_unseen claims words left.oldest) rows
    → ((words opening closed : List ℕ) (seen : Seen) (step from older : ℕ) (rows : List Row) (claims : List (ℕ × ℕ))
    → HoldsSeen words seen step
    → HoldsSeen opening (drop older (drop (from - oldest_step step seen) seen)) step → step < first_claim
    → AreClaims rows claims
    → ((key : ℕ) → owner_in closed key ≡ owner_after key (owner_in opening key) claims)
    → All (λ row. is_owned_unseen closed words from row
    ≡ is_fresh_row (drop (from - oldest_step step seen) seen) rows row) rows)
    → ((some rows : List Row) (test : Row → Bool) (seen : Seen) → AllPairs (λ a b. a.number ≢ b.number) some
    → IsRising rows → All (Contains rows) some
    → All (λ row. test row ≡ is_fresh_row seen rows row) rows
    → All (λ row. is_fresh_row seen rows row ≡ true → Contains some row) rows
    → IsPermutation (filter test some) (fresh_rows seen rows))
    → IsPermutation fresh (fresh_rows_in h)
owned_fresh h left words claims rows fresh is low holds rising are closed found owns order =
    let from : ℕ = left.oldest in
    let some : drop (from - oldest_step h.state.step h.state.seen) h.state.seen ≡ seen_of h.bounds h.state = is.gone in
    let owned : All (λ row. is_owned_unseen claims words from row
    ≡ is_fresh_row (seen_of h.bounds h.state) (live_rows h) row) (live_rows h) =
    subst (λ (seen : Seen). All (λ row. is_owned_unseen claims words from row ≡ is_fresh_row seen (live_rows h) row)
    (live_rows h)) some
    (owns words closed.opening claims h.state.seen h.state.step from closed.older (live_rows h) closed.claims holds
    (subst (λ (seen : Seen). HoldsSeen closed.opening (drop closed.older seen) h.state.step) (sym some) closed.seen) low
    closed.claimed closed.owners) in
    subst (λ (xs : List Row). IsPermutation xs (fresh_rows_in h)) (sym found)
    (order rows (live_rows h) (is_owned_unseen claims words from) (seen_of h.bounds h.state) are.once rising
    are.live owned are.fresh)
