-- The claims of a step in a table beside the seen keys'.
use Rattle.std.proofs.Common.{◌≡◌, ℕ, zero, suc, ◌-◌, Bool, true, false, not, ◌&&◌, List, [], ◌∷◌, drop, refl, sym, ap, ◌∙◌, arith}
use Rattle.std.specs.Prelude.{None}
use Rattle.std.specs.List.{concat}
use Rattle.std.proofs.lemmas.Bool.{false_from_ne_true, both_ways}
use Rattle.std.proofs.lemmas.List.Elements.{All-nil}
use Rattle.nj_search_defs.specs.Pruning.{Seen, is_seen}
use Rattle.nj_rows.specs.declared.Row.{Row}
use Rattle.nj_claims.specs.Tables.{owner_in}
use Rattle.nj_seen.specs.Rows.{is_fresh_row}
use Rattle.nj_seen.specs.Held.{AreInOrder, HoldsSeen, is_owned_unseen, is_owner_since, oldest_step}
use Rattle.nj_seen.proofs.Members.{In, in_right}
use Rattle.nj_seen.proofs.Claims.{Claimed, IsClosed, is_beaten, is_seen_in, in_seen, row_owns}
use Rattle.nj_seen.proofs.Added.{since_seen}

-- a table without a key
pub holds_none : (words : List ℕ) (step : ℕ) → ((key : ℕ) → owner_in words key ≡ None) → HoldsSeen words [] step
holds_none words step bare = record {
  few = omega arith;
  in_order = All-nil AreInOrder;
  once = λ i j d low high. absurd (omega arith);
  owners = bare;
}

-- what later generations have, all have
in_later : (key n : ℕ) (seen : Seen) → In key (concat (drop n seen)) → In key (concat seen)
in_later key zero seen i = i
in_later key (suc n) [] i = i
in_later key (suc n) (keys ∷ later) i = in_right key keys (concat later) (in_later key n later i)

later_unseen : (key n : ℕ) (seen : Seen) → is_seen seen key ≡ false → is_seen (drop n seen) key ≡ false
later_unseen key n seen none =
    false_from_ne_true (is_seen (drop n seen) key)
    (λ t. both_ways (is_seen seen key) none
    (is_seen_in key seen (in_later key n seen (in_seen key (drop n seen) t))))

-- a row that owns its key beside the seen keys, and is not seen, is fresh
pub row_owns_beside : (words opening closed : List ℕ) (seen : Seen) (step from older : ℕ)
    (rows : List Row) (claims : Claimed)
    → HoldsSeen words seen step → IsClosed opening closed
    (drop older (drop (from - oldest_step step seen) seen)) step rows claims
    → (row : Row) → In row rows → is_owned_unseen closed words from row
    ≡ is_fresh_row (drop (from - oldest_step step seen) seen) rows row
row_owns_beside words opening closed seen step from older rows claims holds is row i =
    ap (λ b. b && not (is_owner_since from (owner_in words row.key)))
    (row_owns opening closed (drop older some) step rows claims is row i)
    ∙ ap (λ b. (not (is_seen (drop older some) row.key) && not (is_beaten rows row)) && not b)
    (since_seen words seen step from row.key holds)
    ∙ go (is_seen some row.key) refl where
      some : Seen
      some = drop (from - oldest_step step seen) seen

      go : (b : Bool) → is_seen some row.key ≡ b
          → ((not (is_seen (drop older some) row.key) && not (is_beaten rows row)) && not (is_seen some row.key))
          ≡ (not (is_seen some row.key) && not (is_beaten rows row))
      go true t = ap (λ b. (not (is_seen (drop older some) row.key) && not (is_beaten rows row)) && not b) t
          ∙ last_false (not (is_seen (drop older some) row.key) && not (is_beaten rows row))
          ∙ sym (ap (λ b. not b && not (is_beaten rows row)) t) where
            last_false : (b : Bool) → (b && false) ≡ false
            last_false true = refl
            last_false false = refl
      go false f = ap (λ b. (not (is_seen (drop older some) row.key) && not (is_beaten rows row)) && not b) f
          ∙ (ap (λ b. (not b && not (is_beaten rows row)) && true) (later_unseen row.key older some f)
          ∙ last_true (not (is_beaten rows row))) ∙ sym (ap (λ b. not b && not (is_beaten rows row)) f) where
            last_true : (b : Bool) → (b && true) ≡ b
            last_true true = refl
            last_true false = refl
