-- The words are a table.
use Rattle.std.proofs.Common.{rules, arith, ◌/◌, subst, sym, refl, List, [], ℕ}
use Rattle.atomic_table.specs.Table.{opening}
use Rattle.nj_claims.specs.Rule.{Holds, first_view}
use Rattle.nj_claims.proofs.Passing.{opens_well}
use Rattle.nj_claims.proofs.shared.ClaimTable.open.Goals as goal

pub of_words-requires : goal.of_words-requires
of_words-requires c = let e = c.as_slice.ensures.value in let t = c.as_slice.type_inv in
    subst (λ (ws : List ℕ).
    Holds record { slots = c.len-slots.result / 2; words = c.args.words } (opening ws [] first_view)) (sym e)
    (opens_well record { slots = c.len-slots.result / 2; words = c.args.words } c.args.words.items refl
    (omega arith) c.requires (search rules))
