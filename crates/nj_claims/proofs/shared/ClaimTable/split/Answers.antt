-- One pass more is out.
use Rattle.std.proofs.Common.{ap, sym, ◌∙◌, subst, ℕ}
use Rattle.atomic_table.specs.Table.{Splits}
use Rattle.nj_claims.specs.Rule.{Holds}
use Rattle.nj_claims.specs.Steps.{lent_view, given_view}
use Rattle.nj_claims.specs.Passes.{PassView, TableView}
use Rattle.nj_claims.proofs.Passing.{splits, is_zero, has_words}
use Rattle.nj_claims.proofs.shared.ClaimTable.split.Goals as goal

pub split_seat-requires : goal.split_seat-requires
split_seat-requires c =
    let root = is_zero c.pass.inside.seat.id (ap (λ (p : PassView). p.is_root) c.pass.view_is ∙ c.requires.root) in (
      ap (λ (p : PassView). p.table) c.pass.view_is
          ∙ (c.requires.own ∙ sym (ap (λ (t : TableView). t.id) c.self.view_is)),
      has_words _ _ c.self.invariant.4 c.self.invariant.1,
      subst (λ (id : ℕ). Splits (Holds c.self.inside.table.shared.key) id c.pass.inside.seat.me.0
          (lent_view c.pass.inside.seat.me.0) (given_view c.pass.inside.seat.me.0)) (sym root)
          (splits c.self.inside.table.shared.key c.pass.inside.seat.me.0 c.pass.invariant.0),
    )
