-- One pass less is out.
use Rattle.std.proofs.Common.{ap, sym, ◌∙◌, subst, ℕ}
use Rattle.atomic_table.specs.Table.{Joins}
use Rattle.nj_claims.specs.Rule.{Holds, spent_view}
use Rattle.nj_claims.specs.Steps.{joined_view}
use Rattle.nj_claims.specs.Passes.{PassView, TableView}
use Rattle.nj_claims.proofs.Passing.{joins, is_zero, has_words}
use Rattle.nj_claims.proofs.shared.ClaimTable.join.Goals as goal

pub join_seat-requires : goal.join_seat-requires
join_seat-requires c =
    let root = is_zero c.pass.inside.seat.id (ap (λ (p : PassView). p.is_root) c.pass.view_is ∙ c.requires.root) in
    let table = sym (ap (λ (t : TableView). t.id) c.self.view_is) in (
      ap (λ (p : PassView). p.table) c.pass.view_is ∙ (c.requires.own.0 ∙ table),
      ap (λ (p : PassView). p.table) c.other.view_is ∙ (c.requires.own.1 ∙ table),
      c.other.invariant.2,
      has_words _ _ c.self.invariant.4 c.self.invariant.1,
      subst (λ (id : ℕ). Joins (Holds c.self.inside.table.shared.key) id c.pass.inside.seat.me.0 c.other.inside.seat.id
          c.other.inside.seat.me.0
          (joined_view c.pass.inside.seat.me.0 c.other.inside.seat.me.0) spent_view) (sym root)
          (joins c.self.inside.table.shared.key c.pass.inside.seat.me.0 c.other.inside.seat.me.0 c.other.inside.seat.id
          c.pass.invariant.0 c.other.invariant.0 c.pass.invariant.1 c.other.invariant.1),
    )
