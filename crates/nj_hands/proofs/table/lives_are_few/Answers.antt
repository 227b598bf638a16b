-- The live candidates are no more than the candidates.
use Rattle.std.proofs.Common.{ap, sym, ◌∙◌}
use Rattle.nj_search_defs.specs.Game.{Bounds}
use Rattle.nj_hands.proofs.Rooms.{few_live}
use Rattle.nj_hands.proofs.table.lives_are_few.Goals as goal

pub returns-clause-few : goal.returns-clause-few
returns-clause-few c =
    let bounds = c.bounds-bounds.ensures in
    few_live c.args.search.now c.live_rows_are_live.ensures
    (c.a_step_is_bounded.ensures.candidates c.args.search.now (sym (ap (λ (b : Bounds). b.inputs) bounds.bounds)
    ∙ bounds.inputs))
