use Rattle.nj_search.proofs.StepEnds.{winner_stands, won_outcome}
use Rattle.nj_search.proofs.searching.won.Goals as goal

pub movie-requires-clause-place : goal.movie-requires-clause-place
movie-requires-clause-place c =
    (winner_stands c.winners_tell_parents.ensures c.allowed_pads_come_once.ensures.named c.args.search.now
    c.args.row.now
    c.bounds-bounds.result.inputs c.bounds-bounds.ensures.inputs c.bounds-bounds.ensures.few_inputs
    c.requires.row).parent.place

pub returns : goal.returns
returns c =
    let winner =
    winner_stands c.winners_tell_parents.ensures c.allowed_pads_come_once.ensures.named c.args.search.now
    c.args.row.now
    c.bounds-bounds.result.inputs c.bounds-bounds.ensures.inputs c.bounds-bounds.ensures.few_inputs c.requires.row in
    won_outcome c.args.search.now c.args.row.now _ c.hold.result c.step.result c.in_ok-movie.movie c.hold_pad.new.movie
    c.won_by.result
    winner c.script.ensures c.hold.ensures.value c.step.ensures c.in_ok-movie.ensures c.in_ok-hold_pad.ensures
    c.won_by.ensures
