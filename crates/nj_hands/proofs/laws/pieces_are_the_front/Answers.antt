-- The law of pieces.
use Rattle.nj_hands.proofs.Fronts.{rows_are_live, runs_are_all}
use Rattle.nj_hands.proofs.laws.pieces_are_the_front.Goals as goal

pub returns-clause-rows : goal.returns-clause-rows
returns-clause-rows c = rows_are_live c.live_rows_come_by_words.ensures.rows

pub returns-clause-runs : goal.returns-clause-runs
returns-clause-runs c = runs_are_all c.live_rows_come_by_words.ensures.runs
