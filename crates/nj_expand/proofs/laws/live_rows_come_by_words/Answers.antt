-- The law of live rows, word by word.
use Rattle.nj_expand.proofs.Fronts.{live_by_words, runs_by_words}
use Rattle.nj_expand.proofs.laws.live_rows_come_by_words.Goals as goal

pub returns-clause-rows : goal.returns-clause-rows
returns-clause-rows c = live_by_words c.live_rows_are_live.ensures

pub returns-clause-runs : goal.returns-clause-runs
returns-clause-runs c = runs_by_words
