use Rattle.nj_dots.proofs.Steps.{repeated-next_column, repeated-next_row}
use Rattle.nj_dots.proofs.laws.steps_come_round.Goals as goal

pub returns-clause-across : goal.returns-clause-across
returns-clause-across c v = repeated-next_column v

pub returns-clause-down : goal.returns-clause-down
returns-clause-down c v fits coarse = repeated-next_row v fits coarse
