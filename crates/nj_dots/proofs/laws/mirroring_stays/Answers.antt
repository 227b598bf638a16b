use Rattle.nj_dots.proofs.Mirroring.{after_dots-vertical, after_read-vertical, after_write-vertical}
use Rattle.nj_dots.proofs.laws.mirroring_stays.Goals as goal

pub returns-clause-dots : goal.returns-clause-dots
returns-clause-dots c n p s = after_dots-vertical n p s

pub returns-clause-read : goal.returns-clause-read
returns-clause-read c reg p s = (after_read-vertical reg p s).vertical

pub returns-clause-write : goal.returns-clause-write
returns-clause-write c reg value s = (after_write-vertical reg value s).vertical
