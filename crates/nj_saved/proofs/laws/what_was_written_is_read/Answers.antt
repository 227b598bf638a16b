-- What was written is read again.
use Rattle.nj_saved.proofs.Written.{read_first, read_second}
use Rattle.nj_saved.proofs.laws.what_was_written_is_read.Goals as goal

pub returns-clause-first : goal.returns-clause-first
returns-clause-first c saved ranges fits = read_first saved ranges fits

pub returns-clause-second : goal.returns-clause-second
returns-clause-second c saved ranges fits = read_second saved ranges fits
