use Rattle.nj_dots.proofs.Flags.{blank-risen, blank-fallen, blank-rises, blank-falls, blank-read-low, blank-read-lowers, blank-status, blank-write}
use Rattle.nj_dots.proofs.laws.vertical_blank_is_timed.Goals as goal

pub returns-clause-risen : goal.returns-clause-risen
returns-clause-risen c p s low high = blank-risen p s low high

pub returns-clause-fallen : goal.returns-clause-fallen
returns-clause-fallen c p s high low = blank-fallen p s high low

pub returns-clause-rises : goal.returns-clause-rises
returns-clause-rises c p s at free = blank-rises p s at free

pub returns-clause-falls : goal.returns-clause-falls
returns-clause-falls c p s at = blank-falls p s at

pub returns-clause-read_raises_none : goal.returns-clause-read_raises_none
returns-clause-read_raises_none c reg p s low = blank-read-low reg p s low

pub returns-clause-read_lowers : goal.returns-clause-read_lowers
returns-clause-read_lowers c reg p s high low = blank-read-lowers reg p s high low

pub returns-clause-read_of_status : goal.returns-clause-read_of_status
returns-clause-read_of_status c p s = blank-status p s

pub returns-clause-write : goal.returns-clause-write
returns-clause-write c reg value s = (blank-write reg value s).blank
