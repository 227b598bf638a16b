use Rattle.nj_dots.proofs.Overflow.{overflow-risen, overflow-rises, overflow-fallen, overflow-falls, overflow-read, overflow-write}
use Rattle.nj_dots.proofs.laws.sprite_overflow_is_timed.Goals as goal

pub returns-clause-risen : goal.returns-clause-risen
returns-clause-risen c p s low high = overflow-risen p s low high

pub returns-clause-rises : goal.returns-clause-rises
returns-clause-rises c p s h = overflow-rises p s h

pub returns-clause-fallen : goal.returns-clause-fallen
returns-clause-fallen c p s high low = overflow-fallen p s high low

pub returns-clause-falls : goal.returns-clause-falls
returns-clause-falls c p s at = overflow-falls p s at

pub returns-clause-read : goal.returns-clause-read
returns-clause-read c reg p s = (overflow-read reg p s).overflow

pub returns-clause-write : goal.returns-clause-write
returns-clause-write c reg value s = (overflow-write reg value s).overflow
