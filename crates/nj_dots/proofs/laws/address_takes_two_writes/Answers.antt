use Rattle.nj_dots.proofs.Address.{written-twice}
use Rattle.nj_dots.proofs.laws.address_takes_two_writes.Goals as goal

pub returns : goal.returns
returns c s high low clear fits = written-twice s high low clear fits
