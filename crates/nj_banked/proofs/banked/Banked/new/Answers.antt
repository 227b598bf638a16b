-- Bank 0 of a cartridge with banks.
use Rattle.std.proofs.Common.{arith, inr}
use Rattle.nj_banked.proofs.Kept.{begun-windowed}
use Rattle.nj_banked.proofs.banked.Banked.new.Goals as goal

pub invariant_of-result : goal.invariant_of-result
invariant_of-result c = begun-windowed _ _ _ _ _ (inr c.requires) (omega arith)
