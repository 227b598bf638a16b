-- The rest of a division by the number of banks is a bank.
use Rattle.std.proofs.Common.{arith}
use Rattle.nj_banked.proofs.Fits.{some_banks}
use Rattle.nj_banked.proofs.banked.BankedBoard.cpu_write.Goals as goal

pub nonzero_rem-bank : goal.nonzero_rem-bank
nonzero_rem-bank c = omega (arith, (some_banks _ c.banks.ensures.fits).0)

pub choose-requires : goal.choose-requires
choose-requires c = omega (arith, (some_banks _ c.banks.ensures.fits).0)
