-- A cartridge with one bank.
use Rattle.std.proofs.Common.{arith, inl}
use Rattle.nj_banked.proofs.Kept.{begun-windowed}
use Rattle.nj_banked.proofs.banked.Banked.fixed.Goals as goal

pub invariant_of-result : goal.invariant_of-result
invariant_of-result c = begun-windowed _ _ _ _ _ (inl c.requires) (omega arith)
