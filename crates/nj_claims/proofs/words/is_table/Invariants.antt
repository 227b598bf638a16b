-- The slots so far fit.
use Rattle.std.proofs.Common.{ℕ, ◌<◌}
use Rattle.nj_claims.specs.Places.{FitsSlot}
use Rattle.nj_claims.proofs.words.is_table.Given as goal

abbrev pub invariant-loop-slot : goal.invariant-loop-slot
invariant-loop-slot l = (i : ℕ) → i < l.slot → FitsSlot l.slots l.words i
