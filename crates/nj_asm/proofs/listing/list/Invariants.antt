-- The lines so far, and those of the bytes that are left.
use Rattle.std.proofs.Common.{◌≡◌, ◌<◌, ◌++◌, length}
use Rattle.nj_asm.specs.Listing.{listed}
use Rattle.nj_asm.proofs.listing.list.Given as goal

abbrev pub invariant-loop-rest : goal.invariant-loop-rest
invariant-loop-rest l = (l.at < 65536) × (listed l.origin 0 l.bytes ≡ l.text.items ++ listed l.at 0 l.rest)

abbrev pub decreases-loop-rest : goal.decreases-loop-rest
decreases-loop-rest l = length l.rest
