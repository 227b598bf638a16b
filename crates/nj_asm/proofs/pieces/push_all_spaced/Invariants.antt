-- The bytes so far.
use Rattle.std.proofs.Common.{◌≡◌, ◌++◌, take}
use Rattle.std.specs.List.{flat_map}
use Rattle.nj_asm.specs.Listing.{spaced}
use Rattle.nj_asm.proofs.pieces.push_all_spaced.Given as goal

abbrev pub invariant-loop-byte : goal.invariant-loop-byte
invariant-loop-byte l = l.text.items ≡ l.initial.text.items ++ flat_map spaced (take l.byte-index l.bytes)
