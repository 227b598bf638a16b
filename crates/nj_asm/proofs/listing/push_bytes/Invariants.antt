-- The lines so far, and those of the bytes that are left.
use Rattle.std.proofs.Common.{◌≡◌, ◌<◌, ◌++◌, drop}
use Rattle.nj_asm.specs.Listing.{bytes_text}
use Rattle.nj_asm.proofs.listing.push_bytes.Given as goal

abbrev pub invariant-loop-byte : goal.invariant-loop-byte
invariant-loop-byte l = (l.place < 65536)
    × (l.initial.text.items ++ bytes_text l.at l.bytes ≡ l.text.items ++ bytes_text l.place (drop l.byte-index l.bytes))
