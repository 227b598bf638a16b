use Rattle.std.proofs.Common.{◌≡◌, take, map}
use Rattle.std.specs.Prelude.{string_bytes}
use Rattle.nj_texts.specs.Refusals.{shown_byte}
use Rattle.nj_texts.proofs.refusals.shown_bytes.Given as goal

-- the bytes so far were shown
abbrev pub invariant-loop-byte : goal.invariant-loop-byte
invariant-loop-byte l = string_bytes l.told ≡ map shown_byte (take l.byte-index l.text)
