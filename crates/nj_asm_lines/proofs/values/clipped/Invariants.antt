-- The digits that are left carry the number on.
use Rattle.std.proofs.Common.{◌≡◌, ◌≤◌, min, drop}
use Rattle.std.specs.Str.Parse.{digits_value, digits_value_after}
use Rattle.nj_asm_lines.proofs.values.clipped.Given as goal

abbrev pub invariant-loop-digit : goal.invariant-loop-digit
invariant-loop-digit l = (l.number ≤ 65536) × (min 65536
    (digits_value_after l.radix l.number (drop l.digit-index l.text)) ≡ min 65536 (digits_value l.radix l.text))
