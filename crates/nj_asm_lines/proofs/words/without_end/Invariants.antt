-- The blanks behind `end` are the last ones.
use Rattle.std.proofs.Common.{◌≡◌, ◌+◌, ◌≤◌, length, take}
use Rattle.std.specs.List.{suffix_len}
use Rattle.nj_asm_lines.specs.Words.{is_blank}
use Rattle.nj_asm_lines.proofs.words.without_end.Given as goal

abbrev pub invariant-loop-end : goal.invariant-loop-end
invariant-loop-end l = (l.end + suffix_len is_blank l.text ≡ length l.text + suffix_len is_blank (take l.end l.text))
    × (l.end ≤ length l.text)

abbrev pub decreases-loop-end : goal.decreases-loop-end
decreases-loop-end l = l.end
