use Rattle.std.proofs.Common.{◌≡◌, ◌++◌, drop}
use Rattle.nj_texts.specs.Memory.{ram_lines}
use Rattle.nj_texts.proofs.memory.write_ram.Given as goal

-- the text so far and the lines of what is left are the whole
abbrev pub invariant-loop-at : goal.invariant-loop-at
invariant-loop-at l = l.text ++ ram_lines l.at (drop l.at l.ram) ≡ l.fn.text ++ ram_lines 0 l.ram
