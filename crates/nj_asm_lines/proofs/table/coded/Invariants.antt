-- No mode before this one has an opcode.
use Rattle.std.proofs.Common.{◌≡◌, drop}
use Rattle.nj_asm_lines.specs.Grammar.{coded}
use Rattle.nj_asm_lines.proofs.table.coded.Given as goal

abbrev pub invariant-loop-mode : goal.invariant-loop-mode
invariant-loop-mode l = coded l.word l.modes ≡ coded l.word (drop l.mode-index l.modes)
