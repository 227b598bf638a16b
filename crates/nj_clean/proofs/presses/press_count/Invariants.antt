use Rattle.std.proofs.Common.{◌≡◌, ◌+◌, ◌*◌, ◌≤◌, length, drop}
use Rattle.nj_clean.specs.Presses.{presses}
use Rattle.nj_clean.proofs.Words.{buttons_in}
use Rattle.nj_clean.proofs.presses.press_count.Given as goal

-- the pads that are left bring what is missing
abbrev pub invariant-loop-pad : goal.invariant-loop-pad
invariant-loop-pad l =
    (l.count ≤ 8 * l.pad-index) × (l.count + buttons_in (drop l.pad-index l.word) ≡ length (presses l.word))
