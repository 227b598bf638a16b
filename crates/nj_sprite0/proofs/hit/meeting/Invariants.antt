-- no pixel up to the next one meets
use Rattle.std.proofs.Common.{◌≡◌, ℕ, ◌+◌, ◌<◌, false}
use Rattle.nj_sprite0.specs.Meeting.{meets_at}
use Rattle.nj_sprite0.proofs.hit.meeting.Given as goal

abbrev pub invariant-loop-i : goal.invariant-loop-i
invariant-loop-i l = (y : ℕ) → y < l.start + l.i → meets_at l.row l.opaque l.left y ≡ false
