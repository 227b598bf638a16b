-- Nothing meets beside the sprite's eight pixels.
use Rattle.std.proofs.Common.{◌+◌, arith, inl, inr}
use Rattle.std.proofs.lemmas.Bool.{cases_lt}
use Rattle.nj_sprite0.proofs.Pixels.{meets_at-left, meets_at-right}
use Rattle.nj_sprite0.proofs.hit.meeting.Goals as goal

pub loop-i-init : goal.loop-i-init
loop-i-init c y below = meets_at-left c.args.row c.args.opaque.now c.args.left y (omega arith)

pub returns-clause-none : goal.returns-clause-none
returns-clause-none c y =
    elim (cases_lt y (c.from-start.result + 8)) [
      | inl below ↦ c.loop-i.invariant y (omega arith)
      | inr from ↦ meets_at-right c.args.row c.args.opaque.now c.args.left y (omega arith)
    ]
