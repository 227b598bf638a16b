use Rattle.std.proofs.Common.{◌≡◌, ◌+◌, ◌-◌, ℕ, Option, List, sym, refl, ◌∙◌, ap₂, arith}
use Rattle.nj_game.specs.Plan.{held_pads}
use Rattle.nj_replay.specs.Reading.{moved, first_left, first_pads}
use Rattle.nj_replay.proofs.Holding.{unheld, step_begins, step_goes_on, steps_are_short}
use Rattle.nj_replay.proofs.reading.first_unheld.Goals as goal
use Rattle.nj_replay.proofs.reading.first_unheld.Goals.{then-left-eq0, else-left-eq0+then-pad-held}

-- the invariant at other variables of the same values
at_same :
    (whole : Option ℕ) (hold left held other_left other_held frame : ℕ) (rest : List ℕ) → left ≡ other_left →
    held ≡ other_held →
    whole ≡ moved frame (unheld hold other_left other_held rest) → whole ≡ moved frame (unheld hold left held rest)
at_same whole hold left held other_left other_held frame rest e f so_far =
    so_far ∙ ap₂ (λ l h. moved frame (unheld hold l h rest)) (sym e) (sym f)

pub loop-frame-preserved : goal.loop-frame-preserved
loop-frame-preserved c =
    let whole = first_left (held_pads c.args.hold (first_pads c.args.hold c.args.behind.now)) c.args.behind.now in
    elim c.if-left-eq0.branch [
      | then-left-eq0 w ↦
          at_same whole c.args.hold c.if-left-eq0.left c.if-left-eq0.held (c.args.hold - 1) c.index-behind-frame.result
          (c.loop-frame.frame + 1) _ w.left-is (w.held-is ∙ c.pad.view_is)
          (step_begins whole c.args.hold c.loop-frame.held c.args.behind.now c.loop-frame.frame
          c.index-behind-frame.result c.requires c.loop-frame-test.true c.index-behind-frame.is
          (at_same whole c.args.hold 0 c.loop-frame.held c.loop-frame.left c.loop-frame.held c.loop-frame.frame _
          (sym w.if-left-eq0.true) refl c.loop-frame.invariant))
      | else-left-eq0+then-pad-held w ↦
          at_same whole c.args.hold c.if-left-eq0.left c.if-left-eq0.held (c.loop-frame.left - 1) c.loop-frame.held
          (c.loop-frame.frame + 1) _ w.left-is w.held-is
          (step_goes_on whole c.args.hold c.loop-frame.left c.loop-frame.held c.args.behind.now c.loop-frame.frame
          c.index-behind-frame.result (omega (arith, w.if-left-eq0.false))
          (sym c.pad.view_is ∙ w.if-pad-held.true) c.loop-frame-test.true c.index-behind-frame.is
          c.loop-frame.invariant)
    ]

pub returns-else-left-eq0-2-clause-frame : goal.returns-else-left-eq0-2-clause-frame
returns-else-left-eq0-2-clause-frame c =
    steps_are_short (first_left (held_pads c.args.hold (first_pads c.args.hold c.args.behind.now)) c.args.behind.now)
    c.args.hold c.loop-frame.left c.loop-frame.held
    c.args.behind.now c.loop-frame.frame (omega (arith, c.if-left-eq0-2.false))
    (omega (arith, c.loop-frame-test.false, c.loop-frame.auto)) c.loop-frame.invariant
