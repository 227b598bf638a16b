-- The unit that ended the loop ends the frame that it is in.
use Rattle.std.proofs.Common.{sym, ◌∙◌, arith}
use Rattle.nj_machine.proofs.Units.{end_tells, goes_on_running}
use Rattle.nj_machine.proofs.Fuel.{frame_ends, frame_goes_on, fewer_left, frame_jammed}
use Rattle.nj_machine.proofs.frames.Console.frame.Goals as goal

pub returns-then-stands-clause-after : goal.returns-then-stands-clause-after
returns-then-stands-clause-after g c =
    frame_jammed _ _ c.stands.ensures.ready (sym c.stands.ensures.jammed ∙ c.if-stands.true)

pub returns-in-Some-clause-after : goal.returns-in-Some-clause-after
returns-in-Some-clause-after g c =
    sym c.loop-end.invariant.same_frame ∙ frame_ends _ _ _ _ c.in-Some.ensures.began c.in-Some.ensures.step

pub returns-in-Some-clause-jammed : goal.returns-in-Some-clause-jammed
returns-in-Some-clause-jammed g c = end_tells _ _ _ _ c.in-Some.ensures.step

pub returns-in-Some-clause-cartridge : goal.returns-in-Some-clause-cartridge
returns-in-Some-clause-cartridge g c = c.in-Some.ensures.cartridge ∙ c.loop-end.invariant.same_rom

pub loop-end-smaller : goal.loop-end-smaller
loop-end-smaller g c =
    omega (arith, fewer_left _ _ _ c.in_default.ensures.began c.in_default.ensures.step, c.look_for_turns.ensures.fewer)

pub loop-end-preserved : goal.loop-end-preserved
loop-end-preserved g c = record {
  same_frame =
      c.look_for_turns.ensures.same _ ∙ frame_goes_on _ _ _ c.in_default.ensures.began c.in_default.ensures.step
      ∙ c.loop-end.invariant.same_frame;
  same_rom = c.look_for_turns.ensures.cartridge ∙ c.in_default.ensures.cartridge ∙ c.loop-end.invariant.same_rom;
  running = c.look_for_turns.ensures.jam ∙ goes_on_running _ _ _ c.in_default.ensures.step;
}
