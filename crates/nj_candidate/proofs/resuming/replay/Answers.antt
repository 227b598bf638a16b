-- One pad more.
use Rattle.std.proofs.Common.{◌+◌, ◌≤◌, ◌∙◌, arith}
use Rattle.nj_machine.specs.State.{rom_of}
use Rattle.nj_machine.specs.Image.{of_image}
use Rattle.nj_candidate.specs.Resuming.{Reached}
use Rattle.nj_candidate.proofs.Agains.{frames_more}
use Rattle.nj_candidate.proofs.Replays.{reached_more}
use Rattle.nj_candidate.proofs.resuming.replay.Goals as goal

pub loop-pad-preserved : goal.loop-pad-preserved
loop-pad-preserved g c =
    let from : Reached =
    record { state = of_image (rom_of c.args.machine.now) c.args.image.now; judged = c.args.judged } in
    let one : c.hold_pad.new.steps ≤ c.loop-pad.steps + c.args.script.now.hold =
    omega (arith, c.hold_pad.ensures.frames, c.hold.ensures.value) in
    record {
      reached =
          reached_more c.args.script.now from c.args.word.now c.loop-pad.pad-index 0 c.hold.result c.loop-pad.machine
          c.hold_pad.new.machine c.loop-pad.told c.judge_state-told.result
          c.loop-pad-test.true c.hold.ensures.value c.loop-pad.invariant.reached c.hold_pad.ensures.state
          c.judge_state-told.ensures;
      cartridge = c.hold_pad.ensures.cartridge ∙ c.loop-pad.invariant.cartridge;
      frames = frames_more c.args.script.now.hold c.loop-pad.pad-index c.loop-pad.steps c.args.steps.now
          c.hold_pad.new.steps c.loop-pad.invariant.frames one;
      never_falls = omega (arith, c.loop-pad.invariant.never_falls, c.hold_pad.ensures.never_falls);
    }
