-- The start's state, its image and its judgement.
use Rattle.std.proofs.Common.{◌≡◌, [], ap, ◌∙◌}
use Rattle.nj_machine.specs.State.{rom_of}
use Rattle.nj_game.specs.Plan.{plan_of}
use Rattle.nj_game.specs.Words.{state_of}
use Rattle.nj_candidate.specs.Front.{rom_in}
use Rattle.nj_candidate.proofs.Starts.{start_state, start_judged, start_image}
use Rattle.nj_candidate.proofs.opening.Begun.run.Goals as goal

pub returns-clause-begun : goal.returns-clause-begun
unfolding rom_in
returns-clause-begun g c =
    let plan = plan_of c.args.cart.now c.args.script.now c.args.start.now in
    let ran : c.play.new.self ≡ state_of plan [] =
    start_state c.args.cart.now c.args.script.now c.args.start.now c.pads.result.now
    c.in_ok-machine.machine c.play.new.self
    c.in_ok-machine.ensures.begun c.pads.ensures.pads c.play.ensures.played
    (c.the_empty_word_is_the_start.ensures.state plan) in
    record {
      machine = c.saved.ensures.same ∙ ran;
      cartridge = ap rom_of c.saved.ensures.same ∙ (c.play.ensures.cartridge ∙ ap rom_of c.in_ok-machine.ensures.begun);
      image = start_image plan c.play.new.self c.in_ok-image.image.items ran c.in_ok-image.ensures.image;
      judged = start_judged plan c.play.new.self c.judge_state-judged.result ran c.judge_state-judged.ensures
          (c.the_empty_word_is_the_start.ensures.judged plan);
    }
