-- The state behind the start.
use Rattle.std.proofs.Common.{◌≡◌, [], ap, ◌∙◌}
use Rattle.nj_machine.specs.State.{rom_of}
use Rattle.nj_machine.specs.Image.{image_of}
use Rattle.nj_game.specs.Words.{state_of}
use Rattle.nj_clean.specs.Bench.{plan_in}
use Rattle.nj_clean.proofs.Standing.{start_state, start_judged}
use Rattle.nj_clean.proofs.bench.Bench.open.Goals as goal

pub returns-clause-stands : goal.returns-clause-stands
returns-clause-stands g c =
    let plan = plan_in c.args.setting in
    let ran : c.play.new.self ≡ state_of plan [] =
    start_state c.args.setting.cart.now c.args.setting.script.now c.args.setting.start.now c.pads.result.now
    c.in_ok-machine.machine c.play.new.self c.in_ok-machine.ensures.begun c.pads.ensures.pads c.play.ensures.played
    (c.the_empty_word_is_the_start.ensures.state plan) in
    record {
      is_cartridge = c.is_cartridge.ensures;
      rom = ap rom_of c.saved.ensures.same ∙ c.play.ensures.cartridge ∙ ap rom_of c.in_ok-machine.ensures.begun;
      opening_is = record {
        image = c.in_ok-image.ensures.image ∙ ap image_of ran;
        judged_is =
            start_judged plan c.rules.result.now c.play.new.self c.ram.result.now c.jammed.result c.judge-judged.result
            c.rules.ensures.value ran c.ram.ensures.bytes c.jammed.ensures c.judge-judged.ensures
            (c.the_empty_word_is_the_start.ensures.judged plan);
      };
    }
