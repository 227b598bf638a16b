-- The start's image and judgement, and what each word leads to from there.
use Rattle.std.proofs.Common.{◌≡◌, ◌+◌, ◌*◌, [], length, ap, ◌∙◌}
use Rattle.std.proofs.lemmas.Result.{IfOk-weaker}
use Rattle.nj_machine.specs.State.{rom_of}
use Rattle.nj_machine.specs.Image.{of_image}
use Rattle.nj_game.specs.Plan.{plan_of}
use Rattle.nj_candidate.specs.Front.{size_in}
use Rattle.nj_candidate.specs.SavedFront.{front_in}
use Rattle.nj_candidate.specs.Resuming.{Reached, AreReplayed, AreRunAgain}
use Rattle.nj_candidate.proofs.Words.{image_size}
use Rattle.nj_candidate.proofs.Replays.{laws_of, start_reached, run_again_is}
use Rattle.nj_candidate.proofs.resuming.run_front.Goals as goal

pub replay_all-requires-clause-size : goal.replay_all-requires-clause-size
replay_all-requires-clause-size g c =
    let plan = plan_of c.args.cart.now c.args.script.now c.args.start.now in
    image_size plan c.in_ok-begun.begun.image.items (ap length c.in_ok-begun.ensures.begun.image
    ∙ c.an_image_stands_for_its_word.ensures.len plan [] c.is_cartridge.ensures)

pub returns-clause-front : goal.returns-clause-front
returns-clause-front g c =
    let plan = plan_of c.args.cart.now c.args.script.now c.args.start.now in
    let begun = c.in_ok-begun.ensures.begun in
    let laws =
    laws_of plan c.is_cartridge.ensures c.a_word_goes_on.ensures.state c.a_word_goes_on.ensures.judged
    c.an_image_stands_for_its_word.ensures.state in
    let from : Reached =
    record {
      state = of_image (rom_of c.in_ok-begun.begun.machine) c.in_ok-begun.begun.image.items;
      judged = c.in_ok-begun.begun.judged;
    } in
    let words = front_in c.args.saved.now in
    let limit = c.args.most * (c.len.result + 16) in
    let room = c.args.most * (size_in plan + 16) in
    let same : limit ≡ room =
    ap (λ n. c.args.most * (n + 16)) (c.len.ensures ∙ c.in_ok-begun.begun.image.ok.0 ∙ ap length begun.image
    ∙ c.an_image_stands_for_its_word.ensures.len plan [] c.is_cartridge.ensures) in
    IfOk-weaker c.replay_all.result (AreReplayed plan.script from c.in_ok-begun.begun.image.items limit words)
    (AreRunAgain plan room words)
    (λ again are. run_again_is plan laws from c.in_ok-begun.begun.image.items limit room words again
    (start_reached plan laws c.in_ok-begun.begun begun) begun.image same are)
    c.replay_all.ensures.again
