use Rattle.std.proofs.Common.{◌≡◌, ◌++◌, take, refl, subst}
use Rattle.nj_search_defs.specs.Game.{Word}
use Rattle.nj_game.specs.Words.{state_of}
use Rattle.nj_replay.specs.Replay.{IsAfter}
use Rattle.nj_clean.specs.Bench.{plan_in}
use Rattle.nj_clean.proofs.Standing.{image_at_hand, loaded_at_hand, pads_between}
use Rattle.nj_clean.proofs.bench.Bench.run_on.Goals as goal

pub load-requires : goal.load-requires
load-requires g c =
    let plan = plan_in c.args.setting in
    let before = take c.args.at c.args.word.now in
    let held = c.requires.stands in
    image_at_hand plan before c.args.self.now.machine c.args.self.now.front.image.items c.as_slice.result.now
    held.stands.rom held.front_is.image
    c.as_slice.ensures.value (c.an_image_stands_for_its_word.ensures.is_image plan before held.stands.is_cartridge)

pub returns-clause-after : goal.returns-clause-after
returns-clause-after g c =
    let plan = plan_in c.args.setting in
    let before = take c.args.at c.args.word.now in
    let held = c.requires.stands in
    let loaded : c.load.new.self ≡ state_of plan before =
    loaded_at_hand plan before c.args.self.now.machine c.load.new.self c.args.self.now.front.image.items
    c.as_slice.result.now held.stands.rom
    held.front_is.image c.as_slice.ensures.value c.load.ensures.state
    (c.an_image_stands_for_its_word.ensures.state plan before held.stands.is_cartridge) in
    let P : Word → Type 0 = λ w. IsAfter plan w c.run_steps.new.machine c.run_steps.result in
    subst P (pads_between c.args.word.now c.args.at c.args.to c.requires.order)
    (c.run_steps.ensures.after plan before refl (record { state = loaded; judged_is = held.front_is.judged_is }))
