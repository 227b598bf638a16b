-- The word's state, its pads and its children.
use Rattle.std.proofs.Common.{ℕ, ◌+◌, ◌*◌, ◌≤◌, arith, ap, ◌∙◌, sym, subst, get_or, []}
use Rattle.nj_machine.specs.State.{Rom, ram_of, rom_of}
use Rattle.nj_machine.specs.Image.{of_image}
use Rattle.nj_rules.specs.Pads.{allowed_pads}
use Rattle.nj_expand.proofs.Fronts.{word_is, pads_len}
use Rattle.nj_expand.proofs.search.Search.expand_word.Goals as goal

pub returns-clause-rows : goal.returns-clause-rows
returns-clause-rows g c =
    let kept = c.allow-count.ensures.cartridge in
    word_is c.a_candidate_is_told_by_its_parent.ensures.row c.args.self.now c.args.place _ c.judged.result.status.0
    _ c.script.result.now _ _ _
    (ap (λ (rom : Rom). of_image rom c.image.new.into) (kept ∙ c.requires.cartridge) ∙ c.image.ensures.state)
    c.judged.ensures.status c.script.ensures
    (c.allow-count.ensures.pads ∙ ap (λ (rom : Rom).
    allowed_pads c.script.result.now.inputs.sets (ram_of (of_image rom c.image.new.into))) (sym kept))
    c.add_children.ensures.rows

pub returns-clause-frames : goal.returns-clause-frames
returns-clause-frames g c =
    subst (λ (n : ℕ). c.add_children.new.steps ≤ c.args.steps.now + c.args.self.now.plan.script.hold * n)
    (pads_len c.args.self.now.plan (get_or c.args.self.now.state.front c.args.place [])
    (of_image (rom_of c.args.machine.now) c.image.new.into) c.script.result.now _
    (ap (λ (rom : Rom). of_image rom c.image.new.into) c.requires.cartridge ∙ c.image.ensures.state) c.script.ensures
    c.allow-count.ensures.pads)
    c.add_children.ensures.frames

pub add_children-requires-clause-room : goal.add_children-requires-clause-room
add_children-requires-clause-room g c =
    let len =
    pads_len c.args.self.now.plan (get_or c.args.self.now.state.front c.args.place [])
    (of_image (rom_of c.args.machine.now) c.image.new.into) c.script.result.now _
    (ap (λ (rom : Rom). of_image rom c.image.new.into) c.requires.cartridge ∙ c.image.ensures.state) c.script.ensures
    c.allow-count.ensures.pads in
    let few = c.may_claim.ensures.pads in let room = c.requires.room in omega (arith, len, few, room)
