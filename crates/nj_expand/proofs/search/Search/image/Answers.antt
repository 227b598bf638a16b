use Rattle.std.proofs.Common.{◌<◌, [], length, get_or, sym, subst}
use Rattle.nj_machine.specs.Image.{IsImage}
use Rattle.nj_game.specs.Plan.{plan_of}
use Rattle.nj_candidate.specs.Front.{rom_in}
use Rattle.nj_expand.specs.Held.{Held}
use Rattle.nj_expand.proofs.Images.{image_here}
use Rattle.nj_expand.proofs.search.Search.image.Goals as goal

pub returns-clause-is_image : goal.returns-clause-is_image
returns-clause-is_image c =
    let s = c.self.inside in
    let plan = plan_of s.cart s.script s.start in
    let front = c.self.invariant.1 in
    let here =
    subst (λ (h : Held). c.args.place < length h.state.front → IsImage (rom_in h.plan) c.load.new.into) c.self.view_is
    (λ within. subst (IsImage (rom_in plan))
    (sym (image_here plan s.pool.images s.pool.words c.args.place c.load.new.into front.images within c.load.ensures))
    (c.an_image_stands_for_its_word.ensures.is_image plan (get_or s.pool.words c.args.place []) front.nrom)) in
    here c.requires.place
