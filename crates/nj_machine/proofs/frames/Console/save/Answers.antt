-- The parts that are written are those of the image.
use Rattle.std.proofs.Common.{◌≡◌, [], length, sym, ap, ◌∙◌, subst, arith}
use Rattle.nj_dots.specs.Image.{with_picture}
use Rattle.nj_machine.specs.State.{rom_of}
use Rattle.nj_machine.specs.Frame.{IsReady}
use Rattle.nj_machine.specs.Image.{IsImage}
use Rattle.nj_machine.proofs.ReadBack.{image-long, length-rest, saved}
use Rattle.nj_machine.proofs.Saves.{save_chain, with_ram}
use Rattle.nj_machine.proofs.frames.Console.save.Goals as goal

pub place-requires : goal.place-requires
place-requires g c = omega (arith, c.self.invariant.sized.ram, c.requires, image-long (rom_of c.args.self.now))

pub put-requires-clause-long : goal.put-requires-clause-long
put-requires-clause-long g c = omega (arith, c.place.auto.image, c.requires, image-long (rom_of c.args.self.now))

pub place-requires-2 : goal.place-requires-2
place-requires-2 g c =
    let rest : length c.rest_bytes-rest.result ≡ 32 =
    ap length c.rest_bytes-rest.ensures ∙ length-rest c.args.self.now in
    omega (arith, c.put.auto.image, c.place.auto.image, c.requires, image-long (rom_of c.args.self.now))

pub place_pattern-requires : goal.place_pattern-requires
unfolding rom_of
place_pattern-requires g c is_ram =
    with_ram (rom_of c.args.self.now) _ (c.place-2.auto.image ∙ c.put.auto.image ∙ c.place.auto.image ∙ c.requires)
    (ap (λ s. s.cells.board.chr_ram) (sym c.self.view_is) ∙ is_ram)

pub returns-clause-image : goal.returns-clause-image
returns-clause-image g c =
    save_chain c.args.self.now _ _ _ _ _ _ _ _ _ (subst IsReady c.self.view_is c.self.invariant)
    (ap (λ s. s.cells.ram) c.self.view_is) (ap (λ s. s.cells.screen) c.self.view_is)
    (ap (λ s. s.cells.board) c.self.view_is)
    c.requires c.rest_bytes-rest.ensures c.place.ensures
    (c.put.ensures []
    ∙ ap (λ x. with_picture x c.place.new.image)
    (c.settle.ensures.same []
    ∙ ap (λ q. g.P.Picture.meaning c.self.inside.recorder.cells.picture q) c.pattern.ensures.bytes))
    c.place-2.ensures c.place_pattern.ensures

pub returns-clause-is_image : goal.returns-clause-is_image
returns-clause-is_image g c =
    subst (IsImage (rom_of c.args.self.now)) (sym (returns-clause-image g c))
    (saved c.args.self.now (subst IsReady c.self.view_is c.self.invariant))
