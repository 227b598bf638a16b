-- The parts that are read are those of the image's state.
use Rattle.std.proofs.Common.{[], slice_index, sym, ap, ◌∙◌, subst, arith}
use Rattle.nj_machine.specs.State.{rom_of}
use Rattle.nj_machine.specs.Frame.{IsReady}
use Rattle.nj_machine.specs.Image.{of_image}
use Rattle.nj_machine.proofs.ReadBack.{image-long}
use Rattle.nj_machine.proofs.Saves.{with_ram}
use Rattle.nj_banked.specs.Banked.{pattern_of, with_bank}
use Rattle.nj_machine.proofs.Loads.{holds_of, mirroring_of, with_pattern, bank_below, load_chain}
use Rattle.nj_machine.proofs.frames.Console.load.Goals as goal

pub rest_part-bytes-requires : goal.rest_part-bytes-requires
rest_part-bytes-requires g c = omega (arith, c.requires.sized, image-long (rom_of c.args.self.now))

pub get-requires-clause-long : goal.get-requires-clause-long
get-requires-clause-long g c = omega (arith, c.requires.sized, image-long (rom_of c.args.self.now))

pub get-requires-clause-stored : goal.get-requires-clause-stored
get-requires-clause-stored g c =
    let settled =
    c.settle.ensures.same []
    ∙ ap (λ q. g.P.Picture.meaning c.self.inside.recorder.cells.picture q) c.pattern-pattern.ensures.bytes in
    let mirroring = ap (λ x. x.vram.vertical) settled ∙ ap (λ s. s.cells.screen.vram.vertical) c.self.view_is in (
      [],
      (
        (of_image (rom_of c.args.self.now) c.args.image.now).cells.screen,
        (
          holds_of (rom_of c.args.self.now) c.args.image.now c.requires,
          mirroring_of c.args.self.now c.args.image.now c.requires ∙ sym mirroring,
        ),
      ),
    )

pub ram_part-requires : goal.ram_part-requires
ram_part-requires g c = omega (arith, c.requires.sized, image-long (rom_of c.args.self.now))

pub take_pattern-requires : goal.take_pattern-requires
unfolding rom_of
take_pattern-requires g c is_ram =
    with_ram (rom_of c.args.self.now) _ c.requires.sized (ap (λ s. s.cells.board.chr_ram) (sym c.self.view_is) ∙ is_ram)

pub set_bank-requires : goal.set_bank-requires
set_bank-requires g c =
    bank_below c.args.self.now c.args.image.now _ _ c.requires c.rest_part-bytes.ensures.part
    (c.take_pattern.ensures ∙ ap (with_pattern c.args.image.now) (ap (λ s. s.cells.board) c.self.view_is))

pub returns-clause-state : goal.returns-clause-state
returns-clause-state g c =
    let p = pattern_of c.set_bank.new.self in
    let settled =
    c.settle.ensures.same p
    ∙ ap (λ q. g.P.Picture.meaning c.self.inside.recorder.cells.picture q) c.pattern-pattern.ensures.bytes in
    let mirroring = ap (λ x. x.vram.vertical) settled ∙ ap (λ s. s.cells.screen.vram.vertical) c.self.view_is in
    load_chain c.args.self.now c.args.image.now _ _ _ _ _ _ _ _ _ (record {
      rest_is = c.rest_part-bytes.ensures.part;
      cpu_is = c.cpu_at-self-inside.ensures;
      screen_is =
          c.get.ensures.state p _ (holds_of (rom_of c.args.self.now) c.args.image.now c.requires)
          (mirroring_of c.args.self.now c.args.image.now c.requires ∙ sym mirroring);
      ram_is = c.copy_from_slice.ensures.after ∙ c.ram_part.ensures.part;
      board_is =
          c.set_bank.ensures
          ∙ ap (λ m. with_bank m (slice_index c.rest_part-bytes.result.now 25)) (c.take_pattern.ensures
          ∙ ap (with_pattern c.args.image.now) (ap (λ s. s.cells.board) c.self.view_is));
      page_is = c.page_at-self-inside.ensures;
      odd_is = c.flag-self-inside.ensures;
      one_is = c.port_at-self-inside.ensures;
      two_is = c.port_at-self-inside-2.ensures;
    })

pub invariant_of-self : goal.invariant_of-self
invariant_of-self g c = subst IsReady (sym (returns-clause-state g c)) c.requires.ready

pub returns-clause-cartridge : goal.returns-clause-cartridge
returns-clause-cartridge g c = ap rom_of (returns-clause-state g c) ∙ c.requires.of_rom
