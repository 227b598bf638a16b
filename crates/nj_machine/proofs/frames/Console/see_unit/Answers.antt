-- The fields after a unit are those of a state that is ready, of the same cartridge.
use Rattle.std.proofs.Common.{ap, ◌∙◌}
use Rattle.nj_machine.specs.State.{rom_of}
use Rattle.nj_machine.proofs.Units.{leaves_by}
use Rattle.nj_machine.proofs.frames.Console.see_unit.Goals as goal

pub invariant_of-self : goal.invariant_of-self
invariant_of-self g c =
    let left =
    leaves_by c.args.pad _ _ _ _ c.self.invariant c.unit-end.ensures.cpu c.unit-end.ensures.held
    (c.take_end-ended.ensures.taken _) in
    left.ready

pub returns-clause-ready : goal.returns-clause-ready
returns-clause-ready g c = invariant_of-self g c

pub returns-clause-cartridge : goal.returns-clause-cartridge
returns-clause-cartridge g c =
    let left =
    leaves_by c.args.pad _ _ _ _ c.self.invariant c.unit-end.ensures.cpu c.unit-end.ensures.held
    (c.take_end-ended.ensures.taken _) in
    left.of_rom ∙ ap rom_of c.self.view_is
