-- The fields after a unit are those of a state that is ready, of the same cartridge.
use Rattle.std.proofs.Common.{ap, ◌∙◌}
use Rattle.nj_machine.specs.State.{rom_of}
use Rattle.nj_machine.proofs.Units.{leaves_by, leaves_on}
use Rattle.nj_machine.proofs.frames.Console.run_unit.Goals as goal

pub invariant_of-self : goal.invariant_of-self
invariant_of-self g c =
    let left =
    leaves_on c.args.pad _ _ _ _ c.self.invariant c.next_unit-end.ensures.cpu c.next_unit-end.ensures.held
    c.next_unit-end.ensures.end (c.ends_frame.ensures.done c.if-not-ends_frame.true)
    (c.ends_frame.ensures.unmarked _ c.if-not-ends_frame.true) in
    left.ready

pub returns-then-not-ends_frame-clause-ready : goal.returns-then-not-ends_frame-clause-ready
returns-then-not-ends_frame-clause-ready g c = invariant_of-self g c

pub returns-then-not-ends_frame-clause-cartridge : goal.returns-then-not-ends_frame-clause-cartridge
returns-then-not-ends_frame-clause-cartridge g c =
    let left =
    leaves_on c.args.pad _ _ _ _ c.self.invariant c.next_unit-end.ensures.cpu c.next_unit-end.ensures.held
    c.next_unit-end.ensures.end (c.ends_frame.ensures.done c.if-not-ends_frame.true)
    (c.ends_frame.ensures.unmarked _ c.if-not-ends_frame.true) in
    left.of_rom ∙ ap rom_of c.self.view_is

pub invariant_of-self-2 : goal.invariant_of-self-2
invariant_of-self-2 g c =
    let left =
    leaves_by c.args.pad _ _ _ _ c.self.invariant c.next_unit-end.ensures.cpu c.next_unit-end.ensures.held
    (c.take_end.ensures.taken _) in
    left.ready

pub returns-clause-ready : goal.returns-clause-ready
returns-clause-ready g c = invariant_of-self-2 g c

pub returns-clause-cartridge : goal.returns-clause-cartridge
returns-clause-cartridge g c =
    let left =
    leaves_by c.args.pad _ _ _ _ c.self.invariant c.next_unit-end.ensures.cpu c.next_unit-end.ensures.held
    (c.take_end.ensures.taken _) in
    left.of_rom ∙ ap rom_of c.self.view_is
