-- The dots of whole turns were run, and the frame is the same.
use Rattle.std.proofs.Common.{refl, ap, ◌∙◌, arith}
use Rattle.nj_machine.specs.State.{is_jammed, rom_of}
use Rattle.nj_machine.specs.Frame.{dots_left, frame}
use Rattle.nj_machine.proofs.Waits.{passed-over}
use Rattle.nj_machine.proofs.frames.Console.pass_turns.Goals as goal

pub invariant_of-self : goal.invariant_of-self
invariant_of-self g c =
    let over =
    passed-over _ c.in-Some.turn.cycles c.in-Some.turn.dots c.whole_dots-dots.result c.pattern.result.now
    (g.P.Picture.meaning c.self.inside.recorder.cells.picture) (g.P.Picture.meaning c.run.new.self)
    c.turns_are_the_same_on_each_resting_bus.ensures c.self.invariant refl c.in-Some.ensures
    c.whole_dots-dots.ensures.even c.whole_dots-dots.ensures.within c.pattern.ensures.bytes c.run.ensures in
    over.ready

pub returns-clause-ready : goal.returns-clause-ready
returns-clause-ready g c = invariant_of-self g c

pub returns-clause-same : goal.returns-clause-same
returns-clause-same g c = λ pad.
    let over =
    passed-over _ c.in-Some.turn.cycles c.in-Some.turn.dots c.whole_dots-dots.result c.pattern.result.now
    (g.P.Picture.meaning c.self.inside.recorder.cells.picture) (g.P.Picture.meaning c.run.new.self)
    c.turns_are_the_same_on_each_resting_bus.ensures c.self.invariant refl c.in-Some.ensures
    c.whole_dots-dots.ensures.even c.whole_dots-dots.ensures.within c.pattern.ensures.bytes c.run.ensures in
    over.same pad ∙ ap (λ s. frame s pad) c.self.view_is

pub returns-clause-fewer : goal.returns-clause-fewer
returns-clause-fewer g c =
    let over =
    passed-over _ c.in-Some.turn.cycles c.in-Some.turn.dots c.whole_dots-dots.result c.pattern.result.now
    (g.P.Picture.meaning c.self.inside.recorder.cells.picture) (g.P.Picture.meaning c.run.new.self)
    c.turns_are_the_same_on_each_resting_bus.ensures c.self.invariant refl c.in-Some.ensures
    c.whole_dots-dots.ensures.even c.whole_dots-dots.ensures.within c.pattern.ensures.bytes c.run.ensures in
    omega (arith, over.fewer, ap dots_left c.self.view_is)

pub returns-clause-cartridge : goal.returns-clause-cartridge
returns-clause-cartridge g c =
    let over =
    passed-over _ c.in-Some.turn.cycles c.in-Some.turn.dots c.whole_dots-dots.result c.pattern.result.now
    (g.P.Picture.meaning c.self.inside.recorder.cells.picture) (g.P.Picture.meaning c.run.new.self)
    c.turns_are_the_same_on_each_resting_bus.ensures c.self.invariant refl c.in-Some.ensures
    c.whole_dots-dots.ensures.even c.whole_dots-dots.ensures.within c.pattern.ensures.bytes c.run.ensures in
    over.of_rom ∙ ap rom_of c.self.view_is

pub returns-clause-jam : goal.returns-clause-jam
unfolding is_jammed
returns-clause-jam g c = ap (λ s. s.cpu.jammed) c.self.view_is
