-- The note is Due, and the entry leaves none.
use Rattle.std.proofs.Common.{rules, ◌≡◌, sym, subst}
use Rattle.nj_cpu.specs.declared.state.Note.TheVariants.{Due}
use Rattle.nj_cpu.specs.Walk.{EndsAs}
use Rattle.nj_cpu.proofs.Notes.{entry-ripe}
use Rattle.nj_cpu.proofs.units.enter_if_due.Goals as goal

pub returns-then-eq-clause-entered : goal.returns-then-eq-clause-entered
returns-then-eq-clause-entered g c = λ _ none.
    let due : c.args.cpu.now.note ≡ Due = search rules in
    let now = c.enter_nmi.new in
    subst (λ w. EndsAs w now.cpu (g.B.Bus.held now.bus) now.rises)
    (sym (entry-ripe g.B.Bus.acts c.args.cpu.now.note c.args.cpu.now (g.B.Bus.held c.args.bus.now) due))
    (c.enter_nmi.ensures none)
