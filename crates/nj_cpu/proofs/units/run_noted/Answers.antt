-- The instruction runs with a note that is none, or ripe.
use Rattle.std.proofs.Common.{rules, ◌≡◌, ◌≢◌, ap, subst, ◌∙◌}
use Rattle.nj_cpu.specs.declared.state.Note.TheVariants.{None, Due}
use Rattle.nj_cpu.specs.Walk.{EndsAs}
use Rattle.nj_cpu.proofs.Notes.{none-ripe, ripe-runs}
use Rattle.nj_cpu.proofs.units.run_noted.Goals as goal
use Rattle.nj_cpu.proofs.units.run_noted.Goals.{else-ne-via-then-ne+else-enter_if_due, else-ne-via-else-ne}

pub returns : goal.returns
returns g c = λ none.
    let acts = g.B.Bus.acts in
    let cpu = c.args.cpu.now in
    let held = g.B.Bus.held c.args.bus.now in
    let now = c.run_instruction.new in
    elim c.else-ne.branch [
      | else-ne-via-then-ne+else-enter_if_due w ↦
          let no = w.if-enter_if_due.false in
          let rests = w.enter_if_due.ensures in
          subst (λ v. EndsAs v now.cpu (g.B.Bus.held now.bus) now.rises)
          (ripe-runs acts cpu held c.else-ne.cpu (g.B.Bus.held c.else-ne.bus) (rests.not_due no) (w.cpu-is
          ∙ rests.cpu no) (ap g.B.Bus.held w.bus-is ∙ rests.held no))
          (c.run_instruction.ensures (ap (λ r. r.edges) (w.rises-is ∙ rests.rises no) ∙ none))
      | else-ne-via-else-ne w ↦
          let is : cpu.note ≡ None = search rules in
          let not_due : cpu.note ≢ Due = λ due. cc (is, due) in
          subst (λ v. EndsAs v now.cpu (g.B.Bus.held now.bus) now.rises)
          (ripe-runs acts cpu held c.else-ne.cpu (g.B.Bus.held c.else-ne.bus) not_due (w.cpu-is
          ∙ none-ripe cpu is) (ap g.B.Bus.held w.bus-is))
          (c.run_instruction.ensures (ap (λ r. r.edges) w.rises-is ∙ none))
    ]
