-- The note at the end is that of the unit, whether a Late one was Due before.
use Rattle.std.proofs.Common.{sym, ap, ◌∙◌}
use Rattle.nj_cpu.specs.Unit.{later_note, active}
use Rattle.nj_cpu.specs.Notes.{with_note}
use Rattle.nj_cpu.proofs.Notes.{note_is, active-left, unit-active}
use Rattle.nj_cpu.proofs.units.next_unit.Goals as goal

pub returns-clause-cpu : goal.returns-clause-cpu
returns-clause-cpu g c =
    let acts = g.B.Bus.acts in
    let cpu = c.args.cpu.now in
    let held = g.B.Bus.held c.args.bus.now in
    let w = active acts cpu held in
    let ends = c.run_active.ensures (ap (λ r. r.edges) c.begun-rises.ensures) in
    c.set_note.ensures
    ∙ (λ i. with_note (later_note (ends.cpu i).note (ends.rises i).edges) (ends.cpu i))
    ∙ ap (λ n. with_note n w.cpu) (note_is cpu.note w.cpu.note w.rises (active-left acts cpu held))
    ∙ sym (ap (λ u. u.cpu) (unit-active acts cpu held c.requires))
