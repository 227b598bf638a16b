-- The unit over the recorder is the one over the bus behind it, and what it read tells what it was.
use Rattle.std.proofs.Common.{[], ap, ◌∙◌}
use Rattle.nj_cpu.specs.Unit.{Unit}
use Rattle.nj_machine.specs.Wires.{Wired, wires}
use Rattle.nj_machine.proofs.Recording.{unit-behind}
use Rattle.nj_machine.proofs.Tellings.{seen_told}
use Rattle.nj_machine.proofs.seeing.Recorder.unit.Goals as goal

pub returns-clause-cpu : goal.returns-clause-cpu
returns-clause-cpu g c =
    c.unit-end.ensures.cpu
    ∙ ap (λ (u : Unit Wired). u.cpu) (unit-behind wires c.args.cpu.now (record { held = _; reads = [] }))

pub returns-clause-held : goal.returns-clause-held
returns-clause-held g c =
    ap (λ r. r.held) c.unit-end.ensures.held
    ∙ ap (λ (u : Unit Wired). u.held) (unit-behind wires c.args.cpu.now (record { held = _; reads = [] }))

pub returns-clause-end : goal.returns-clause-end
returns-clause-end g c =
    c.unit-end.ensures.end
    ∙ ap (λ (u : Unit Wired). u.end_) (unit-behind wires c.args.cpu.now (record { held = _; reads = [] }))

pub returns-clause-seen : goal.returns-clause-seen
returns-clause-seen g c =
    seen_told c.args.cpu.now _ c.awaited-awaited.result _ c.told-kind.result.0 c.told-kind.result.1 c.told-kind.result.2
    c.position-place.result
    (record {
      awaits = c.awaited-awaited.ensures;
      reads_are = ap (λ r. r.reads) c.unit-end.ensures.held;
      below = c.told-kind.ensures.below;
      kind_is = c.told-kind.ensures.kind;
      len_is = c.told-kind.ensures.len;
      bytes_are = c.told-kind.ensures.bytes;
      placed = c.position-place.ensures _;
    })
