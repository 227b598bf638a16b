-- What is told of a unit that a recorder ran is what was to be seen of it.
use Rattle.std.proofs.Common.{◌≡◌, ℕ, ◌<◌, List, [], length, Option, refl, sym, ap, subst, ◌∙◌}
use Rattle.nj_isa.specs.Table.{row_of}
use Rattle.nj_cpu.specs.declared.state.Cpu.{Cpu}
use Rattle.nj_cpu.specs.Unit.{unit_of}
use Rattle.nj_dots.specs.declared.position.Position.{Position}
use Rattle.nj_machine.specs.Wires.{Wired, wires}
use Rattle.nj_machine.specs.declared.seeing.UnitKind.{UnitKind}
use Rattle.nj_machine.specs.declared.seeing.UnitSeen.{UnitSeen}
use Rattle.nj_machine.specs.Seen.{awaited, kind_or, bytes_or, code_bytes, in_three, seen_in}
use Rattle.nj_machine.specs.Recorder.{recording, nth, Told, told_by}
use Rattle.nj_machine.proofs.Fetches.{told_as}

-- the parts that were told
pub record AreTold (cpu : Cpu) (w : Wired) (a : Option UnitKind) (reads : List ℕ) (kind : UnitKind) (len : ℕ)
    (bytes : List ℕ) (place : Position) : Type 0 where
  pub awaits : a ≡ awaited wires cpu w
  pub reads_are : reads ≡ (unit_of (recording wires) cpu (record { held = w; reads = [] })).held.reads
  pub below : nth reads 0 < 256
  pub kind_is : kind ≡ (told_by a reads).kind
  pub len_is : len ≡ (told_by a reads).len
  pub bytes_are : bytes ≡ (told_by a reads).bytes
  pub placed : place ≡ w.cells.screen.position

pub seen_told : (cpu : Cpu) (w : Wired) (a : Option UnitKind) (reads : List ℕ) (kind : UnitKind) (len : ℕ)
    (bytes : List ℕ) (place : Position) →
    AreTold cpu w a reads kind len bytes place →
    record { kind = kind; bytes = bytes; len = len; cpu = cpu; line = place.line; dot = place.dot } ≡ seen_in cpu w
unfolding seen_in awaited
seen_told cpu w a reads kind len bytes place t =
    let made : Told → Position → UnitSeen =
    λ told at. record {
      kind = told.kind;
      bytes = told.bytes;
      len = told.len;
      cpu = cpu;
      line = at.line;
      dot = at.dot;
    } in
    let whole : Option UnitKind → Told =
    λ x. record {
      kind = kind_or x (row_of (wires.byte w cpu.pc));
      len = length (bytes_or x (code_bytes wires cpu w));
      bytes = in_three (bytes_or x (code_bytes wires cpu w));
    } in
    let told : told_by a reads ≡ whole a =
    ap (told_by a) t.reads_are
    ∙ told_as wires a cpu w (sym t.awaits) (subst (λ r. nth r 0 < 256) t.reads_are t.below) in
    let parts : made (record { kind = kind; len = len; bytes = bytes }) place ≡ made (told_by a reads) place =
    ap (λ x. made (record { kind = x; len = len; bytes = bytes }) place) t.kind_is
    ∙ ap (λ x. made (record { kind = (told_by a reads).kind; len = x; bytes = bytes }) place) t.len_is
    ∙ ap (λ x. made (record { kind = (told_by a reads).kind; len = (told_by a reads).len; bytes = x }) place)
    t.bytes_are in
    parts ∙ ap (λ x. made x place) told ∙ ap (λ x. made (whole x) place) t.awaits
    ∙ ap (λ x. made (whole (awaited wires cpu w)) x) t.placed
