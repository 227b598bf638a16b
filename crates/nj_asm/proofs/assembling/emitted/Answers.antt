-- One line more.
use Rattle.std.proofs.Common.{inr, sym, ap, ◌∙◌, ◌≡◌, ◌<◌, length, Some, None, arith}
use Rattle.nj_asm.specs.declared.refusals.AsmRefused.{AsmRefused}
use Rattle.nj_asm.specs.Assembly.{homes, fault_of}
use Rattle.nj_asm.proofs.LineLemmas.{refused_at, accepted_at, bytes_at, not_some}
use Rattle.nj_asm.proofs.assembling.emitted.Goals as goal

pub returns-in-Some-clause-refused : goal.returns-in-Some-clause-refused
returns-in-Some-clause-refused c =
    inr (c.loop-index.invariant.1
    ∙ refused_at (homes c.args.labels.now) c.loop-index.begun c.loop-index.at c.loop-index.index c.args.lines.now
    c.index-lines-index.result c.in-Some.fault
    (omega arith) c.index-lines-index.is (sym c.fault_of.ensures.value ∙ c.in-Some.is)
    ∙ ap (λ (r : AsmRefused). Some r) (sym c.refused.ensures))

pub loop-index-preserved : goal.loop-index-preserved
loop-index-preserved c =
    let accepted : c.fault_of.result ≡ None = not_some _ c.in_default.not-Some in
    let none : fault_of (homes c.args.labels.now) c.loop-index.begun c.loop-index.at c.loop-index.index
    c.index-lines-index.result ≡ None = sym c.fault_of.ensures.value ∙ accepted in
    let fits = rw accepted at c.fault_of.ensures.fits in
    let within : c.loop-index.index < length c.args.lines.now = omega arith in (
      omega (arith, fits, c.size_of.ensures.value),
      rw (c.has_begun-begun.ensures, c.size_of.ensures.value)
          (c.loop-index.invariant.1
          ∙ accepted_at (homes c.args.labels.now) c.loop-index.begun c.loop-index.at c.loop-index.index c.args.lines.now
          c.index-lines-index.result within c.index-lines-index.is none),
      rw (c.in_ok-push_bytes.ensures, c.size_of.ensures.value)
          (bytes_at (homes c.args.labels.now) c.loop-index.at c.loop-index.index c.args.lines.now
          c.index-lines-index.result c.loop-index.bytes _ within c.index-lines-index.is c.loop-index.invariant.2),
    )
