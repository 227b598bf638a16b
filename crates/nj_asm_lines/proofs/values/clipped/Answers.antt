-- One digit more of the number.
use Rattle.std.proofs.Common.{◌+◌, ◌*◌, ap, ◌∙◌, arith, min}
use Rattle.nj_asm_lines.proofs.TextLemmas.{clipped_step}
use Rattle.nj_asm_lines.proofs.values.clipped.Goals as goal

pub loop-digit-preserved : goal.loop-digit-preserved
loop-digit-preserved c = (
  omega arith,
  clipped_step c.args.radix c.loop-digit.number c.loop-digit.digit-index c.clip-number.result c.args.text.now _
      c.requires.some (omega arith)
      (c.clip-number.ensures ∙ ap (λ d. min 65536 (c.loop-digit.number * c.args.radix + d)) c.digit_value.ensures.value)
      c.loop-digit.invariant.1,
)
