-- The line of an instruction more.
use Rattle.std.proofs.Common.{sym, ap, ◌∙◌, ◌<◌, length, arith}
use Rattle.nj_isa.specs.declared.table.OpRow.{OpRow}
use Rattle.nj_isa.specs.Timing.{is_jam}
use Rattle.nj_asm.proofs.ListingLemmas.{instruction_step}
use Rattle.nj_asm.proofs.listing.list.Goals as goal

pub loop-rest-preserved : goal.loop-rest-preserved
loop-rest-preserved c =
    let some : 0 < length c.loop-rest.rest.now = grind arith in (
      omega arith,
      rw (c.in_ok-push_instruction.ensures, c.split_at.ensures.front, c.split_at.ensures.back)
          (instruction_step c.loop-rest.at c.span_of-span.result c.loop-rest.rest.now c.loop-rest.text.items _
          c.loop-rest.invariant.0
          some c.span_of-span.ensures.value c.span_of-span.ensures.some c.if-rest-span.false
          (ap (λ (row : OpRow). is_jam row.op) (sym c.op_row.ensures) ∙ sym c.is_jam.ensures ∙ c.if-is_jam.false)
          c.loop-rest.invariant.1),
    )
