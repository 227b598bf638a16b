-- The items from left to right.
use Rattle.std.proofs.Common.{List, Some, ap, sym, ◌∙◌, arith}
use Rattle.nj_asm_lines.specs.declared.syntax.Cell.{Cell}
use Rattle.nj_asm_lines.proofs.StatementLemmas.{items_step, items_stop, items_end}
use Rattle.nj_asm_lines.proofs.statements.items_of.Goals as goal

pub returns-in-None : goal.returns-in-None
returns-in-None c =
    sym (items_stop c.args.wide c.loop-end.rest.now c.loop-end.end c.loop-end.cells _ c.loop-end.invariant.0
    c.loop-end-test.true
    (sym (rw c.parted.ensures.before at c.in_ok-cell.ensures) ∙ c.in-None.is) c.loop-end.invariant.1)

pub loop-end-preserved : goal.loop-end-preserved
loop-end-preserved c = (
  c.length_before-end-in-loop-end.ensures.value,
  rw (c.in_ok-push-in-Some.ensures.items, c.parted.ensures.behind)
      (items_step c.args.wide c.loop-end.rest.now c.loop-end.end c.loop-end.cells _ _ c.loop-end.invariant.0
      c.loop-end-test.true
      (sym (rw c.parted.ensures.before at c.in_ok-cell.ensures) ∙ c.in-Some.is) c.loop-end.invariant.1),
)

pub returns-in-None-2 : goal.returns-in-None-2
returns-in-None-2 c =
    sym (items_end c.args.wide c.loop-end.rest.now c.loop-end.cells _ _ (omega arith)
    (sym c.in_ok-cell-2.ensures ∙ c.in-None-2.is) c.loop-end.invariant.1)

pub returns : goal.returns
returns c =
    sym (items_end c.args.wide c.loop-end.rest.now c.loop-end.cells _ _ (omega arith)
    (sym c.in_ok-cell-2.ensures ∙ c.in-Some-2.is) c.loop-end.invariant.1
    ∙ ap (λ (cells : List Cell). Some cells) (sym c.in_ok-push-in-Some-2.ensures.items))
