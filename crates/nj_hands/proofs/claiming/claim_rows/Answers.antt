-- One row more.
use Rattle.std.proofs.Common.{arith, refl, ◌∙◌}
use Rattle.nj_hands.proofs.Claims.{adds_none, adds_next, adds_all}
use Rattle.nj_hands.proofs.claiming.claim_rows.Goals as goal

pub loop-row-init : goal.loop-row-init
loop-row-init c = (adds_none c.args.pass.now c.args.rows.now.items, omega arith, refl)

pub loop-row-preserved : goal.loop-row-preserved
loop-row-preserved c = (
  adds_next c.args.found.now c.loop-row.row-index _ c.args.pass.now c.loop-row.pass c.claim_row.new.pass
      c.args.rows.now.items c.loop-row.rows.items _ c.loop-row-test.true
      c.loop-row.invariant.0 c.claim_row.ensures.claimed,
  (let few = c.claim_row.ensures.few in let was = c.loop-row.invariant.1 in omega arith),
  c.claim_row.ensures.capacity ∙ c.loop-row.invariant.2,
)

pub returns-clause-claimed : goal.returns-clause-claimed
returns-clause-claimed c = adds_all c.args.found.now c.loop-row.row-index c.args.pass.now c.loop-row.pass _ _
    c.loop-row-test.false c.loop-row.invariant.0
