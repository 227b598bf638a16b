-- A row is kept or dropped.
use Rattle.nj_hands.proofs.Claims.{adds_kept, adds_beaten}
use Rattle.nj_hands.proofs.claiming.claim_row.Goals as goal

pub returns-then-not-is_beaten-clause-claimed : goal.returns-then-not-is_beaten-clause-claimed
returns-then-not-is_beaten-clause-claimed c =
    adds_kept c.args.row c.args.pass.now c.claim-claimed.new.pass c.claim-claimed.result _ _
    c.claim-claimed.ensures.pass c.push_reserved.ensures.items

pub returns-else-not-is_beaten-clause-claimed : goal.returns-else-not-is_beaten-clause-claimed
returns-else-not-is_beaten-clause-claimed c =
    adds_beaten c.args.table.now.opening c.args.row c.args.pass.now c.claim-claimed.new.pass c.claim-claimed.result _
    c.claim-claimed.ensures.pass c.claim-claimed.ensures.told
    (c.is_beaten.ensures c.if-not-is_beaten.false)
