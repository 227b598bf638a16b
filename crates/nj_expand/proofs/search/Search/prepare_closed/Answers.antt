-- The rows that own their keys and are not seen.
use Rattle.std.proofs.Common.{◌<◌, arith}
use Rattle.nj_expand.specs.Held.{Held, live_rows}
use Rattle.nj_expand.specs.Ending.{IsReady}
use Rattle.nj_expand.proofs.Beside.{owned_fresh}
use Rattle.nj_expand.proofs.search.Search.prepare_closed.Goals as goal

pub prepare-requires-clause-fresh : goal.prepare-requires-clause-fresh
prepare-requires-clause-fresh c =
    let now : Held = c.args.self.now in
    let step : now.state.step < 16777215 = c.requires.step in
    owned_fresh now c.left-left.result c.words.result.now c.args.claims.now c.args.rows.now c.in_ok-fresh.fresh.items
    c.left-left.ensures (omega (arith, step)) c.words.ensures.seen
    (c.live_rows_can_claim.ensures.rising now c.few_pads.ensures) c.requires.rows c.requires.claims
    c.in_ok-fresh.ensures c.owned_unseen_is_fresh.ensures c.rows_in_any_order.ensures.fresh

pub returns : goal.returns
returns c =
    let now : Held = c.args.self.now in
    let rows = c.requires.rows in
    let ready : IsReady now c.in_ok-prepared.prepared = c.in_ok-prepared.ensures in
    record {
      winner = c.rows_in_any_order.ensures.winner c.args.rows.now (live_rows now) rows.once
          (c.live_rows_can_claim.ensures.rising now c.few_pads.ensures) rows.live rows.wins;
      fresh = ready.fresh;
      table = ready.table;
      keys = ready.keys;
    }
