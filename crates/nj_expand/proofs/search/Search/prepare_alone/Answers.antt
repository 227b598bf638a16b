-- The rows that are not seen.
use Rattle.std.proofs.Common.{◌≡◌, List, sym, ap, subst}
use Rattle.std.specs.List.Sorted.{IsPermutation}
use Rattle.std.proofs.lemmas.List.Sorted.{IsPermutation-refl}
use Rattle.nj_rows.specs.declared.Row.{Row}
use Rattle.nj_seen.specs.Rows.{IsRising, winner_row}
use Rattle.nj_expand.specs.Ending.{fresh_rows_in, IsReady}
use Rattle.nj_expand.proofs.Filed.{found_fresh}
use Rattle.nj_expand.proofs.search.Search.prepare_alone.Goals as goal

pub unseen-requires-clause-rising : goal.unseen-requires-clause-rising
unseen-requires-clause-rising c =
    subst IsRising (sym c.requires.rows) (c.live_rows_can_claim.ensures.rising c.args.self.now c.few_pads.ensures)

pub prepare-requires-clause-fresh : goal.prepare-requires-clause-fresh
prepare-requires-clause-fresh c =
    let is : c.in_ok-fresh.fresh.items ≡ fresh_rows_in c.args.self.now =
    found_fresh c.args.self.now c.left-left.result c.words.result.now c.args.rows.now c.in_ok-fresh.fresh.items
    c.left-left.ensures c.words.ensures.seen c.requires.rows c.in_ok-fresh.ensures in
    subst (λ (rows : List Row). IsPermutation c.in_ok-fresh.fresh.items rows) is
    (IsPermutation-refl c.in_ok-fresh.fresh.items)

pub returns : goal.returns
returns c =
    let ready : IsReady c.args.self.now c.in_ok-prepared.prepared = c.in_ok-prepared.ensures in
    record { winner = ap winner_row c.requires.rows; fresh = ready.fresh; table = ready.table; keys = ready.keys }
