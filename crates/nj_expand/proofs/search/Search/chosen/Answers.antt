-- The winner, nothing that is kept, or what is kept.
use Rattle.std.proofs.Common.{◌≡◌, sym, ap, ◌∙◌}
use Rattle.std.specs.Prelude.{Some, None}
use Rattle.nj_seen.specs.Rows.{kept_rows}
use Rattle.nj_expand.specs.Held.{Held}
use Rattle.nj_expand.specs.Ending.{fresh_rows_in}
use Rattle.nj_expand.proofs.Ends.{won_step, exhausted_step, winner_found, kept_found, none_found, some_found}
use Rattle.nj_expand.proofs.Parts.{kept_is}
use Rattle.nj_expand.proofs.search.Search.chosen.Goals as goal

pub returns-in-Some : goal.returns-in-Some
returns-in-Some c =
    won_step c.args.self.now c.in-Some.row c.few_pads.ensures c.order_is_preference.ensures
    (winner_found c.args.self.now c.args.rows.now (Some c.in-Some.row)
    c.requires.prepared.winner c.in-Some.ensures.first)

pub returns-then-is_empty : goal.returns-then-is_empty
returns-then-is_empty c =
    let now : Held = c.args.self.now in
    let kept : c.keep_quota.new.rows.items ≡ kept_rows now.bounds.most now.bounds.quota (fresh_rows_in now) =
    kept_found now c.self.inside.bounds.front c.quota-quota.result c.args.prepared.fresh.items
    c.keep_quota.new.rows.items (ap (λ (h : Held). h.bounds.most) c.self.view_is)
    (c.quota-quota.ensures.value ∙ ap (λ (h : Held). h.bounds.quota) c.self.view_is) c.requires.prepared.fresh
    c.in_ok-keep_quota.ensures in
    exhausted_step now c.few_pads.ensures c.order_is_preference.ensures
    (winner_found now c.args.rows.now None c.requires.prepared.winner c.in_default.ensures.first)
    (sym kept ∙ none_found c.keep_quota.new.rows.items c.keep_quota.new.rows.len c.keep_quota.new.rows.ok.0
    (sym c.is_empty.ensures ∙ c.if-is_empty.true))

pub returns : goal.returns
returns c =
    let now : Held = c.args.self.now in
    kept_is now
    (record { rows = c.keep_quota.new.rows; table = c.args.prepared.table; keys = c.args.prepared.keys })
    c.few_pads.ensures c.order_is_preference.ensures
    (winner_found now c.args.rows.now None c.requires.prepared.winner c.in_default.ensures.first)
    (record {
      kept = kept_found now c.self.inside.bounds.front c.quota-quota.result c.args.prepared.fresh.items
          c.keep_quota.new.rows.items (ap (λ (h : Held). h.bounds.most) c.self.view_is)
          (c.quota-quota.ensures.value ∙ ap (λ (h : Held). h.bounds.quota) c.self.view_is) c.requires.prepared.fresh
          c.in_ok-keep_quota.ensures;
      some = some_found c.keep_quota.new.rows.items c.keep_quota.new.rows.len c.keep_quota.new.rows.ok.0
          (sym c.is_empty.ensures ∙ c.if-is_empty.false);
    })
    c.requires.prepared.table c.requires.prepared.keys
