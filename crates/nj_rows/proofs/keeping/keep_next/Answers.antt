-- A row is kept or not.
use Rattle.std.proofs.Common.{◌≡◌, ◌<◌, ◌++◌, ◌∷◌, [], length, take, inl, inr, ⊎_elim, ap, ◌∙◌, subst, arith}
use Rattle.std.specs.Prelude.{unwrap_or, count_by}
use Rattle.std.specs.HashMap.{spare}
use Rattle.std.proofs.lemmas.List.{length-take-le, take_more_set, get_or_default}
use Rattle.nj_search_defs.specs.Quota.{kept_with}
use Rattle.nj_rows.specs.Order.{is_alike_row}
use Rattle.nj_rows.proofs.Quotas.{not_kept, is_kept, from_ok, counted_more}
use Rattle.nj_rows.proofs.keeping.keep_next.Goals as goal

pub returns-then-kept-n-clause-kept : goal.returns-then-kept-n-clause-kept
returns-then-kept-n-clause-kept c = λ default.
    let long : length (take c.args.kept c.args.rows.now.items) ≡ c.args.kept =
    length-take-le c.args.kept c.args.rows.now.items (omega (arith, c.requires.inside, c.requires.below)) in
    let counts : c.unwrap_or-count.result
    ≡ count_by (is_alike_row c.index.result.now) (take c.args.kept c.args.rows.now.items) =
    c.unwrap_or-count.ensures ∙ (ap (λ o. unwrap_or o 0) (c.copied.ensures ∙ c.get.ensures.value)
    ∙ c.requires.counted.counted c.index.result.now.bucket) in
    subst (λ row. take c.args.kept c.args.rows.now.items
    ≡ kept_with is_alike_row c.args.n c.args.quota (take c.args.kept c.args.rows.now.items) row)
    (c.index.ensures ∙ get_or_default c.args.rows.now.items c.args.place _ default c.requires.inside)
    (not_kept c.args.n c.args.quota c.unwrap_or-count.result (take c.args.kept c.args.rows.now.items)
    c.index.result.now counts
    (⊎_elim (λ most. inl (omega (arith, most, long))) (λ over. inr over.1) c.then-kept-n.either))

pub returns-clause-kept : goal.returns-clause-kept
returns-clause-kept c = λ default.
    let inside : c.args.kept < length c.args.rows.now.items = omega (arith, c.requires.inside, c.requires.below) in
    let long : length (take c.args.kept c.args.rows.now.items) ≡ c.args.kept =
    length-take-le c.args.kept c.args.rows.now.items (omega (arith, inside)) in
    let counts : c.unwrap_or-count.result
    ≡ count_by (is_alike_row c.index.result.now) (take c.args.kept c.args.rows.now.items) =
    c.unwrap_or-count.ensures ∙ (ap (λ o. unwrap_or o 0) (c.copied.ensures ∙ c.get.ensures.value)
    ∙ c.requires.counted.counted c.index.result.now.bucket) in
    take_more_set c.args.rows.now.items c.args.kept c.index.result.now inside
    ∙ subst (λ row. take c.args.kept c.args.rows.now.items ++ c.index.result.now ∷ []
    ≡ kept_with is_alike_row c.args.n c.args.quota (take c.args.kept c.args.rows.now.items) row)
    (c.index.ensures ∙ get_or_default c.args.rows.now.items c.args.place _ default c.requires.inside)
    (is_kept c.args.n c.args.quota c.unwrap_or-count.result (take c.args.kept c.args.rows.now.items)
    c.index.result.now counts
    (omega (arith, c.if-kept-n.false, long)) c.if-count-quota.false)

pub returns-clause-counted : goal.returns-clause-counted
returns-clause-counted c =
    let inside : c.args.kept < length c.args.rows.now.items = omega (arith, c.requires.inside, c.requires.below) in
    let free : 0 < spare c.args.counts.now = omega (arith, c.requires.counted.room, c.if-kept-n.false, inside) in
    let counts : c.unwrap_or-count.result
    ≡ count_by (is_alike_row c.index.result.now) (take c.args.kept c.args.rows.now.items) =
    c.unwrap_or-count.ensures ∙ (ap (λ o. unwrap_or o 0) (c.copied.ensures ∙ c.get.ensures.value)
    ∙ c.requires.counted.counted c.index.result.now.bucket) in
    counted_more c.args.counts.now c.insert.new.self c.args.rows.now.items c.index.result.now c.args.n c.args.kept
    c.unwrap_or-count.result inside c.requires.counted
    counts (from_ok c.insert.result (c.insert.ensures.succeeds free) c.insert.ensures.updates) c.insert.ensures.spare
