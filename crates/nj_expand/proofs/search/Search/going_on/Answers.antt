-- The front and the table of a saved search.
use Rattle.std.proofs.Common.{◌≡◌, ◌+◌, ◌*◌, ◌^◌, ◌≤◌, [], length, arith}
use Rattle.nj_search_defs.specs.Pruning.{Seen, forgotten}
use Rattle.nj_saved.specs.Ranges.{words_of}
use Rattle.nj_seen.specs.Held.{seen_in}
use Rattle.nj_game.specs.Plan.{plan_of}
use Rattle.nj_candidate.specs.Front.{size_in}
use Rattle.nj_candidate.specs.SavedFront.{front_in}
use Rattle.nj_expand.specs.Held.{bounds_of}
use Rattle.nj_expand.proofs.Resumes.{front_count}
use Rattle.nj_expand.proofs.Resumes.{front_of, told_table, table_at, pool_words, resumed_is}
use Rattle.nj_expand.proofs.search.Search.going_on.Goals as goal

seen : (c : goal.After-keys-1) → Seen
seen c = forgotten (2 ^ c.args.bounds.exponent) (words_of c.args.saved.now * c.args.bounds.inputs)
    c.args.saved.now.generations

told : (c : goal.After-keys-1) → seen c ≡ seen_in c.args.table.0.items c.args.saved.now.step c.args.table.1.oldest
unfolding seen
told c = told_table c.seen_is_told.ensures c.args.table.0.items c.args.table.1 (seen c) c.args.saved.now.step
    c.args.bounds.exponent c.requires.table

pub invariant_of-result : goal.invariant_of-result
unfolding seen
invariant_of-result c =
    let plan = plan_of c.args.cart c.args.script c.args.start in
    let some : 1 ≤ length (front_in c.args.saved.now) =
    omega (arith, front_count c.args.saved.now, c.requires.ranges.some_words) in
    let few : length (front_in c.args.saved.now) ≤ c.args.bounds.front =
    omega (arith, front_count c.args.saved.now, c.requires.few) in (
      c.requires.bounds,
      front_of plan c.args.bounds.front (front_in c.args.saved.now) c.args.front.pool c.args.front.judged.items
          c.requires.cartridge some few
          (c.an_image_stands_for_its_word.ensures.len plan [] c.requires.cartridge)
          c.requires.front.pool c.requires.front.judged,
      table_at c.args.table.0.items c.args.table.1 (seen c) c.args.saved.now.step c.args.bounds.exponent
          c.requires.table (told c) c.requires.ranges.last_step,
    )

pub returns : goal.returns
unfolding seen
returns c =
    let plan = plan_of c.args.cart c.args.script c.args.start in
    resumed_is plan (bounds_of c.args.bounds c.args.script) c.args.saved.now c.args.front.pool.words _
    (pool_words plan (c.args.bounds.front * (size_in plan + 16)) (front_in c.args.saved.now) c.args.front.pool
    c.requires.front.pool) (told c)
