-- The first front and the first table.
use Rattle.std.proofs.Common.{◌+◌, ◌*◌, []}
use Rattle.nj_game.specs.Plan.{plan_of}
use Rattle.nj_game.specs.Words.{key_of}
use Rattle.nj_candidate.specs.Front.{size_in}
use Rattle.nj_expand.specs.Held.{bounds_of}
use Rattle.nj_expand.proofs.Starts.{first_front, opened_is}
use Rattle.nj_expand.proofs.Filed.{IsFirstTable, first_table}
use Rattle.nj_expand.proofs.search.Search.begun.Goals as goal

first : (c : goal.After-seen_is_told)
    → IsFirstTable c.args.first.words.items
    (key_of (plan_of c.args.cart c.args.script c.args.start) []) c.args.bounds.exponent
first c = first_table c.seen_is_told.ensures c.args.first.words.items
    (key_of (plan_of c.args.cart c.args.script c.args.start) []) c.args.bounds.exponent c.requires.first.table
    c.requires.first.slots c.requires.first.seen

pub invariant_of-result : goal.invariant_of-result
invariant_of-result c =
    let plan = plan_of c.args.cart c.args.script c.args.start in (
      c.requires.bounds,
      first_front plan c.args.bounds.front c.args.first.pool c.args.first.judged.items
          c.requires.cartridge c.requires.bounds.some
          (c.an_image_stands_for_its_word.ensures.len plan [] c.requires.cartridge)
          c.requires.first.pool c.requires.first.judged,
      (first c).at,
    )

pub returns : goal.returns
returns c =
    let plan = plan_of c.args.cart c.args.script c.args.start in
    opened_is plan (bounds_of c.args.bounds c.args.script) c.args.first.pool _ c.args.first.level
    (c.args.bounds.front * (size_in plan + 16)) c.requires.first.pool (first c).told c.requires.first.level
