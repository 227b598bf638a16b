-- One generation less.
use Rattle.std.proofs.Common.{◌≡◌, ◌+◌, ◌-◌, ◌/◌, ◌<◌, ◌≤◌, length, arith}
use Rattle.nj_claims.specs.Tables.{slot_count}
use Rattle.nj_seen.specs.Held.{entries_since, first_claim}
use Rattle.nj_seen.proofs.Oldest.{over_more, first_small}
use Rattle.nj_seen.proofs.forgetting.oldest_kept.Goals as goal

-- too many keys since the step
too_many : (c : goal.After-first_since-from)
    → slot_count c.args.words.now < length (entries_since c.loop-from.from c.args.words.now) + c.args.room
too_many c =
    let fits : c.args.room ≤ slot_count c.args.words.now = c.requires.fits in
    let more : length c.args.words.now / 2 - c.args.room < c.count_since.result = c.loop-from-test.true in
    let count : c.count_since.result ≡ length (entries_since c.loop-from.from c.args.words.now) =
    c.count_since.ensures in
    omega (arith, fits, more, count)

-- the least owner since it is a step
is_small : (c : goal.After-first_since-from) → c.first_since-from.result < first_claim
is_small c =
    let more : length c.args.words.now / 2 - c.args.room < c.count_since.result = c.loop-from-test.true in
    let count : c.count_since.result ≡ length (entries_since c.loop-from.from c.args.words.now) =
    c.count_since.ensures in
    first_small c.args.words.now c.loop-from.from c.first_since-from.result (omega (arith, more, count))
    c.first_since-from.ensures.least c.requires.steps

pub overflow_add-from : goal.overflow_add-from
overflow_add-from c = let small : c.first_since-from.result < first_claim = is_small c in omega (arith, small)

pub loop-from-preserved : goal.loop-from-preserved
loop-from-preserved c =
    let small : c.first_since-from.result < first_claim = is_small c in record {
      over = λ earlier lt. over_more c.args.words.now c.args.room (slot_count c.args.words.now) c.loop-from.from
          c.first_since-from.result earlier
          c.loop-from.invariant.over (too_many c) c.first_since-from.ensures.least lt;
      small = omega (arith, small);
    }

pub loop-from-smaller : goal.loop-from-smaller
loop-from-smaller c =
    let small : c.first_since-from.result < first_claim = is_small c in
    let within : c.loop-from.from ≤ c.first_since-from.result = c.first_since-from.ensures.within in
    omega (arith, small, within)

pub returns : goal.returns
returns c =
    let fits : c.args.room ≤ slot_count c.args.words.now = c.requires.fits in
    let less : c.count_since.result ≤ length c.args.words.now / 2 - c.args.room = c.loop-from-test.false in
    let count : c.count_since.result ≡ length (entries_since c.loop-from.from c.args.words.now) =
    c.count_since.ensures in
    record {
      fits = omega (arith, fits, less, count);
      over = c.loop-from.invariant.over;
    }
