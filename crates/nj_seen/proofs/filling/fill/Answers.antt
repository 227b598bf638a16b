-- One generation more, and all of them.
use Rattle.std.proofs.Common.{◌≡◌, ◌+◌, ◌-◌, ◌<◌, ◌≤◌, ℕ, length, drop, subst, arith, length-drop}
use Rattle.std.specs.List.{concat}
use Rattle.std.proofs.lemmas.List.Elements.{All-drop}
use Rattle.nj_search_defs.specs.Pruning.{Seen}
use Rattle.nj_claims.specs.Tables.{slot_count}
use Rattle.nj_seen.specs.Held.{AreInOrder}
use Rattle.nj_seen.proofs.Members.{distinct, differ}
use Rattle.nj_seen.proofs.Steps.{distinct_drop}
use Rattle.nj_seen.proofs.Filled.{AreFilled, at_place, in_rest, next_new, next_once, next_room, one_filled, all_filled}
use Rattle.nj_seen.proofs.filling.fill.Goals as goal

pub add_keys-requires-clause-once : goal.add_keys-requires-clause-once
add_keys-requires-clause-once c =
    let gens : Seen = c.args.generations.now in
    let first : ℕ = c.args.first in
    let place : ℕ = c.loop-place.place in
    let held = c.loop-place.invariant in
    next_once (slot_count c.args.words.now) (drop first gens) (c.args.step + 1 - length (drop first gens))
    (place - first) c.loop-place.words c.as_slice.result.now
    (in_rest gens first place held.from (omega (arith, c.loop-place-test.true, c.len-place-end.ensures)))
    (at_place gens first place c.as_slice.result.now c.at.result.now held.from c.as_slice.ensures.value c.at.ensures)
    (distinct_drop first gens (distinct (concat gens) c.requires.once)) held.filled

pub add_keys-requires-clause-new : goal.add_keys-requires-clause-new
add_keys-requires-clause-new c =
    let gens : Seen = c.args.generations.now in
    let first : ℕ = c.args.first in
    let place : ℕ = c.loop-place.place in
    let held = c.loop-place.invariant in
    next_new (slot_count c.args.words.now) (drop first gens) (c.args.step + 1 - length (drop first gens))
    (place - first) c.loop-place.words c.as_slice.result.now
    (in_rest gens first place held.from (omega (arith, c.loop-place-test.true, c.len-place-end.ensures)))
    (at_place gens first place c.as_slice.result.now c.at.result.now held.from c.as_slice.ensures.value c.at.ensures)
    (distinct_drop first gens (distinct (concat gens) c.requires.once)) held.filled

pub add_keys-requires-clause-room : goal.add_keys-requires-clause-room
add_keys-requires-clause-room c =
    let gens : Seen = c.args.generations.now in
    let first : ℕ = c.args.first in
    let place : ℕ = c.loop-place.place in
    let held = c.loop-place.invariant in
    next_room (slot_count c.args.words.now) (drop first gens) (c.args.step + 1 - length (drop first gens))
    (place - first) c.loop-place.words c.as_slice.result.now
    (in_rest gens first place held.from (omega (arith, c.loop-place-test.true, c.len-place-end.ensures)))
    (at_place gens first place c.as_slice.result.now c.at.result.now held.from c.as_slice.ensures.value c.at.ensures)
    (distinct_drop first gens (distinct (concat gens) c.requires.once)) held.filled c.requires.room

pub loop-place-preserved : goal.loop-place-preserved
loop-place-preserved c =
    let gens : Seen = c.args.generations.now in
    let first : ℕ = c.args.first in
    let place : ℕ = c.loop-place.place in
    let held = c.loop-place.invariant in
    let rest : Seen = drop c.args.first c.args.generations.now in
    let lt : c.loop-place.place < length c.args.generations.now =
    omega (arith, c.loop-place-test.true, c.len-place-end.ensures) in
    let from : c.args.first ≤ c.loop-place.place = held.from in
    let next : c.loop-place.place - c.args.first + 1 ≡ c.loop-place.place + 1 - c.args.first = omega (arith, from) in
    let long : length (drop c.args.first c.args.generations.now) ≡ length c.args.generations.now - c.args.first =
    length-drop c.args.first c.args.generations.now in
    record {
      from = omega (arith, from);
      filled = subst (λ (n : ℕ). AreFilled (slot_count c.args.words.now) (drop c.args.first c.args.generations.now)
          (c.args.step + 1 - length (drop c.args.first c.args.generations.now)) n c.add_keys.new.words) next
          (one_filled (slot_count c.args.words.now) rest (c.args.step + 1 - length rest) (place - first)
          c.loop-place.words c.as_slice.result.now
          (in_rest gens first place held.from lt)
          (at_place gens first place c.as_slice.result.now c.at.result.now held.from
          c.as_slice.ensures.value c.at.ensures)
          (distinct_drop first gens (distinct (concat gens) c.requires.once)) held.filled
          c.add_keys.new.words (c.args.step + 1 + c.loop-place.place - c.len.result)
          (omega (arith, long, lt, from, c.len.ensures, c.requires.few))
          c.add_keys.ensures.table c.add_keys.ensures.size c.add_keys.ensures.count c.add_keys.ensures.owners);
    }

pub returns-clause-seen : goal.returns-clause-seen
returns-clause-seen c =
    let gens : Seen = c.args.generations.now in let first : ℕ = c.args.first in let held = c.loop-place.invariant in
    let long : length (drop c.args.first c.args.generations.now) ≡ length c.args.generations.now - c.args.first =
    length-drop c.args.first c.args.generations.now in
    all_filled (slot_count c.args.words.now) (drop first gens) c.args.step
    (c.loop-place.place - first) c.loop-place.words
    (omega (arith, long, c.loop-place-test.false, c.len-place-end.ensures)) (omega (arith, long, c.requires.few))
    (All-drop AreInOrder first gens c.requires.in_order)
    (differ (concat (drop first gens)) (distinct_drop first gens (distinct (concat gens) c.requires.once))) held.filled
