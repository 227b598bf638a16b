-- The table without the oldest generations.
use Rattle.std.proofs.Common.{◌≡◌, ℕ, ◌+◌, ◌*◌, ◌/◌, ◌≤◌, List, length, ap, arith}
use Rattle.std.specs.List.Sorted.{IsPermutation}
use Rattle.std.proofs.lemmas.List.Sorted.{length_permutation}
use Rattle.nj_search_defs.specs.Pruning.{Seen, forgotten}
use Rattle.nj_claims.specs.Tables.{IsTable, entries_in, owner_in, slot_count}
use Rattle.nj_seen.specs.Held.{HoldsSeen, IsWithRoom, entries_since, owner_since}
use Rattle.nj_seen.proofs.Counting.{IsMap, is_map, kept_since, holds_rest}
use Rattle.nj_seen.proofs.Keeping.{both_ok}
use Rattle.nj_seen.proofs.forgetting.room.Goals as goal

is : (c : goal.After-since) → IsMap c.args.words.now
is c = let laws = c.entries_are_the_map.ensures in is_map laws.once laws.owners c.args.words.now c.requires.table

-- the map without the oldest generations
kept : (c : goal.After-since) (rest : List ℕ) → IsTable rest
    → IsPermutation (entries_since c.oldest_kept-from.result c.args.words.now) (entries_in rest)
    → (key : ℕ) → owner_in rest key ≡ owner_since c.oldest_kept-from.result (owner_in c.args.words.now key)
kept c rest table moved = let laws = c.entries_are_the_map.ensures in
    kept_since c.args.words.now rest c.oldest_kept-from.result (is c) (is_map laws.once laws.owners rest table) moved

pub returns-clause-exact : goal.returns-clause-exact
returns-clause-exact c =
    both_ok c.since.result (λ rest. IsTable rest.items)
    (λ rest. IsPermutation (entries_since c.oldest_kept-from.result c.args.words.now) (entries_in rest.items))
    (λ rest. IsWithRoom c.args.words.now (c.args.front * c.args.inputs) rest.items)
    (λ rest table moved. record {
      from = c.oldest_kept-from.result;
      oldest = c.oldest_kept-from.ensures;
      kept = kept c rest.items table moved;
    })
    c.since.ensures.table c.since.ensures.kept

pub returns-clause-room : goal.returns-clause-room
returns-clause-room c =
    let words : List ℕ = c.args.words.now in let from : ℕ = c.oldest_kept-from.result in
    both_ok c.since.result (λ rest. length rest.items ≡ length words)
    (λ rest. IsPermutation (entries_since from words) (entries_in rest.items))
    (λ rest. length (entries_in rest.items) + c.args.front * c.args.inputs ≤ slot_count rest.items)
    (λ rest size moved.
    let count : length (entries_in rest.items) ≡ length (entries_since from words) =
    length_permutation (entries_since from words) (entries_in rest.items) moved in
    let slots : slot_count rest.items ≡ slot_count words = ap (λ n. n / 2) size in
    let fits : length (entries_since from words) + c.args.front * c.args.inputs ≤ slot_count words =
    c.oldest_kept-from.ensures.fits in
    omega (arith, count, slots, fits))
    c.since.ensures.size c.since.ensures.kept

pub returns-clause-seen : goal.returns-clause-seen
returns-clause-seen c =
    both_ok c.since.result (λ rest. IsTable rest.items)
    (λ rest. IsPermutation (entries_since c.oldest_kept-from.result c.args.words.now) (entries_in rest.items))
    (λ rest. (seen : Seen) (step : ℕ) → HoldsSeen c.args.words.now seen step
    → HoldsSeen rest.items (forgotten (slot_count c.args.words.now) (c.args.front * c.args.inputs) seen) step)
    (λ rest table moved seen step holds.
    holds_rest c.different_numbers_fit.ensures c.args.words.now rest.items seen step (c.args.front * c.args.inputs)
    c.oldest_kept-from.result (is c)
    c.oldest_kept-from.ensures (kept c rest.items table moved) holds)
    c.since.ensures.table c.since.ensures.kept
