-- What is left, where nothing is forgotten and where the oldest generations are.
use Rattle.std.proofs.Common.{◌-◌, ap, ◌∙◌, drop}
use Rattle.nj_search_defs.specs.Pruning.{key_count}
use Rattle.nj_claims.specs.Tables.{slot_count}
use Rattle.nj_seen.specs.Held.{oldest_step}
use Rattle.nj_seen.proofs.Counting.{IsMap, is_map}
use Rattle.nj_seen.proofs.Leaving.{left_gone, left_oldest, left_count, stay, none_gone}
use Rattle.nj_seen.proofs.forgetting.left.Goals as goal

pub returns-then-keys-room-clause-oldest : goal.returns-then-keys-room-clause-oldest
returns-then-keys-room-clause-oldest c = λ seen step holds first count.
    first ∙ ap (oldest_step step) (stay (slot_count c.args.words.now) c.args.room c.args.keys.count seen
    count c.if-keys-room.true)

pub returns-then-keys-room-clause-gone : goal.returns-then-keys-room-clause-gone
returns-then-keys-room-clause-gone c = λ seen step holds first count.
    none_gone c.args.keys.oldest seen
    ∙ stay (slot_count c.args.words.now) c.args.room c.args.keys.count seen count c.if-keys-room.true

pub returns-then-keys-room-clause-count : goal.returns-then-keys-room-clause-count
returns-then-keys-room-clause-count c = λ seen step holds first count.
    count ∙ ap key_count (stay (slot_count c.args.words.now) c.args.room c.args.keys.count seen
    count c.if-keys-room.true)

-- the entries are the map
is : (c : goal.After-count_since) → IsMap c.args.words.now
is c = let laws = c.entries_are_the_map.ensures in is_map laws.once laws.owners c.args.words.now c.requires.table

pub returns-clause-oldest : goal.returns-clause-oldest
returns-clause-oldest c = λ seen step holds first count.
    c.max.ensures
    ∙ left_oldest c.different_numbers_fit.ensures c.args.words.now seen step c.args.room c.oldest_kept-from.result
    c.args.keys.oldest (is c) holds c.requires.fits c.oldest_kept-from.ensures first

pub returns-clause-gone : goal.returns-clause-gone
returns-clause-gone c = λ seen step holds first count.
    ap (λ n. drop (n - c.args.keys.oldest) seen) c.max.ensures
    ∙ left_gone c.different_numbers_fit.ensures c.args.words.now seen step c.args.room c.oldest_kept-from.result
    c.args.keys.oldest (is c) holds c.requires.fits c.oldest_kept-from.ensures first

pub returns-clause-count : goal.returns-clause-count
returns-clause-count c = λ seen step holds first count.
    left_count c.different_numbers_fit.ensures c.args.words.now seen step c.args.room c.oldest_kept-from.result
    c.args.keys.oldest (is c) holds c.requires.fits c.oldest_kept-from.ensures first
    c.count_since.result c.count_since.ensures
