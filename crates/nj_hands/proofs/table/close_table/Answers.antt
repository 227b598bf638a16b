-- The rows and the table serve the end of the step.
use Rattle.std.proofs.Common.{refl, arith}
use Rattle.std.proofs.lemmas.List.Sorted.{IsPermutation-refl}
use Rattle.nj_claims.specs.Passes.{first_pass}
use Rattle.nj_expand.specs.Held.{live_rows}
use Rattle.nj_hands.proofs.Endings.{all_serves}
use Rattle.nj_hands.proofs.table.close_table.Goals as goal

pub returns-clause-rows : goal.returns-clause-rows
returns-clause-rows c =
    (all_serves (record {
      own = c.claims_are_of_rows.ensures.own;
      moved = c.claims_are_of_rows.ensures.moved;
      owned = c.owned_is_fresh.ensures;
      room = c.room_is_enough.ensures;
    })
    c.args.search.now c.args.table.opening c.close.result.items (first_pass c.args.table.id) c.args.pass
    (live_rows c.args.search.now) c.args.rows.items
    c.requires.opening (let step = c.requires.step in omega arith) c.lives_are_few.ensures.rising
    c.lives_are_few.ensures.few (IsPermutation-refl (live_rows c.args.search.now)) refl refl refl c.requires.claimed
    (record {
      table = c.close.ensures.table;
      size = c.close.ensures.size;
      owners = c.close.ensures.owners;
      seen = c.close.ensures.seen;
      full = c.close.ensures.full;
    })).0

pub returns-clause-words : goal.returns-clause-words
returns-clause-words c =
    (all_serves (record {
      own = c.claims_are_of_rows.ensures.own;
      moved = c.claims_are_of_rows.ensures.moved;
      owned = c.owned_is_fresh.ensures;
      room = c.room_is_enough.ensures;
    })
    c.args.search.now c.args.table.opening c.close.result.items (first_pass c.args.table.id) c.args.pass
    (live_rows c.args.search.now) c.args.rows.items
    c.requires.opening (let step = c.requires.step in omega arith) c.lives_are_few.ensures.rising
    c.lives_are_few.ensures.few (IsPermutation-refl (live_rows c.args.search.now)) refl refl refl c.requires.claimed
    (record {
      table = c.close.ensures.table;
      size = c.close.ensures.size;
      owners = c.close.ensures.owners;
      seen = c.close.ensures.seen;
      full = c.close.ensures.full;
    })).1
