-- What came back and what is still to come are all.
use Rattle.std.proofs.Common.{◌≡◌, ◌≤◌, ◌+◌, ◌++◌, true, All}
use Rattle.std.specs.Prelude.{map, reverse, vec_len, vec_capacity, OnOk}
use Rattle.nj_workers.specs.Desks.{joined_all, rows_all}
use Rattle.nj_workers.proofs.Together.{taker_of}
use Rattle.nj_workers.proofs.sharing.returned.Given as goal

abbrev pub invariant-loop-end : goal.invariant-loop-end
invariant-loop-end l =
    (joined_all l.pass l.ends.items ≡ joined_all l.fn.pass l.fn.ends.items)
    × (map taker_of l.ends.items ++ reverse l.takers.items ≡ map taker_of l.fn.ends.items)
    × OnOk l.added (l.rows.items ++ rows_all l.ends.items ≡ rows_all l.fn.ends.items)
    × (l.pass.table ≡ l.fn.table.id)
    × (l.pass.is_root ≡ true)
    × All (λ end. end.hand.pass.table ≡ l.fn.table.id) l.ends.items
    × (vec_len l.ends + vec_len l.takers ≤ vec_capacity l.takers)

abbrev pub decreases-loop-end : goal.decreases-loop-end
decreases-loop-end l = goal.left-loop-end l
