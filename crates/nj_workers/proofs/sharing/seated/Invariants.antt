-- The takers so far have their hands.
use Rattle.std.proofs.Common.{◌≡◌, ◌≤◌, ◌+◌, ◌++◌, All, length}
use Rattle.std.specs.Prelude.{map, reverse, vec_len, vec_capacity}
use Rattle.nj_claims.specs.Passes.{first_pass}
use Rattle.nj_workers.specs.Desks.{IsSeated}
use Rattle.nj_workers.proofs.Together.{taker_of}
use Rattle.nj_workers.proofs.sharing.seated.Given as goal

abbrev pub invariant-loop-taker : goal.invariant-loop-taker
invariant-loop-taker l =
    All (IsSeated l.fn.table l.fn.search) l.ends.items
    × (map taker_of l.ends.items ++ reverse l.takers.items ≡ l.fn.takers.items)
    × (l.pass ≡ record (first_pass l.fn.table.id) { out = length l.ends.items })
    × (vec_capacity l.takers ≡ vec_capacity l.fn.takers)
    × (vec_len l.fn.takers ≤ vec_capacity l.ends)
    × (vec_len l.ends + vec_len l.takers ≡ vec_len l.fn.takers)

abbrev pub decreases-loop-taker : goal.decreases-loop-taker
decreases-loop-taker l = goal.left-loop-taker l
