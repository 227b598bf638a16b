-- The rows before this place are claimed.
use Rattle.std.proofs.Common.{◌≡◌, ◌+◌, ◌≤◌, take}
use Rattle.std.specs.Prelude.{vec_len, vec_capacity}
use Rattle.nj_hands.specs.Claimed.{AddsClaimed}
use Rattle.nj_hands.proofs.claiming.claim_rows.Given as goal

abbrev pub invariant-loop-row : goal.invariant-loop-row
invariant-loop-row l =
    AddsClaimed (take l.row-index l.found) l.fn.pass l.pass l.fn.rows.items l.rows.items
    × (vec_len l.rows ≤ vec_len l.fn.rows + l.row-index)
    × (vec_capacity l.rows ≡ vec_capacity l.fn.rows)
