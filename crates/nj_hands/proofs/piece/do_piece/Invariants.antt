-- The words of the piece before this place are done.
use Rattle.std.proofs.Common.{◌≡◌, ◌*◌, ◌≤◌, ◌+◌, length}
use Rattle.std.specs.Prelude.{vec_len, vec_capacity}
use Rattle.nj_hands.proofs.Words.{IsDone}
use Rattle.nj_hands.proofs.piece.do_piece.Given as goal

abbrev pub invariant-loop-place : goal.invariant-loop-place
invariant-loop-place g l =
    IsDone l.fn.search (16 * l.fn.piece) l.place l.fn.pass l.pass l.fn.rows.items l.rows.items l.fn.steps l.steps
    (vec_len l.fn.rows) (vec_len l.rows) l.machine
    × (16 * l.fn.piece ≤ l.place)
    × (l.place ≤ 16 * l.fn.piece + 16)
    × (length l.image ≡ length l.fn.image)
    × (vec_capacity l.found ≡ vec_capacity l.fn.found)
    × (vec_capacity l.rows ≡ vec_capacity l.fn.rows)
