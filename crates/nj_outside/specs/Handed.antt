-- A text that is written piece by piece, where each write is handed all that is left. Ours.
use Rattle.std.specs.Prelude.{ℕ, ◌<◌, Bool, true, false, List, [], length, drop, Option, Some, None}

-- the writes of a text from one state of a sink to another, each handed all that those before it left: in the end
-- nothing is left, or the last of them failed. `wrote` says what a write of a piece does, by how many of its bytes it
-- took, none where it failed
pub data HandsOver {S : Type 0} (wrote : S → List ℕ → Option ℕ → S → Type 0) : S → List ℕ → Bool → S → Type 0 where
  nothing_left : (sink : S) → HandsOver wrote sink [] true sink
  fails : (sink next : S) (left : List ℕ) → 0 < length left → wrote sink left None next
      → HandsOver wrote sink left false next
  takes : (sink next last : S) (left : List ℕ) (count : ℕ) (whole : Bool) → 0 < length left
      → wrote sink left (Some count) next →
      HandsOver wrote next (drop count left) whole last → HandsOver wrote sink left whole last
