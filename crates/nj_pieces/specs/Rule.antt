-- The rule of one deque. Its pieces stand before its marks. Each mark that was put is the right of one pass, which
-- takes one mark at most, so that a pass with an unused right never finds the deque empty. Each piece that was dealt
-- was taken by one pass or is still there; and none is there once a mark was taken.
use Rattle.std.specs.Prelude.{◌≡◌, ℕ, ◌+◌, ◌<◌, ◌≤◌, List, [], ◌∷◌, ◌++◌, map, replicate}
use Rattle.std.specs.List.{sum_by}
use mathlib.Core.Option.{some}
use lib.ListN.{get_elem?}
use Rattle.nj_pieces.specs.declared.rule.Tally.{Tally}
use Rattle.nj_pieces.specs.declared.rule.Task.{Task}
use Rattle.nj_pieces.specs.declared.rule.Task.TheVariants.{Piece, End}
use Rattle.nj_pieces.specs.Tallies.{blank}

-- a number of each pass, added up
abbrev pub total : (Tally → ℕ) → List Tally → ℕ
total f [] = 0
total f (v ∷ vs) = f v + total f vs

-- the owner's pass is the first
abbrev pub root_of : List Tally → Tally
root_of [] = blank
root_of (v ∷ vs) = v

-- what stands in the deque: these pieces, and then so many marks
abbrev pub tasks : List ℕ → ℕ → List Task
tasks pieces marks = map Piece pieces ++ replicate marks End

-- a pass has not taken more marks than it may, nothing if it may take none, and else knows what was dealt
pub record Fits (root v : Tally) : Type 0 where
  pub within : v.ends ≤ v.seats
  pub idle : v.seats ≡ 0 → v.taken ≡ []
  pub told : 0 < v.seats → v.dealt ≡ root.dealt

-- what stands in the deque and what its passes know fit together, as the rule says
pub record Holds (items : List Task) (views : List Tally) : Type 0 where
  pub rest : List ℕ
  pub left : ℕ
  pub items_are : items ≡ tasks rest left
  pub seats_are : total (λ v. v.seats) views ≡ (root_of views).marks
  pub marks_are : (root_of views).marks ≡ total (λ v. v.ends) views + left
  pub pieces_are : (h : ℕ → ℕ) → sum_by h (root_of views).dealt ≡ total (λ v. sum_by h v.taken) views + sum_by h rest
  pub ended : 0 < total (λ v. v.ends) views → rest ≡ []
  pub fits : (port : ℕ) (v : Tally) → get_elem? views port ≡ some v → Fits (root_of views) v
