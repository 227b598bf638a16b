-- What a pass of a deque may do and has done, and what each step makes of it.
use Rattle.std.specs.Prelude.{◌≡◌, ℕ, ◌+◌, ◌-◌, ◌≤◌, List, [], ◌∷◌, ◌++◌}
use Rattle.std.specs.List.{sum_by}
use Rattle.nj_pieces.specs.declared.rule.Tally.{Tally}
use Rattle.nj_pieces.specs.declared.rule.Task.{Task}
use Rattle.nj_pieces.specs.declared.rule.Task.TheVariants.{Piece, End}

-- a pass that may take no mark and has done nothing
abbrev pub blank : Tally
blank = record { seats = 0; ends = 0; marks = 0; dealt = []; taken = []; log = [] }

-- after a task was put: a piece is dealt, and a mark brings the right to take it
abbrev pub put_one : Tally → Task → Tally
put_one v (Piece p) = record v { dealt = v.dealt ++ p ∷ [] }
put_one v End = record v { seats = v.seats + 1; marks = v.marks + 1 }

-- after these tasks were put
abbrev pub put : Tally → List Task → Tally
put v [] = v
put v (x ∷ xs) = put (put_one v x) xs

-- after a piece was taken
abbrev pub with_piece : Tally → ℕ → Tally
with_piece v p = record v { taken = v.taken ++ p ∷ [] }

-- after a mark was taken
abbrev pub with_end : Tally → Tally
with_end v = record v { ends = v.ends + 1 }

-- a bound on the pieces dealt is one on a piece that is taken
abbrev pub IsOf : List ℕ → ℕ → Type 0
IsOf dealt p = (h : ℕ → ℕ) → h p ≤ sum_by h dealt

-- one task is taken: a piece that was dealt, or a mark
abbrev pub TakesOne : Tally → Task → Tally → Type 0
TakesOne v (Piece p) w = (w ≡ with_piece v p) × IsOf v.dealt p
TakesOne v End w = w ≡ with_end v

-- the tasks that were taken in one step are one task, and the tally is the one after it
abbrev pub IsTaken : Tally → List Task → Tally → Type 0
IsTaken v [] w = ⊥
IsTaken v (x ∷ []) w = TakesOne v x w
IsTaken v (x ∷ y ∷ xs) w = ⊥

-- all pieces that were dealt were taken
abbrev pub IsSettled : Tally → Type 0
IsSettled v = (h : ℕ → ℕ) → sum_by h v.dealt ≡ sum_by h v.taken

-- one task is taken by the pass that has all marks: a piece, where no mark was taken; or a mark, where none is left
abbrev pub DrainsOne : Tally → Task → Tally → Type 0
DrainsOne v (Piece p) w =
    (w ≡ with_piece v p) × (v.ends ≡ 0) × ((h : ℕ → ℕ) → sum_by h v.taken + h p ≤ sum_by h v.dealt)
DrainsOne v End w = (w ≡ with_end v) × IsSettled v

-- what the pass that has all marks takes is one task
abbrev pub IsDrained : Tally → List Task → Tally → Type 0
IsDrained v [] w = ⊥
IsDrained v (x ∷ []) w = DrainsOne v x w
IsDrained v (x ∷ y ∷ xs) w = ⊥

-- the right to one mark goes from this pass to a new one
abbrev pub cut : Tally → Tally
cut v = record v { seats = v.seats - 1 }

-- the new pass, which knows the pieces that were dealt
abbrev pub guest : Tally → Tally
guest v = record { seats = 1; ends = 0; marks = 0; dealt = v.dealt; taken = []; log = [] }

-- the owner's pass with what another one has
abbrev pub both : Tally → Tally → Tally
both v u = record v { seats = v.seats + u.seats; ends = v.ends + u.ends; taken = v.taken ++ u.taken }

-- the owner's pass with one more piece noted
abbrev pub noted : Tally → ℕ → Tally
noted v p = record v { log = v.log ++ p ∷ [] }

-- the owner's pass before any piece was taken: these pieces were dealt, and it has the rights to so many marks
abbrev pub opening : List ℕ → ℕ → Tally
opening dealt marks = record { seats = marks; ends = 0; marks = marks; dealt = dealt; taken = []; log = [] }
