-- All workers of a step, and what they bring back together. All of it is this project's own.
use Rattle.std.specs.Prelude.{◌≡◌, ℕ, ◌<◌, List, [], ◌∷◌, ◌++◌, length, slice_index_or}
use Rattle.nj_claims.specs.Passes.{TableView, PassView, joined_pass}
use Rattle.nj_pieces.specs.declared.parts.Pieces.{Pieces}
use Rattle.nj_pieces.specs.Takers.{taken_of}
use Rattle.nj_machine.specs.State.{rom_of}
use Rattle.nj_rows.specs.declared.Row.{Row}
use Rattle.nj_expand.specs.Held.{Held}
use Rattle.nj_expand.specs.Front.{rom_in}
use Rattle.nj_hands.specs.declared.hand.WorkEnd.{WorkEnd}
use Rattle.nj_hands.specs.Hands.{HasWorked}

-- a worker's hand before it works: a machine of the cartridge, and a pass of the table that knows nothing; no row is
-- there
pub record IsSeated (table : TableView) (held : Held) (end : WorkEnd) : Type 0 where
  pub search : end.hand.search.now ≡ held
  pub cartridge : rom_of end.hand.machine ≡ rom_in held.plan
  pub own : end.hand.pass.table ≡ table.id
  pub claims : end.hand.pass.claims ≡ []
  pub seen : end.hand.pass.seen ≡ []
  pub full : end.hand.pass.full ≡ []
  pub rows : end.rows.items ≡ []

-- what holds of the elements at each place of two lists
abbrev pub EachPair : {X : Type 0} → (X → X → Type 0) → List X → List X → Type 0
EachPair {X} R xs ys = (k : ℕ) (d : X) → k < length xs → R (slice_index_or xs k d) (slice_index_or ys k d)

-- what a worker brings back
abbrev pub Served : TableView → Pieces → WorkEnd → WorkEnd → ℕ → ℕ → Type 0
Served table pieces old new from to = HasWorked table pieces old.hand new.hand old.rows.items new.rows.items from to

-- what all have done who sat at desks, each with the counter at its place, the counters past the last one's being as
-- they were
abbrev pub AllHave : {X : Type 0} → (X → X → ℕ → ℕ → Type 0) → List X → List X → List ℕ → List ℕ → Type 0
AllHave {X} Has [] [] from to = to ≡ from
AllHave {X} Has (old ∷ olds) (new ∷ news) (count ∷ counts) (after ∷ afters) =
    Has old new count after × AllHave Has olds news counts afters
AllHave {X} _ _ _ _ _ = ⊥

-- what all workers bring back
abbrev pub AllServed : TableView → Pieces → List WorkEnd → List WorkEnd → List ℕ → List ℕ → Type 0
AllServed table pieces = AllHave (Served table pieces)

-- the first pass when the passes of these workers have come back to it, the last worker's first
abbrev pub joined_all : PassView → List WorkEnd → PassView
joined_all pass [] = pass
joined_all pass (end ∷ ends) = joined_pass (joined_all pass ends) end.hand.pass

-- their rows, the last worker's first
abbrev pub rows_all : List WorkEnd → List Row
rows_all [] = []
rows_all (end ∷ ends) = rows_all ends ++ end.rows.items

-- the pieces that they have taken, the last worker's first
abbrev pub taken_all : List WorkEnd → List ℕ
taken_all [] = []
taken_all (end ∷ ends) = taken_all ends ++ taken_of end.hand.taker
