-- The keys of a table by their owners, as lists: the generations of a saved search before they are in order.
use Rattle.std.specs.Prelude.{ℕ, zero, suc, ◌+◌, ◌==◌, List, [], ◌∷◌, map, filter}

-- the keys of the entries of one owner, as they stand
abbrev pub keys_owned : List (ℕ × ℕ) → ℕ → List ℕ
keys_owned entries owner = map (λ entry. entry.0) (filter (λ entry. entry.1 == owner) entries)

-- those of so many consecutive owners
abbrev pub keys_by_owner : List (ℕ × ℕ) → ℕ → ℕ → List (List ℕ)
keys_by_owner entries first zero = []
keys_by_owner entries first (suc more) = keys_owned entries first ∷ keys_by_owner entries (first + 1) more
