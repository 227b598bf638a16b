-- What is said of the calls at the elements of a slice of which the first stands at a place.
use Rattle.std.specs.Prelude.{◌≡◌, ℕ, ◌+◌, ◌^◌, ◌<◌, List, length, slice_index_or}
use denote.Ref.{MutBor}
use denote.Param.Members.{Shared}
use Rattle.std.specs.Fork.{AcceptsAt, ChangesAt}

module _ {F T : Type 0} (g : Shared F (ℕ × (MutBor T × Unit {0})) ((Unit {0}) × (MutBor T × Unit {0}))) (f : F) where
  -- f may be called at x
  pub record AcceptsOne (place : ℕ) (x : T) : Type 0 where
    pub accept : AcceptsAt g f place x

  -- a call of f at x may leave y there
  pub record ChangesOne (place : ℕ) (x y : T) : Type 0 where
    pub change : ChangesAt g f place x y

  -- f may be called at each element of xs, and the places are those of a `usize`
  pub record AcceptsFrom (place : ℕ) (xs : List T) : Type 0 where
    pub room : place + length xs < 2 ^ 64
    pub each : (k : ℕ) (d : T) → k < length xs → AcceptsAt g f (place + k) (slice_index_or xs k d)

  -- each element of ys is what a call of f left at that place of xs
  pub record ChangesFrom (place : ℕ) (xs ys : List T) : Type 0 where
    pub many : length ys ≡ length xs
    pub each : (k : ℕ) (d : T) → k < length xs
        → ChangesAt g f (place + k) (slice_index_or xs k d) (slice_index_or ys k d)
