-- The counters of the workers together. All of it is this project's own.
use Rattle.std.specs.Prelude.{◌≡◌, ℕ, ◌+◌, ◌≤◌, List, length, drop, sum}
use Rattle.std.specs.List.{AllZip}

-- the counters of so many workers, before and after: as many, none falls, those past the workers' stay, and together
-- they rise by at most so much
pub record AreCounted (workers : ℕ) (old new : List ℕ) (most : ℕ) : Type 0 where
  pub many : length new ≡ length old
  pub none_falls : AllZip (λ before after. before ≤ after) old new
  pub others : drop workers new ≡ drop workers old
  pub together : sum new ≤ sum old + most
