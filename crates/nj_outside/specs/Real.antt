-- The shelf over the system's files, as contracts see it. Ours.
use Rattle.std.specs.Prelude.{ℕ}

-- of reads and of puts the faults so far and the hash of the last failed name
pub record RealShelf : Type 0 where
  pub read_faults : ℕ
  pub failed_read : ℕ
  pub put_faults : ℕ
  pub failed_put : ℕ
