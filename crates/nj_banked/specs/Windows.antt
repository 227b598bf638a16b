-- Where a board's windows begin in its memories.
use Rattle.std.specs.Prelude.{◌≡◌, ℕ, ◌+◌, ◌*◌, ◌==◌, if◌then◌else◌, length}
use Rattle.nj_banked.specs.Banks.{Banks, IsBanks}

-- where in program memory the window at $8000 begins
abbrev pub low_of : Banks → ℕ
low_of m = if m.mapper == 2 then 16384 * m.bank else 0

-- where in pattern memory the picture's window begins
abbrev pub pattern_at : Banks → ℕ
pattern_at m = if m.mapper == 3 then 8192 * m.bank else 0

-- what is kept of the windows: an address and this number, less 64 KiB, is the place in program memory. The window at
-- $8000 stands where the chosen bank says, and that at $C000 on the last 16 KiB, so it ends with the memory
pub record IsWindowed (m : Banks) (low high pattern : ℕ) : Type 0 where
  pub fits : IsBanks m
  pub low_is : low ≡ 32768 + low_of m
  pub high_is : high ≡ length m.prg
  pub pattern_is : pattern ≡ pattern_at m
