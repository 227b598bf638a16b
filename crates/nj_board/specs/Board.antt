-- What a cartridge's board does, as functions of what it holds.
use Rattle.std.specs.Prelude.{ℕ, List, Option}

-- the meanings of a board's calls (this project's own)
pub record BoardActs (Held : Type 0) : Type 0 where
  -- the byte that the processor reads at an address, none where nothing is mapped
  pub byte : Held → ℕ → Option ℕ
  -- what it holds after the processor's write
  pub after_write : Held → ℕ → ℕ → Held
  -- the 8 KiB that the picture sees, and what the board holds after a write to them
  pub pattern : Held → List ℕ
  pub after_put : Held → ℕ → ℕ → Held
  -- the bank that is chosen, and what the board holds once another is
  pub bank : Held → ℕ
  pub after_bank : Held → ℕ → Held
  -- how many banks there are to choose from
  pub banks : Held → ℕ
