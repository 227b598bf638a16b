-- What a bus does, as functions of what it holds.
use Rattle.std.specs.Prelude.{ℕ, Bool, Option, Some, None}

-- the meanings of a bus's calls (this project's own; a read or a write is one cycle of the NMOS 6502)
pub record Acts (Held : Type 0) : Type 0 where
  -- the byte that a read answers, and what the bus holds after it
  pub byte : Held → ℕ → ℕ
  pub after_read : Held → ℕ → Held
  -- what it holds after a write
  pub after_write : Held → ℕ → ℕ → Held
  -- the level of the NMI line
  pub line : Held → Bool
  -- the page of a sprite copy that was asked for, and what it holds once the page is taken
  pub page : Held → Option ℕ
  pub after_take : Held → Held
  -- the next cycle's number is odd
  pub odd : Held → Bool

-- what a bus holds once it was asked for a page: nothing changes where there is none
abbrev pub after_none_or : {Held : Type 0} → Option ℕ → Held → Held → Held
after_none_or None old taken = old
after_none_or (Some page) old taken = taken

-- what a bus holds after it was asked for a page
abbrev pub after_asking : {Held : Type 0} → Acts Held → Held → Held
after_asking acts held = after_none_or (acts.page held) held (acts.after_take held)
