-- Whole lists of calls to a board of several banks, and what it shows after them.
use Rattle.std.specs.Prelude.{◌≡◌, ◌<◌, ℕ, ◌+◌, ◌*◌, ◌/◌, ◌-◌, false, List, [], ◌∷◌, length, slice_index, slice_range, Some}
use Rattle.nj_board.specs.Nrom.{program_byte}
use Rattle.nj_banked.specs.Banks.{Banks, bank_count}
use Rattle.nj_banked.specs.Banked.{byte_at, written, pattern_of, put_at, with_bank}

-- a call that may change the board: the processor's write, the picture's, and the choice of a bank
pub data Call : Type 0 where
  Writes : ℕ → ℕ → Call
  Puts : ℕ → ℕ → Call
  Chooses : ℕ → Call

-- what the board holds after a call
abbrev pub after_call : Call → Banks → Banks
after_call (Writes at value) m = written m at value
after_call (Puts at value) m = put_at m at value
after_call (Chooses bank) m = with_bank m bank

-- what it holds after a list of calls
abbrev pub after_calls : List Call → Banks → Banks
after_calls [] m = m
after_calls (call ∷ calls) m = after_calls calls (after_call call m)

-- a call chooses a bank that there is
abbrev pub IsCall : ℕ → Call → Type 0
IsCall count (Writes at value) = Unit {0}
IsCall count (Puts at value) = Unit {0}
IsCall count (Chooses bank) = bank < count

-- so does each call of a list
abbrev pub AreCalls : ℕ → List Call → Type 0
AreCalls count [] = Unit {0}
AreCalls count (call ∷ calls) = IsCall count call × AreCalls count calls

-- a bank of so many bytes of a memory
abbrev pub bank_of : ℕ → List ℕ → ℕ → List ℕ
bank_of size memory n = slice_range memory (size * n) (size * n + size)

-- what calls never change, as it was and as it is
pub record IsKept (old new : Banks) : Type 0 where
  pub prg : new.prg ≡ old.prg
  pub mapper : new.mapper ≡ old.mapper
  pub chr_ram : new.chr_ram ≡ old.chr_ram
  pub rom : old.chr_ram ≡ false → new.chr ≡ old.chr
  pub chr_size : length new.chr ≡ length old.chr
  pub count : bank_count new ≡ bank_count old

-- a board shows UxROM's two windows on a program memory: a bank from $8000 on, the last bank from $C000 on
-- (NESdev Wiki, "UxROM")
pub record ShowsUxrom (prg : List ℕ) (m : Banks) : Type 0 where
  pub low : (n : ℕ) → n < 16384 → byte_at m (0x8000 + n) ≡ Some (slice_index (bank_of 16384 prg m.bank) n)
  pub high : (n : ℕ) → n < 16384 →
      byte_at m (0xC000 + n) ≡ Some (slice_index (bank_of 16384 prg (length prg / 16384 - 1)) n)
  pub bank : m.bank < length prg / 16384

-- a board shows NROM's program memory and CNROM's window on a pattern memory (NESdev Wiki, "CNROM")
pub record ShowsCnrom (prg chr : List ℕ) (m : Banks) : Type 0 where
  pub program : (n : ℕ) → n < 32768 → byte_at m (0x8000 + n) ≡ Some (program_byte prg (0x8000 + n))
  pub pattern : pattern_of m ≡ bank_of 8192 chr m.bank
  pub bank : m.bank < length chr / 8192
