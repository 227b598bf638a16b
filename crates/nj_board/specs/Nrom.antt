-- The NROM board: program memory at $8000, repeated where it has 16 KiB, and 8 KiB of pattern memory, ROM or RAM
-- (NESdev Wiki, "NROM").
use Rattle.std.specs.Prelude.{◌≡◌, ◌⊎◌, ℕ, ◌-◌, ◌%◌, Bool, nat_le, if◌then◌else◌, List, length, slice_index, slice_set, Option, Some, None}
use Rattle.nj_board.specs.Board.{BoardActs}

-- the memory of an NROM cartridge
pub record Memory : Type 0 where
  pub prg : List ℕ
  pub chr : List ℕ
  -- pattern memory is RAM
  pub chr_ram : Bool

-- program memory has 16 or 32 KiB
abbrev pub IsProgram : List ℕ → Type 0
IsProgram prg = (length prg ≡ 16384) ⊎ (length prg ≡ 32768)

-- program memory has 16 or 32 KiB, pattern memory 8 KiB
pub record IsMemory (m : Memory) : Type 0 where
  pub prg : IsProgram m.prg
  pub chr : length m.chr ≡ 8192

-- the byte of program memory at an address from $8000: 16 KiB stand there twice (NESdev Wiki, "NROM")
abbrev pub program_byte : List ℕ → ℕ → ℕ
program_byte prg at = slice_index prg ((at - 0x8000) % length prg)

-- the processor reads program memory from $8000 on; below nothing is mapped
unfoldable pub byte_at : Memory → ℕ → Option ℕ
byte_at m at = if nat_le 0x8000 at then Some (program_byte m.prg at) else None

-- a write to pattern memory, which ROM ignores
unfoldable pub put_at : Memory → ℕ → ℕ → Memory
put_at m at value = if m.chr_ram then record m { chr = slice_set m.chr at value } else m

-- the board's calls: the processor's writes change nothing, and there is one bank, number 0
abbrev pub nrom : BoardActs Memory
nrom = record {
  byte = byte_at;
  after_write = λ m _ _. m;
  pattern = λ m. m.chr;
  after_put = put_at;
  bank = λ _. 0;
  after_bank = λ m _. m;
  banks = λ _. 1;
}
