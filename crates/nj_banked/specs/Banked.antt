-- What the boards UxROM and CNROM do: NESdev Wiki, "UxROM", "CNROM" and "Bus conflict". That the written value meets
-- the byte that is read there, on every cartridge, is our own.
use Rattle.std.specs.Prelude.{ℕ, ◌+◌, ◌-◌, ◌*◌, ◌%◌, ◌==◌, nat_le, nat_lt, if◌then◌else◌, List, length, slice_index, slice_range, slice_set, Option, Some, None, bit_and}
use Rattle.nj_board.specs.Board.{BoardActs}
use Rattle.nj_board.specs.Nrom.{program_byte}
use Rattle.nj_banked.specs.Banks.{Banks, bank_count}

-- UxROM: from $8000 on the chosen bank of 16 KiB of program memory, from $C000 on the last (NESdev Wiki, "UxROM")
unfoldable pub windowed_byte : List ℕ → ℕ → ℕ → ℕ
windowed_byte prg bank at =
    if nat_lt at 0xC000 then slice_index prg (16384 * bank + (at - 0x8000))
    else slice_index prg (length prg - 16384 + (at - 0xC000))

-- the byte of program memory at an address from $8000 on; the other boards have it as NROM has
unfoldable pub prg_byte : Banks → ℕ → ℕ
prg_byte m at = if m.mapper == 2 then windowed_byte m.prg m.bank at else program_byte m.prg at

-- the processor reads program memory from $8000 on; below nothing is mapped
unfoldable pub byte_at : Banks → ℕ → Option ℕ
byte_at m at = if nat_le 0x8000 at then Some (prg_byte m at) else None

-- the bank that a written value chooses: its bits that are set in the byte read there too, mod the number of banks
-- (NESdev Wiki, "Bus conflict")
unfoldable pub chosen_by : Banks → ℕ → ℕ → ℕ
chosen_by m at value = bit_and value (prg_byte m at) % bank_count m

-- a bank is chosen
abbrev pub with_bank : Banks → ℕ → Banks
with_bank m bank = record m { bank = bank }

-- the processor's write chooses a bank, from $8000 on (NESdev Wiki, "UxROM", "CNROM")
unfoldable pub written : Banks → ℕ → ℕ → Banks
written m at value = if nat_le 0x8000 at then with_bank m (chosen_by m at value) else m

-- what the picture sees: with CNROM the chosen bank of 8 KiB of pattern memory, else all of it (NESdev Wiki, "CNROM")
unfoldable pub pattern_of : Banks → List ℕ
pattern_of m = if m.mapper == 3 then slice_range m.chr (8192 * m.bank) (8192 * m.bank + 8192) else m.chr

-- a write to pattern memory, which ROM ignores
unfoldable pub put_at : Banks → ℕ → ℕ → Banks
put_at m at value = if m.chr_ram then record m { chr = slice_set m.chr at value } else m

-- the board's calls
abbrev pub banked : BoardActs Banks
banked = record {
  byte = byte_at;
  after_write = written;
  pattern = pattern_of;
  after_put = put_at;
  bank = λ m. m.bank;
  after_bank = with_bank;
  banks = bank_count;
}
