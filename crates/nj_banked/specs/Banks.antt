-- What a board of several banks holds, and the cartridges that it takes: NESdev Wiki, "UxROM" and "CNROM". Which sizes
-- are taken is our own.
use Rattle.std.specs.Prelude.{◌≡◌, ◌⊎◌, ◌<◌, ℕ, ◌/◌, ◌==◌, Bool, false, if◌then◌else◌, List, length}
use Rattle.nj_board.specs.Nrom.{Memory, IsProgram}

-- a cartridge's memories behind a board, and the bank that is chosen
pub record Banks : Type 0 where
  pub prg : List ℕ
  pub chr : List ℕ
  -- pattern memory is RAM
  pub chr_ram : Bool
  -- 0 is NROM, 2 UxROM, 3 CNROM (NESdev Wiki, "List of mappers")
  pub mapper : ℕ
  pub bank : ℕ

-- the same, power just on: bank 0 is chosen (our own)
abbrev pub begun : List ℕ → List ℕ → Bool → ℕ → Banks
begun prg chr chr_ram mapper = record { prg = prg; chr = chr; chr_ram = chr_ram; mapper = mapper; bank = 0 }

-- the memories alone, as a board of NROM has them
abbrev pub memory_in : Banks → Memory
memory_in m = record { prg = m.prg; chr = m.chr; chr_ram = m.chr_ram }

-- how many banks there are to choose from: 16 KiB of program memory each with UxROM, 8 KiB of pattern memory each with
-- CNROM, and one with NROM
unfoldable pub bank_count : Banks → ℕ
bank_count m = if m.mapper == 2 then length m.prg / 16384 else if m.mapper == 3 then length m.chr / 8192 else 1

-- UxROM's program memory has 2, 4, 8 or 16 banks of 16 KiB
abbrev pub IsUxromProgram : List ℕ → Type 0
IsUxromProgram prg = (length prg ≡ 32768) ⊎ ((length prg ≡ 65536) ⊎ ((length prg ≡ 131072) ⊎ (length prg ≡ 262144)))

-- CNROM's pattern memory has 1, 2 or 4 banks of 8 KiB
abbrev pub IsCnromPattern : List ℕ → Type 0
IsCnromPattern chr = (length chr ≡ 8192) ⊎ ((length chr ≡ 16384) ⊎ (length chr ≡ 32768))

-- a cartridge of NROM
pub record IsNrom (m : Banks) : Type 0 where
  pub mapper : m.mapper ≡ 0
  pub prg : IsProgram m.prg
  pub chr : length m.chr ≡ 8192

-- a cartridge of UxROM
pub record IsUxrom (m : Banks) : Type 0 where
  pub mapper : m.mapper ≡ 2
  pub prg : IsUxromProgram m.prg
  pub chr : length m.chr ≡ 8192

-- a cartridge of CNROM, whose pattern memory is ROM
pub record IsCnrom (m : Banks) : Type 0 where
  pub mapper : m.mapper ≡ 3
  pub prg : IsProgram m.prg
  pub chr : IsCnromPattern m.chr
  pub rom : m.chr_ram ≡ false

-- a cartridge of one of the three boards, with one of its banks chosen
pub record IsBanks (m : Banks) : Type 0 where
  pub board : IsNrom m ⊎ (IsUxrom m ⊎ IsCnrom m)
  pub bank : m.bank < bank_count m
