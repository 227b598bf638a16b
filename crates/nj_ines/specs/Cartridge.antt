-- What a cartridge holds of one of the boards NROM, UxROM and CNROM: NESdev Wiki, "iNES", "NROM", "UxROM" and "CNROM".
-- Which sizes are taken is our own.
use Rattle.std.specs.Prelude.{◌≡◌, ◌⊎◌, ℕ, Bool, false, List, length, replicate, IsTrue}

-- the program memory, the pattern memory, whether the latter is RAM, whether the mirroring is vertical, and the mapper
pub record Cartridge : Type 0 where
  pub prg : List ℕ
  pub chr : List ℕ
  pub chr_ram : Bool
  pub vertical : Bool
  pub mapper : ℕ

-- NROM, mapper 0: 16 or 32 KiB of program memory and 8 KiB of pattern memory (NESdev Wiki, "NROM")
pub record IsNrom (cart : Cartridge) : Type 0 where
  pub mapper : cart.mapper ≡ 0
  pub prg : (length cart.prg ≡ 16384) ⊎ (length cart.prg ≡ 32768)
  pub chr : length cart.chr ≡ 8192

-- UxROM, mapper 2: 2, 4, 8 or 16 banks of 16 KiB of program memory and 8 KiB of pattern memory (NESdev Wiki, "UxROM")
pub record IsUxrom (cart : Cartridge) : Type 0 where
  pub mapper : cart.mapper ≡ 2
  pub prg :
      (length cart.prg ≡ 32768)
      ⊎ ((length cart.prg ≡ 65536) ⊎ ((length cart.prg ≡ 131072) ⊎ (length cart.prg ≡ 262144)))
  pub chr : length cart.chr ≡ 8192

-- CNROM, mapper 3: NROM's program memory, and 1, 2 or 4 banks of 8 KiB of pattern ROM (NESdev Wiki, "CNROM")
pub record IsCnrom (cart : Cartridge) : Type 0 where
  pub mapper : cart.mapper ≡ 3
  pub prg : (length cart.prg ≡ 16384) ⊎ (length cart.prg ≡ 32768)
  pub chr : (length cart.chr ≡ 8192) ⊎ ((length cart.chr ≡ 16384) ⊎ (length cart.chr ≡ 32768))
  pub rom : cart.chr_ram ≡ false

-- a cartridge of one of the three boards, whose pattern memory is zeros where it is RAM (that it begins so is our own)
pub record IsCartridge (cart : Cartridge) : Type 0 where
  pub board : IsNrom cart ⊎ (IsUxrom cart ⊎ IsCnrom cart)
  pub ram_zeros : IsTrue cart.chr_ram → cart.chr ≡ replicate 8192 0
