-- What the homes of addresses mean, in the words of the NESdev Wiki ("Mirroring", "PPU memory map").
use Rattle.std.specs.Prelude.{◌≡◌, ◌≢◌, ℕ, ◌+◌, ◌<◌, ◌≤◌, Bool, length}
use Rattle.nj_vram.specs.declared.Vram.{Vram}
use Rattle.nj_vram.specs.Home.{home}

-- two addresses name one byte
abbrev pub IsMirror : Bool → ℕ → ℕ → Type 0
IsMirror vertical a b = home vertical a ≡ home vertical b

-- two nametables, given by their first addresses, are one
abbrev pub IsSameTable : Bool → ℕ → ℕ → Type 0
IsSameTable vertical a b = (n : ℕ) → n < 1024 → IsMirror vertical (a + n) (b + n)

-- two nametables, given by their first addresses, have no byte in common
abbrev pub IsOtherTable : Bool → ℕ → ℕ → Type 0
IsOtherTable vertical a b =
    (n m : ℕ) → n < 1024 → m < 1024 → home vertical (a + n) ≢ home vertical (b + m)

-- the two arrays have their sizes
pub record IsSized (m : Vram) : Type 0 where
  pub cells : length m.cells ≡ 2048
  pub palette : length m.palette ≡ 32
