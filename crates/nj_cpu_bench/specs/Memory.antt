-- What the benchmark's bus answers and keeps.
use Rattle.std.specs.Prelude.{ℕ, ◌-◌, ◌%◌, List, nat_lt, nat_le, slice_index, slice_set, if◌then◌else◌}

-- RAM below $2000, PRG from $8000 on, else 0 (this project's own)
abbrev pub byte_at : List ℕ → List ℕ → ℕ → ℕ
byte_at ram prg at =
    if nat_lt at 8192 then slice_index ram (at % 2048)
    else (if nat_le 32768 at then slice_index prg ((at - 32768) % 16384) else 0)

-- a write below $2000 is kept
abbrev pub ram_after : List ℕ → ℕ → ℕ → List ℕ
ram_after ram at value = if nat_lt at 8192 then slice_set ram (at % 2048) value else ram
