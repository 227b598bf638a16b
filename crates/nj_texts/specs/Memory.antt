-- The text of a working memory. Our own.
use Rattle.std.specs.Prelude.{ℕ, ◌/◌, ◌%◌, ◌==◌, Bool, true, List, [], ◌∷◌, ◌++◌, codes, if◌then◌else◌}
use Rattle.std.specs.Fmt.{decimal, digit_glyph}
use Rattle.std.specs.List.{flat_map, enumerate_from}

-- a byte as two hexadecimal digits, in upper case
abbrev pub hex_byte : ℕ → List ℕ
hex_byte byte = digit_glyph true (byte / 16) ∷ digit_glyph true (byte % 16) ∷ []

-- an address in two bytes, a space and a byte, all in hexadecimal
abbrev pub hex_line_of : ℕ → ℕ → ℕ → List ℕ
hex_line_of high low byte = hex_byte high ++ (hex_byte low ++ (32 ∷ (hex_byte byte ++ 10 ∷ [])))

-- the line of a byte of working memory, by its address; a byte 0 has none
abbrev pub ram_line : ℕ × ℕ → List ℕ
ram_line cell = if cell.1 == 0 then [] else hex_line_of (cell.0 / 256) (cell.0 % 256) cell.1

-- the lines of working memory, by address from this one on
unfoldable pub ram_lines : ℕ → List ℕ → List ℕ
ram_lines at ram = flat_map ram_line (enumerate_from at ram)

-- the first line: how many frames were played, and whether the processor runs or is jammed
unfoldable pub play_line : ℕ → Bool → List ℕ
play_line frames jammed =
    codes "# play frames=" ++
    (decimal frames ++ (codes " state=" ++ ((if jammed then codes "jam" else codes "run") ++ 10 ∷ [])))

-- the text after so many frames: whether the processor runs, and the memory
unfoldable pub memory_text : ℕ → Bool → List ℕ → List ℕ
memory_text frames jammed ram = play_line frames jammed ++ ram_lines 0 ram
