-- `watch`: the values of a script's properties after each frame of a movie, one line a frame. The layout is our own.
use Rattle.std.specs.Prelude.{ℕ, ◌+◌, List, [], ◌∷◌, ◌++◌, length, take, codes}
use Rattle.std.specs.Fmt.{decimal, signed_decimal}
use Rattle.std.specs.List.{flat_map, range_with_len}
use Rattle.nj_ines.specs.Cartridge.{Cartridge}
use Rattle.nj_machine.specs.State.{ram_of}
use Rattle.nj_machine.specs.Frame.{play}
use Rattle.nj_property.specs.declared.Property.{Property}
use Rattle.nj_property.specs.Property.{value_of}

-- a space and a property's value in working memory
unfoldable pub value_text : List ℕ → Property → List ℕ
value_text ram property = codes " " ++ signed_decimal (value_of property ram)

-- the number of a frame and the values after it
unfoldable pub watch_line : List Property → ℕ → List ℕ → List ℕ
watch_line properties frame ram = decimal frame ++ (flat_map (value_text ram) properties ++ 10 ∷ [])

-- the first line
unfoldable pub watch_head : ℕ → ℕ → List ℕ
watch_head frames properties =
    codes "# watch frames=" ++ (decimal frames ++ (codes " properties=" ++ (decimal properties ++ 10 ∷ [])))

-- the line after so many frames of a movie
abbrev pub line_after : Cartridge → List Property → List ℕ → ℕ → List ℕ
line_after cart properties movie frame = watch_line properties frame (ram_of (play cart (take frame movie)))

-- the values before the movie, and after each of its frames
unfoldable pub watch_text : Cartridge → List Property → List ℕ → List ℕ
watch_text cart properties movie =
    watch_head (length movie) (length properties)
    ++ flat_map (line_after cart properties movie) (range_with_len 0 (length movie + 1))
