-- The bytes of a saved search, and which bytes say it. The format is our own: each number has its least byte first.
use Rattle.std.specs.Prelude.{ℕ, ◌==◌, List, ◌++◌, length, if◌then◌else◌}
use Rattle.std.specs.Int.{w32, w64, to_le_bytes}
use Rattle.std.specs.List.{flat_map}
use Rattle.nj_bytes.specs.Fnv.{fnv_of}
use Rattle.nj_saved.specs.declared.saved.Saved.{Saved}
use Rattle.nj_saved.specs.Fields.{file_name}
use Rattle.nj_saved.specs.Ranges.{words_of}

-- the keys of a generation, and before them their count
unfoldable pub generation_bytes : List ℕ → List ℕ
generation_bytes keys = to_le_bytes w32 (length keys) ++ flat_map (to_le_bytes w64) keys

-- the numbers before the words
unfoldable pub head_bytes : ℕ → Saved → List ℕ
head_bytes version saved =
    file_name ++ (to_le_bytes w32 version ++ (to_le_bytes w64 saved.cart ++ (to_le_bytes w64 saved.script
    ++ (to_le_bytes w32 saved.step ++ (to_le_bytes w32 (words_of saved) ++ (to_le_bytes w32 saved.level
    ++ (to_le_bytes w32 saved.until ++ to_le_bytes w32 (length saved.generations))))))))

-- the fields up to the last key
unfoldable pub field_bytes : ℕ → Saved → List ℕ
field_bytes version saved = head_bytes version saved ++ (saved.words ++ flat_map generation_bytes saved.generations)

-- with version 2 the hash of all bytes before it follows
unfoldable pub file_bytes : ℕ → Saved → List ℕ
file_bytes version saved =
    if version == 2 then field_bytes version saved ++ to_le_bytes w64 (fnv_of (field_bytes version saved))
    else field_bytes version saved
