-- The kinds of file, what each is read as, and the work that reads one. Our own.
use Rattle.std.specs.Prelude.{ℕ, nat_lt, List, [], ◌∷◌, length, Option, Some, None, Result, Err, bytes_eq, codes, if◌then◌else◌}
use Rattle.std.specs.Option.{option_map_or}
use Rattle.nj_asm.specs.Assembly.{assembly_of}
use Rattle.nj_asm.specs.declared.assembling.Assembled.{Assembled}
use Rattle.nj_ines.specs.Cartridge.{Cartridge}
use Rattle.nj_ines.specs.Reading.{cartridge_of}
use Rattle.nj_movie.specs.Text.{movie_of}
use Rattle.nj_bytes.specs.Fnv.{fnv_of}
use Rattle.nj_script.specs.Script.{Record, script_of}
use Rattle.nj_saved.specs.Reading.{saved_of}
use Rattle.nj_saved.specs.declared.saved.Saved.{Saved}
use Rattle.nj_texts.specs.Refusals.{asm_refusal, cart_refusal, movie_refusal, saved_refusal, script_refusal, too_long}
use Rattle.nj_tasks.specs.Work.{Work, Read, accepted, refusal_told, value_told}
use Rattle.nj_tasks.specs.declared.files.Bounds.{Bounds}
use Rattle.nj_tasks.specs.declared.formats.TheConstants.{CART, MOVIE, SAVED, SCRIPT, SOURCE}

-- a kind of file: its bounds, what its bytes say or the text of their refusal, and the value that a name stands for
-- which is no file's
pub record FileFormat (A : Type 0) : Type 0 where
  pub bounds : Bounds
  pub says : List ℕ → Result A (List ℕ)
  pub without : List ℕ → Option A

-- what a file is read as: it is held against its length limit first
abbrev pub reading_of : {A : Type 0} → FileFormat A → List ℕ → Result A (List ℕ)
reading_of format bytes =
    if nat_lt format.bounds.limit (length bytes) then Err (too_long format.bounds.too_long format.bounds.limit) else
    format.says bytes

-- these bytes are read
abbrev pub made : {A : Type 0} → FileFormat A → List ℕ → (A → Work) → Work
made format bytes next = accepted format.bounds.kind next (reading_of format bytes)

-- the file of this name is read, if it is a file's
abbrev pub loaded : {A : Type 0} → FileFormat A → List ℕ → (A → Work) → Work
loaded format name next = option_map_or next (format.without name) (Read name (λ bytes. made format bytes next))

-- the files of this name: itself, or none
abbrev pub names_of : {A : Type 0} → FileFormat A → List ℕ → List (List ℕ)
names_of format name = option_map_or (λ _. []) (format.without name) (name ∷ [])

-- a cartridge
unfoldable pub cart_format : FileFormat Cartridge
cart_format = record {
  bounds = CART;
  says = λ bytes. refusal_told cart_refusal (cartridge_of bytes);
  without = λ _. None;
}

-- a script
unfoldable pub script_format : FileFormat Record
script_format = record {
  bounds = SCRIPT;
  says = λ bytes. refusal_told script_refusal (script_of bytes);
  without = λ _. None;
}

-- a movie; `-` is the empty movie and no file
unfoldable pub movie_format : FileFormat (List ℕ)
movie_format = record {
  bounds = MOVIE;
  says = λ bytes. refusal_told movie_refusal (movie_of bytes);
  without = λ name. if bytes_eq name (codes "-") then Some [] else None;
}

-- a source, assembled
unfoldable pub source_format : FileFormat Assembled
source_format = record {
  bounds = SOURCE;
  says = λ bytes. refusal_told asm_refusal (assembly_of bytes);
  without = λ _. None;
}

-- a saved search of the files of these hashes: of the cartridge, and of the script with the start
unfoldable pub saved_format : ℕ → ℕ → FileFormat Saved
saved_format cart script = record {
  bounds = SAVED;
  says = λ bytes. refusal_told saved_refusal (saved_of bytes cart script);
  without = λ _. None;
}

-- a file of this kind, with the hash of its bytes
unfoldable pub hashed : {A : Type 0} → FileFormat A → FileFormat (A × ℕ)
hashed format = record {
  bounds = format.bounds;
  says = λ bytes. value_told (λ value. (value, fnv_of bytes)) (format.says bytes);
  without = λ _. None;
}
