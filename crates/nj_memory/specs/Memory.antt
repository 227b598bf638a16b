-- The shelf and the sink over memory, as contracts see them. Ours.
use Rattle.std.specs.Prelude.{◌≡◌, ℕ, ◌<◌, min, true, false, List, [], ◌∷◌, length, map, slice_index_or, Option, Some, None, IfSome, String, Vec, string_bytes, bytes_eq, if◌then◌else◌}
use Rattle.std.specs.Global.{Global}
use Rattle.nj_outside.specs.Rise.{one_more}
use Rattle.nj_outside.specs.Told.{Files}

-- a file: its name, and its bytes
abbrev pub File : Type 0
File = List ℕ × List ℕ

-- the files of a list of pairs: where a name stands twice, its first pair counts
abbrev pub files_of : List File → Files
files_of [] name = None
files_of (file ∷ rest) name = if bytes_eq file.0 name then Some file.1 else files_of rest name

-- a pair of the code: a name, and bytes
abbrev pub Pair : Type 0
Pair = String Global × Vec ℕ Global

-- the file that the pair is
abbrev pub file_of : Pair → File
file_of pair = (string_bytes pair.0, pair.1.items)

-- the files that the pairs are
abbrev pub named : List Pair → List File
named pairs = map file_of pairs

-- the pair has another name
abbrev pub IsOther : List ℕ → Pair → Type 0
IsOther name pair = bytes_eq (string_bytes pair.0) name ≡ false

-- none of the first n pairs has the name
abbrev pub NoneBefore : List Pair → List ℕ → ℕ → Type 0
NoneBefore pairs name n = (k : ℕ) (absent : Pair) → k < n → IsOther name (slice_index_or pairs k absent)

-- the pair at k is the first of the name
pub record IsFirst (pairs : List Pair) (name : List ℕ) (k : ℕ) : Type 0 where
  pub within : k < length pairs
  pub same : (absent : Pair) → bytes_eq (string_bytes (slice_index_or pairs k absent).0) name ≡ true
  pub before : NoneBefore pairs name k

-- what a memory shelf has: its files, the numbers of the calls that fail, the most bytes that a call moves,
-- the calls so far, of reads and of puts the faults so far and the hash of the last failed name, and the
-- growths without memory so far
pub record MemoryShelf : Type 0 where
  pub files : List File
  pub failing : List ℕ
  pub most : ℕ
  pub calls : ℕ
  pub read_faults : ℕ
  pub failed_read : ℕ
  pub put_faults : ℕ
  pub failed_put : ℕ
  pub dry : ℕ

-- what a memory sink has: the bytes written, the numbers of the calls that fail, the most bytes that a call
-- moves, and the calls, the faults and the growths without memory so far
pub record MemorySink : Type 0 where
  pub written : List ℕ
  pub failing : List ℕ
  pub most : ℕ
  pub calls : ℕ
  pub faults : ℕ
  pub dry : ℕ

-- a write to a memory sink is one call more, and took the lesser of `most` and the piece, unless it failed
pub record IsMemoryWrite (old : MemorySink) (piece : List ℕ) (taken : Option ℕ) (new : MemorySink) : Type 0 where
  pub counted : new.calls ≡ one_more old.calls
  pub moved : IfSome taken (λ count. count ≡ min old.most (length piece))
  pub most : new.most ≡ old.most
  pub failing : new.failing ≡ old.failing
