-- What a shelf or a sink tells of the bytes that it has. Ours.
use Rattle.std.specs.Prelude.{◌≡◌, ℕ, List, [], ◌++◌, take, Option, Some, None, unwrap_or, if◌then◌else◌, bytes_eq, refl}
use Rattle.std.proofs.Common.{ap, append_assoc, Bool, true, false}
use Rattle.std.proofs.Math.Path.{fun_ext}
use Rattle.std.proofs.lemmas.List.{append-nil}
use Rattle.std.proofs.lemmas.Slice.Eq.{bytes_eq-Decides}

-- the files of a shelf: of each name its bytes, or none where there is no such file
abbrev pub Files : Type 0
Files = List ℕ → Option (List ℕ)

-- the files where the one of this name has these bytes, and every other one is as before
unfoldable pub with_file : Files → List ℕ → List ℕ → Files
with_file files name bytes other = if bytes_eq name other then Some bytes else files other

-- the bytes of the file, and none where it is not there
abbrev pub bytes_at : Files → List ℕ → List ℕ
bytes_at files name = unwrap_or (files name) []

-- the same change of files that may be told or not: what is not told stays so
abbrev pub put_file : Option Files → List ℕ → List ℕ → Option Files
put_file None name bytes = None
put_file (Some files) name bytes = Some (with_file files name bytes)

-- the file's bytes before the place, and then these
abbrev pub put_file_from : Option Files → List ℕ → ℕ → List ℕ → Option Files
put_file_from None name at bytes = None
put_file_from (Some files) name at bytes = Some (with_file files name (take at (bytes_at files name) ++ bytes))

-- the bytes that were told, and then these; what is not told stays so
abbrev pub appended : Option (List ℕ) → List ℕ → Option (List ℕ)
appended None bytes = None
appended (Some written) bytes = Some (written ++ bytes)

-- the file that was put has its bytes
pub with_file_same : (files : Files) (name bytes : List ℕ) → with_file files name bytes name ≡ Some bytes
unfolding with_file
with_file_same files name bytes = ap (λ b. if b then Some bytes else files name) ((bytes_eq-Decides name name).1 refl)

-- of two puts of one name the last counts
pub with_file_twice : (files : Files) (name first last : List ℕ)
    → with_file (with_file files name first) name last ≡ with_file files name last
unfolding with_file
with_file_twice files name first last = fun_ext (λ other. by_test (bytes_eq name other) other) where
  by_test : (b : Bool) (other : List ℕ)
      → (if b then Some last else (if b then Some first else files other)) ≡ (if b then Some last else files other)
  by_test true other = refl
  by_test false other = refl

-- nothing written leaves what is told
pub appended-nothing : (old : Option (List ℕ)) → appended old [] ≡ old
appended-nothing None = refl
appended-nothing (Some written) = ap Some (append-nil written)

-- two writes are one of both pieces
pub appended-append : (old : Option (List ℕ)) (a b : List ℕ) → appended (appended old a) b ≡ appended old (a ++ b)
appended-append None a b = refl
appended-append (Some written) a b = ap Some (append_assoc written a b)
