-- A file that is read piece by piece: what was read so far is its beginning.
use Rattle.std.proofs.Common.{◌≡◌, ℕ, ◌+◌, ◌-◌, ◌<◌, ◌≤◌, List, [], ◌++◌, Option, Some, None, length, take, drop, refl, sym, ◌∙◌, ap, arith, length-append}
use Rattle.std.proofs.Math.Seq.{take-add}
use Rattle.std.proofs.lemmas.List.{take_all, length-take-le}

-- the bytes are the beginning of the file, and none where there is no file
abbrev pub IsBegun : Option (List ℕ) → List ℕ → Type 0
IsBegun None bytes = bytes ≡ []
IsBegun (Some file) bytes = (length bytes ≤ length file) × (bytes ≡ take (length bytes) file)

-- a piece that a read gave from the place after the beginning makes a longer beginning
pub begun_more : (o : Option (List ℕ)) (bytes piece : List ℕ) (n : ℕ)
    → IsBegun o bytes → n ≤ length piece → (o ≡ None → ⊥)
    → ((file : List ℕ) → o ≡ Some file
    → (n ≤ length file - length bytes) × (take n piece ≡ take n (drop (length bytes) file)))
    → IsBegun o (bytes ++ take n piece)
begun_more None bytes piece n begun within there read = absurd (there refl)
begun_more (Some file) bytes piece n begun within there read =
    let long : length (bytes ++ take n piece) ≡ length bytes + n =
    length-append bytes (take n piece) ∙ ap (λ k. length bytes + k) (length-take-le n piece within) in
    let bound : n ≤ length file - length bytes = (read file refl).0 in
    let before : length bytes ≤ length file = begun.0 in (
      omega arith,
      ap (λ x. x ++ take n piece) begun.1 ∙ ap (λ x. take (length bytes) file ++ x) ((read file refl).1)
          ∙ sym (take-add (length bytes) n file) ∙ ap (λ k. take k file) (sym long),
    )

-- where nothing is left after the beginning, it is the whole file
pub begun_whole : (o : Option (List ℕ)) (bytes : List ℕ)
    → IsBegun o bytes → (o ≡ None → ⊥) → ((file : List ℕ) → o ≡ Some file → length file ≤ length bytes) → o ≡ Some bytes
begun_whole None bytes begun there ends = absurd (there refl)
begun_whole (Some file) bytes begun there ends = ap Some (sym (begun.1 ∙ take_all (length bytes) file (ends file refl)))

-- a beginning longer than the limit shows a file longer than it
pub begun_past : (o : Option (List ℕ)) (bytes : List ℕ) (limit : ℕ)
    → IsBegun o bytes → limit < length bytes → (file : List ℕ) × (o ≡ Some file) × (limit < length file)
begun_past None bytes limit begun past = absurd (let none : length bytes ≡ 0 = ap length begun in omega arith)
begun_past (Some file) bytes limit begun past =
    (file, refl, (let before : length bytes ≤ length file = begun.0 in omega arith))
