-- Lemmas on lists of items.
use Rattle.std.proofs.Common.{ℕ, suc, ◌≡◌, ◌≤◌, ◌<◌, ◌+◌, ◌==◌, not, Bool, true, false, cond, List, [], ◌∷◌, ◌++◌, length, take, drop, map, refl, sym, ap, ◌∙◌, arith, Option, Some, None, append_assoc}
use Rattle.std.specs.List.{slice_split, onto_first}
use Rattle.std.specs.Option.{option_map}
use Rattle.std.proofs.lemmas.List.Splits.{slice_split_first}
use Rattle.nj_asm_lines.specs.declared.syntax.Cell.{Cell}
use Rattle.nj_asm_lines.specs.Words.{length_before}
use Rattle.nj_asm_lines.specs.Grammar.{item_of, items_of, all_some}

-- cells put before others, if those are there
abbrev pub with_front : List Cell → Option (List Cell) → Option (List Cell)
with_front front None = None
with_front front (Some cells) = Some (front ++ cells)

-- a cell, if it is there, put before others
abbrev pub item_or : Option Cell → Option (List Cell) → Option (List Cell)
item_or None cells = None
item_or (Some cell) cells = option_map (λ rest. cell ∷ rest) cells

all_some-cons : (item : Option Cell) (rest : List (Option Cell)) → all_some (item ∷ rest) ≡ item_or item (all_some rest)
all_some-cons None rest = refl
all_some-cons (Some cell) rest = refl

-- a text with no comma is one part
one_part_by : (byte : ℕ) (text : List ℕ) (comma : Bool) →
    suc (length text) ≤ cond (not comma) (1 + length_before 44 text) 0 →
    (length text ≤ length_before 44 text → slice_split (λ b. b == 44) text ≡ text ∷ []) →
    cond comma ([] ∷ slice_split (λ b. b == 44) text) (onto_first byte (slice_split (λ b. b == 44) text))
    ≡ (byte ∷ text) ∷ []
one_part_by byte text true none rest = absurd (omega arith)
one_part_by byte text false none rest = let whole : length text ≤ length_before 44 text = omega arith in rw (rest whole)

one_part : (text : List ℕ) → length text ≤ length_before 44 text → slice_split (λ b. b == 44) text ≡ text ∷ []
one_part [] none = refl
one_part (byte ∷ text) none = one_part_by byte text (byte == 44) none (one_part text)

pub items_first : (wide : Bool) (text : List ℕ) → length_before 44 text < length text →
    items_of wide text ≡ item_or (item_of wide (take (length_before 44 text) text))
    (items_of wide (drop (length_before 44 text + 1) text))
unfolding items_of
items_first wide text found =
    rw (slice_split_first (λ b. b == 44) text 0 found) (all_some-cons (item_of wide (take (length_before 44 text) text))
    (map (item_of wide) (slice_split (λ b. b == 44) (drop (length_before 44 text + 1) text))))

pub items_last : (wide : Bool) (text : List ℕ) → length text ≤ length_before 44 text
    → items_of wide text ≡ item_or (item_of wide text) (Some [])
unfolding items_of
items_last wide text none = rw (one_part text none) (all_some-cons (item_of wide text) [])

with_front-cons : (front : List Cell) (cell : Cell) (cells : Option (List Cell))
    → with_front front (option_map (λ rest. cell ∷ rest) cells) ≡ with_front (front ++ cell ∷ []) cells
with_front-cons front cell None = refl
with_front-cons front cell (Some cells) = ap (λ (xs : List Cell). Some xs) (sym (append_assoc front (cell ∷ []) cells))

-- a text is cut at its first comma
split_at_comma : (wide : Bool) (rest : List ℕ) (end : ℕ) → end ≡ length_before 44 rest → end < length rest →
    items_of wide rest ≡ item_or (item_of wide (take end rest)) (items_of wide (drop (end + 1) rest))
split_at_comma wide rest end at within = rw at (items_first wide rest (omega arith))

-- one item more
pub items_step : (wide : Bool) (rest : List ℕ) (end : ℕ) (front : List Cell) (cell : Cell) (goal : Option (List Cell)) →
    end ≡ length_before 44 rest → end < length rest → item_of wide (take end rest) ≡ Some cell →
    goal ≡ with_front front (items_of wide rest) →
    goal ≡ with_front (front ++ cell ∷ []) (items_of wide (drop (end + 1) rest))
items_step wide rest end front cell goal at within item before =
    before
    ∙ ap (with_front front) (split_at_comma wide rest end at within
    ∙ ap (λ (o : Option Cell). item_or o (items_of wide (drop (end + 1) rest))) item)
    ∙ with_front-cons front cell (items_of wide (drop (end + 1) rest))

-- a part that is no item
pub items_stop : (wide : Bool) (rest : List ℕ) (end : ℕ) (front : List Cell) (goal : Option (List Cell)) →
    end ≡ length_before 44 rest → end < length rest → item_of wide (take end rest) ≡ None
    → goal ≡ with_front front (items_of wide rest) → goal ≡ None
items_stop wide rest end front goal at within item before =
    before ∙ ap (with_front front) (split_at_comma wide rest end at within
    ∙ ap (λ (o : Option Cell). item_or o (items_of wide (drop (end + 1) rest))) item)

-- the last item
pub items_end : (wide : Bool) (rest : List ℕ) (front : List Cell) (item : Option Cell) (goal : Option (List Cell)) →
    length rest ≤ length_before 44 rest → item_of wide rest ≡ item → goal ≡ with_front front (items_of wide rest)
    → goal ≡ with_front front (item_or item (Some []))
items_end wide rest front item goal none is before =
    before ∙ ap (with_front front) (items_last wide rest none ∙ ap (λ (o : Option Cell). item_or o (Some [])) is)
