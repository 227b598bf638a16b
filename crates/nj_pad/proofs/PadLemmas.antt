-- Lemmas on a pad's text.
use Rattle.std.proofs.Common.{ℕ, zero, suc, ◌≡◌, ◌≢◌, ◌+◌, ◌^◌, ◌<◌, ◌==◌, List, [], ◌∷◌, length, refl, arith, Bool, true, false, ◌&&◌, cond, ltb, Option, Some, None, ap}
use Rattle.std.specs.Str.{bytes_eq}
use Rattle.std.specs.Cmp.Lexicographic.{bytes_decides}
use Rattle.std.proofs.lemmas.Bool.{agree_below_at, eqb-true, ltb-true, and_parts}
use Rattle.nj_pad.specs.declared.Button.{Button}
use Rattle.nj_pad.specs.Pad.{places_value, place_value, sum_if_both, turn_of, text_places, pad_text, pad_of_text}

-- the sum with none is none
sum_if_both-none : (x : Option ℕ) → sum_if_both x None ≡ None
sum_if_both-none (Some x) = refl
sum_if_both-none None = refl

-- a text of another length has no value
pub places_value-other_length :
    (places : List (Button × ℕ)) (text : List ℕ) → length text ≢ length places → places_value places text ≡ None
places_value-other_length [] [] differs = absurd (differs refl)
places_value-other_length [] (byte ∷ text) differs = refl
places_value-other_length (place ∷ places) [] differs = refl
places_value-other_length (place ∷ places) (byte ∷ text) differs =
    rw (places_value-other_length places text (λ same. differs (omega arith)))
    (sum_if_both-none (place_value place byte))

-- whether the text of a byte shows that byte
abbrev is_read_back : ℕ → Bool
is_read_back pad = elim (pad_of_text (pad_text pad)) [ Some value ↦ value == pad | None ↦ false ]

-- what a true test says of the value that was read
value_read : (read : Option ℕ) (pad : ℕ) → elim read [ Some value ↦ value == pad | None ↦ false ] ≡ true
    → read ≡ Some pad
value_read (Some value) pad same = ap Some (eqb-true value pad same)
value_read None pad same = cc

-- the text of a pad shows that pad: each of the 256 bytes is tried
pub pad_of_text-pad_text : (pad : ℕ) → pad < 256 → pad_of_text (pad_text pad) ≡ Some pad
unfolding pad_text pad_of_text
pad_of_text-pad_text pad below =
    value_read (pad_of_text (pad_text pad)) pad (agree_below_at is_read_back (λ _. true) 256 pad refl below)

-- the letters of a text whose places are pressed or not
abbrev letters_of : List Bool → List (Button × ℕ) → List ℕ
letters_of [] places = []
letters_of (pressed ∷ rest) [] = []
letters_of (pressed ∷ rest) (place ∷ places) = cond pressed place.1 46 ∷ letters_of rest places

-- the sum of the bits of the pressed places
abbrev bits_of : List Bool → List (Button × ℕ) → ℕ
bits_of [] places = 0
bits_of (pressed ∷ rest) [] = 0
bits_of (pressed ∷ rest) (place ∷ places) = cond pressed (2 ^ turn_of place.0) 0 + bits_of rest places

-- a text that has a value is made of letters and dots, and its value is the sum of the letters' bits
record Shows (places : List (Button × ℕ)) (text : List ℕ) (value : ℕ) : Type 0 where
  pressed : List Bool
  each_place : length pressed ≡ length places
  letters : text ≡ letters_of pressed places
  bits : value ≡ bits_of pressed places

-- one more place at a text's front
one_more : (place : Button × ℕ) (places : List (Button × ℕ)) (byte : ℕ) (text : List ℕ) (first rest value : ℕ)
    (pressed : Bool) →
    byte ≡ cond pressed place.1 46 → first ≡ cond pressed (2 ^ turn_of place.0) 0 → first + rest ≡ value →
    Shows places text rest → Shows (place ∷ places) (byte ∷ text) value
one_more place places byte text first rest value pressed letter bit sum shown = record {
  pressed = pressed ∷ shown.pressed;
  each_place = rw shown.each_place;
  letters = rw (letter, ← shown.letters);
  bits = rw (← sum, ← shown.bits, bit);
}

-- a place's value by the two tests of its byte
place_value-shows :
    (letter bit byte value : ℕ) (is_letter is_dot : Bool) → (byte == letter) ≡ is_letter → (byte == 46) ≡ is_dot →
    cond is_letter (Some bit) (cond is_dot (Some 0) None) ≡ Some value →
    (pressed : Bool) × (byte ≡ cond pressed letter 46) × (value ≡ cond pressed bit 0)
place_value-shows letter bit byte value true is_dot same other read = (true, eqb-true byte letter same, cc)
place_value-shows letter bit byte value false true other same read = (false, eqb-true byte 46 same, cc)
place_value-shows letter bit byte value false false other same read = absurd cc

-- the parts of a sum that is there
record Sums (first rest : Option ℕ) (value : ℕ) : Type 0 where
  left : ℕ
  right : ℕ
  first_is : first ≡ Some left
  rest_is : rest ≡ Some right
  sum : left + right ≡ value

sum_if_both-parts : (first rest : Option ℕ) (value : ℕ) → sum_if_both first rest ≡ Some value → Sums first rest value
sum_if_both-parts (Some x) (Some y) value sum =
    record { left = x; right = y; first_is = refl; rest_is = refl; sum = cc }
sum_if_both-parts (Some x) None value sum = absurd cc
sum_if_both-parts None rest value sum = absurd cc

-- a text that has a value is made of letters and dots
shows_from_value : (places : List (Button × ℕ)) (text : List ℕ) (value : ℕ) →
    places_value places text ≡ Some value → Shows places text value
shows_from_value [] [] value read = record { pressed = []; each_place = refl; letters = refl; bits = cc }
shows_from_value [] (byte ∷ text) value read = absurd cc
shows_from_value (place ∷ places) [] value read = absurd cc
shows_from_value (place ∷ places) (byte ∷ text) value read =
    let parts = sum_if_both-parts (place_value place byte) (places_value places text) value read in
    let shown = place_value-shows place.1 (2 ^ turn_of place.0) byte parts.left (byte == place.1)
    (byte == 46) refl refl parts.first_is in
    one_more place places byte text parts.left parts.right value shown.0 shown.1 shown.2 parts.sum
    (shows_from_value places text parts.right parts.rest_is)

-- whether a test holds of each list of n truth values
abbrev every : ℕ → (List Bool → Bool) → Bool
every zero test = test []
every (suc n) test = every n (λ rest. test (true ∷ rest)) && every n (λ rest. test (false ∷ rest))

-- what a test that holds of each says of one
every-at : (n : ℕ) (test : List Bool → Bool) (values : List Bool) → length values ≡ n → every n test ≡ true
    → test values ≡ true
every-at zero test [] long all = all
every-at zero test (value ∷ rest) long all = absurd (omega arith)
every-at (suc n) test [] long all = absurd (omega arith)
every-at (suc n) test (true ∷ rest) long all =
    every-at n (λ rest. test (true ∷ rest)) rest (omega arith) (and_parts _ _ all).0
every-at (suc n) test (false ∷ rest) long all =
    every-at n (λ rest. test (false ∷ rest)) rest (omega arith) (and_parts _ _ all).1

-- whether these pressed places make a byte's text
abbrev is_pad_text : List Bool → Bool
is_pad_text pressed =
    bytes_eq (letters_of pressed text_places) (pad_text (bits_of pressed text_places))
    && ltb (bits_of pressed text_places) 256

-- each of the 256 lists of pressed places makes a byte's text
every_is_pad_text : every 8 is_pad_text ≡ true
unfolding pad_text
every_is_pad_text = refl

-- a text made of letters and dots is the text of its value, which is a byte
text_from_shows : (text : List ℕ) (pad : ℕ) → Shows text_places text pad → (text ≡ pad_text pad) × (pad < 256)
text_from_shows text pad shown =
    let holds = and_parts _ _ (every-at 8 is_pad_text shown.pressed shown.each_place every_is_pad_text) in (
      rw (shown.letters, shown.bits) ((bytes_decides _ _).0 holds.0),
      rw shown.bits (ltb-true _ _ holds.1),
    )

-- a text that shows a pad is the text of that pad, which is a byte
pub text-pad_of_text : (text : List ℕ) (pad : ℕ) → pad_of_text text ≡ Some pad → (text ≡ pad_text pad) × (pad < 256)
unfolding pad_of_text
text-pad_of_text text pad read = text_from_shows text pad (shows_from_value text_places text pad read)
