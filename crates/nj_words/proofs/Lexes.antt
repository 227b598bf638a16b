-- What a word looks like to the parser, by its kind.
use Rattle.std.proofs.Common.{◌≡◌, ◌∙◌, ◌+◌, ◌==◌, ℕ, Bool, true, false, suc, refl, sym, ap, subst, arith, List, [], ◌∷◌, ◌++◌, Some, None, codes, true≢false, ne_eqb, inl, inr}
use Rattle.std.specs.Prelude.{slice_get}
use Rattle.std.specs.Str.{IsUtf8, bytes_eq, chars}
use Rattle.std.specs.List.{before_first, list_any}
use Rattle.std.proofs.lemmas.Bool.{cases_eq}
use Rattle.std.proofs.lemmas.Str.{chars_past_char, cons_from_encodes, encodes-chars}
use lib.Utf8.{encode, encodes}
use Rattle.clap.specs.Lexer.{long_of, short_of}
use Rattle.nj_words.specs.Words.{Word, WordKind, is_equals_sign, kind_of_word, names_follow, option_kind, open_option, plain, unreadable, whole_option}

-- the parser's reading of a word of this kind
abbrev pub LexesAs : Word → WordKind → Type 0
LexesAs word names_follow = bytes_eq word (codes "--") ≡ true
LexesAs word (whole_option label value) =
    (bytes_eq word (codes "--") ≡ false) × (long_of word ≡ Some (label, Some value))
LexesAs word (open_option label) = (bytes_eq word (codes "--") ≡ false) × (long_of word ≡ Some (label, None))
LexesAs word plain = (bytes_eq word (codes "--") ≡ false) × (long_of word ≡ None) × (short_of word ≡ None)
LexesAs word unreadable =
    (bytes_eq word (codes "--") ≡ false) × (long_of word ≡ None)
    × ((first : ℕ) × (rest : Word) × (word ≡ 45 ∷ first ∷ rest) × (short_of word ≡ Some (first ∷ rest)))

one_more : (n : ℕ) → 1 + n ≡ suc n
one_more n = omega arith

-- what stands before the first `=` is all, where there is none
all_before : (text : Word) → list_any is_equals_sign text ≡ false → before_first is_equals_sign text ≡ text
all_before [] e = refl
all_before (byte ∷ rest) e = go (is_equals_sign byte) refl e (all_before rest)
  where
    go : (b : Bool) → is_equals_sign byte ≡ b → list_any is_equals_sign (byte ∷ rest) ≡ false
        → (list_any is_equals_sign rest ≡ false → before_first is_equals_sign rest ≡ rest)
        → before_first is_equals_sign (byte ∷ rest) ≡ byte ∷ rest
    go true same none later = absurd (true≢false (rw same at none))
    go false other none later = rw (other, one_more) (ap (λ bytes. byte ∷ bytes) (later (rw other at none)))

past_dashes : (first : ℕ) (rest : Word) → LexesAs (45 ∷ 45 ∷ first ∷ rest) (option_kind (first ∷ rest))
past_dashes first rest = go (list_any is_equals_sign (first ∷ rest)) refl
  where
    go : (b : Bool) → list_any is_equals_sign (first ∷ rest) ≡ b
        → LexesAs (45 ∷ 45 ∷ first ∷ rest) (option_kind (first ∷ rest))
    go true e = rw e (refl, rw e refl)
    go false e = rw e (refl, rw e (ap (λ label. Some (label, None)) (all_before (first ∷ rest) e)))

dashes : (rest : Word) → LexesAs (45 ∷ 45 ∷ rest) (kind_of_word (45 ∷ 45 ∷ rest))
unfolding kind_of_word
dashes [] = refl
dashes (first ∷ rest) = past_dashes first rest

short : (first : ℕ) (rest : Word) → (first ≡ 45 → ⊥) → LexesAs (45 ∷ first ∷ rest) (kind_of_word (45 ∷ first ∷ rest))
unfolding kind_of_word
short first rest ne =
    let left : (first == 45) ≡ false = ne_eqb first 45 ne in
    let right : (45 == first) ≡ false = ne_eqb 45 first (λ e. ne (sym e)) in
    rw (left, right) (rw left refl, rw left refl, (first, rest, refl, rw left refl))

hyphen : (rest : Word) → LexesAs (45 ∷ rest) (kind_of_word (45 ∷ rest))
unfolding kind_of_word
hyphen [] = (refl, refl, refl)
hyphen (first ∷ rest) = elim (cases_eq first 45) [
  | inl e ↦ subst (λ byte. LexesAs (45 ∷ byte ∷ rest) (kind_of_word (45 ∷ byte ∷ rest))) (sym e) (dashes rest)
  | inr ne ↦ short first rest ne
]

no_hyphen : (first : ℕ) (rest : Word) → (first ≡ 45 → ⊥) → LexesAs (first ∷ rest) (kind_of_word (first ∷ rest))
unfolding kind_of_word
no_hyphen first rest ne =
    let left : (first == 45) ≡ false = ne_eqb first 45 ne in
    let right : (45 == first) ≡ false = ne_eqb 45 first (λ e. ne (sym e)) in
    rw (left, right) (rw left refl, rw left refl, rw left refl)

-- the parser reads each word as its kind says
pub lexes : (word : Word) → LexesAs word (kind_of_word word)
unfolding kind_of_word
lexes [] = (refl, refl, refl)
lexes (first ∷ rest) = elim (cases_eq first 45) [
  | inl e ↦ subst (λ byte. LexesAs (byte ∷ rest) (kind_of_word (byte ∷ rest))) (sym e) (hyphen rest)
  | inr ne ↦ no_hyphen first rest ne
]

hyphen_code : encode 45 ≡ 45 ∷ []
unfolding encode
hyphen_code = refl

-- what follows the hyphen of a word that is no option begins with a character
pub first_letter : (first : ℕ) (rest : Word) → IsUtf8 (45 ∷ first ∷ rest)
    → (letter : ℕ) × (slice_get (chars (first ∷ rest)) 0 ≡ Some letter)
first_letter first rest utf8 =
    let spelled : 45 ∷ first ∷ rest ≡ encode 45 ++ (first ∷ rest) = rw hyphen_code refl in
    let parts : chars (45 ∷ first ∷ rest) ≡ 45 ∷ chars (first ∷ rest) =
    chars_past_char (45 ∷ first ∷ rest) (first ∷ rest) 45 utf8 spelled in
    let whole : encodes (45 ∷ chars (first ∷ rest)) ≡ 45 ∷ first ∷ rest =
    ap encodes (sym parts) ∙ encodes-chars (45 ∷ first ∷ rest) utf8 in
    let cut = cons_from_encodes (45 ∷ chars (first ∷ rest)) (first ∷ rest) 45 (whole ∙ spelled) in
    go (chars (first ∷ rest)) cut.0 cut.1 cut.2
  where
    go : (letters others : List ℕ) → 45 ∷ letters ≡ 45 ∷ others → encodes others ≡ first ∷ rest
        → (letter : ℕ) × (slice_get letters 0 ≡ Some letter)
    go [] [] same e = cc
    go [] (other ∷ others) same e = cc
    go (letter ∷ letters) others same e = (letter, refl)
