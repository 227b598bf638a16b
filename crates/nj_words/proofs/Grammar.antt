-- The pieces of words are what the grammar lets them say.
use Rattle.std.proofs.Common.{◌≡◌, ◌∙◌, ◌<◌, ◌||◌, ◌==◌, ◌+◌, ℕ, Bool, cond, codes, false, true, suc, refl, sym, ap, subst, arith, List, [], ◌∷◌, ◌++◌, map, length, drop, Option, Some, None, inl, inr, ne_eqb, true≢false}
use Rattle.std.specs.List.{after_first, before_first, list_any, position_or_len}
use Rattle.std.proofs.lemmas.Option.{same_Some}
use Rattle.std.proofs.lemmas.Bool.{cases_eq, eqb-true, or_parts}
use Rattle.nj_words.specs.Words.{Piece, Word, WordKind, before_others, begins_with_hyphen, is_equals_sign, kind_of_word, name, names_follow, open_option, option, option_kind, pieces, plain, read_kind, unreadable, whole_option}
use Rattle.nj_words.specs.Grammar.{HasNoEquals, IsName, PiecesAreSaid, Says, apart, joined, mark, named, nothing}

one_more : (n : ℕ) → 1 + n ≡ suc n
one_more n = omega arith

more_one : (n : ℕ) → n + 1 ≡ suc n
more_one n = omega arith

-- the first `=` of a text that is cut there
equals_there : (label value : Word) → list_any is_equals_sign (label ++ 61 ∷ value) ≡ true
equals_there [] value = refl
equals_there (byte ∷ label) value = go (is_equals_sign byte) (equals_there label value)
  where
    go : (b : Bool) → list_any is_equals_sign (label ++ 61 ∷ value) ≡ true
        → (b || list_any is_equals_sign (label ++ 61 ∷ value)) ≡ true
    go true e = refl
    go false e = e

no_equals_head : (byte : ℕ) (label : Word) → HasNoEquals (byte ∷ label)
    → (is_equals_sign byte ≡ false) × HasNoEquals label
no_equals_head byte label none = or_parts (is_equals_sign byte) (list_any is_equals_sign label) none

before_equals : (label value : Word) → HasNoEquals label → before_first is_equals_sign (label ++ 61 ∷ value) ≡ label
before_equals [] value none = refl
before_equals (byte ∷ label) value none =
    let parts = no_equals_head byte label none in
    let other = parts.0 in
    rw (other, one_more) (ap (λ bytes. byte ∷ bytes) (before_equals label value parts.1))

-- what stands behind the first `=` does not change with a byte before it
after_more : (byte : ℕ) (text : Word) → is_equals_sign byte ≡ false
    → after_first is_equals_sign (byte ∷ text) ≡ after_first is_equals_sign text
after_more byte text other =
    let same : 1 + position_or_len is_equals_sign text ≡ position_or_len is_equals_sign text + 1 = omega arith in
    ap (λ n. drop n (byte ∷ text)) (more_one _) ∙ rw other (ap (λ n. drop n text) same)

after_equals : (label value : Word) → HasNoEquals label → after_first is_equals_sign (label ++ 61 ∷ value) ≡ value
after_equals [] value none = refl
after_equals (byte ∷ label) value none =
    let parts = no_equals_head byte label none in
    after_more byte (label ++ 61 ∷ value) parts.0 ∙ after_equals label value parts.1

-- the kind of a word that the grammar writes
joined_kind : (label value : Word) → HasNoEquals label
    → kind_of_word (codes "--" ++ (label ++ (codes "=" ++ value))) ≡ whole_option label value
unfolding kind_of_word
joined_kind label value none =
    longer label value
    ∙ ap (λ b. cond b (whole_option (before_first is_equals_sign (label ++ 61 ∷ value))
    (after_first is_equals_sign (label ++ 61 ∷ value))) (open_option (label ++ 61 ∷ value)))
    (equals_there label value)
    ∙ (λ i. whole_option (before_equals label value none i) (after_equals label value none i))
  where
    longer : (l v : Word) → kind_of_word (45 ∷ 45 ∷ (l ++ 61 ∷ v)) ≡ option_kind (l ++ 61 ∷ v)
    longer [] v = refl
    longer (byte ∷ l) v = refl

apart_kind : (label : Word) → HasNoEquals label → 0 < length label
    → kind_of_word (codes "--" ++ label) ≡ open_option label
unfolding kind_of_word
apart_kind [] none some = absurd (omega arith)
apart_kind (byte ∷ label) none some =
    ap (λ b. cond b (whole_option (before_first is_equals_sign (byte ∷ label))
    (after_first is_equals_sign (byte ∷ label))) (open_option (byte ∷ label))) none

name_kind : (word : Word) → IsName word → kind_of_word word ≡ plain
unfolding kind_of_word
name_kind word (inl lone) = ap kind_of_word lone
name_kind [] (inr other) = refl
name_kind (byte ∷ word) (inr other) = elim (cases_eq 45 byte) [
  | inl same ↦ absurd (true≢false (rw (← same) at other))
  | inr ne ↦
      let left : (45 == byte) ≡ false = ne_eqb 45 byte ne in
      let right : (byte == 45) ≡ false = ne_eqb byte 45 (λ e. ne (sym e)) in
      rw (left, right) refl
]

-- what the grammar lets the words say are their pieces
said : (words : List Word) (found : List Piece) → Says words found → pieces None words ≡ Some found
unfolding pieces kind_of_word
said _ _ nothing = refl
said _ _ (mark words) = refl
said _ _ (named word words rest is more) =
    ap (λ kind. read_kind kind word words (λ waiting. pieces waiting words)) (name_kind word is)
    ∙ ap (before_others (name word)) (said words rest more)
said _ _ (joined label value words rest none more) =
    ap (λ kind. read_kind kind (codes "--" ++ (label ++ (codes "=" ++ value))) words (λ waiting. pieces waiting words))
    (joined_kind label value none)
    ∙ ap (before_others (option label value)) (said words rest more)
said _ _ (apart label value words rest none some free more) =
    ap (λ kind. read_kind kind (codes "--" ++ label) (value ∷ words) (λ waiting. pieces waiting (value ∷ words)))
    (apart_kind label none some)
    ∙ ap (λ b. cond b None (before_others (option label value) (pieces None words))) free
    ∙ ap (before_others (option label value)) (said words rest more)

-- how a word of this kind is written
abbrev SpelledAs : Word → WordKind → Type 0
SpelledAs word names_follow = word ≡ codes "--"
SpelledAs word (whole_option label value) = (word ≡ codes "--" ++ (label ++ (codes "=" ++ value))) × HasNoEquals label
SpelledAs word (open_option label) = (word ≡ codes "--" ++ label) × HasNoEquals label × (0 < length label)
SpelledAs word plain = IsName word
SpelledAs word unreadable = Unit {0}

abbrev IsCut : Word → Type 0
IsCut text =
    (text ≡ before_first is_equals_sign text ++ 61 ∷ after_first is_equals_sign text)
    × HasNoEquals (before_first is_equals_sign text)

-- a text with an `=` is cut at the first one
cut_at_equals : (text : Word) → list_any is_equals_sign text ≡ true → IsCut text
cut_at_equals [] some = absurd (true≢false (sym some))
cut_at_equals (byte ∷ text) some = go (is_equals_sign byte) refl some (cut_at_equals text)
  where
    go : (b : Bool) → is_equals_sign byte ≡ b → list_any is_equals_sign (byte ∷ text) ≡ true
        → (list_any is_equals_sign text ≡ true → IsCut text) → IsCut (byte ∷ text)
    go true same some later =
        let is : byte ≡ 61 = eqb-true byte 61 same in
        (rw same (ap (λ b. b ∷ text) is), rw same refl)
    go false other some later =
        let cut = later (rw other at some) in
        let before : before_first is_equals_sign (byte ∷ text) ≡ byte ∷ before_first is_equals_sign text =
        rw (other, one_more) refl in
        let after : after_first is_equals_sign (byte ∷ text) ≡ after_first is_equals_sign text =
        after_more byte text other in (
          ap (λ bytes. byte ∷ bytes) cut.0 ∙ (λ i. sym before i ++ 61 ∷ sym after i),
          ap (list_any is_equals_sign) before ∙ rw other cut.1,
        )

dashes_spell : (first : ℕ) (rest : Word) → SpelledAs (45 ∷ 45 ∷ first ∷ rest) (option_kind (first ∷ rest))
dashes_spell first rest = go (list_any is_equals_sign (first ∷ rest)) refl
  where
    go : (b : Bool) → list_any is_equals_sign (first ∷ rest) ≡ b
        → SpelledAs (45 ∷ 45 ∷ first ∷ rest) (option_kind (first ∷ rest))
    go true e = let cut = cut_at_equals (first ∷ rest) e in rw e (ap (λ bytes. 45 ∷ 45 ∷ bytes) cut.0, cut.1)
    go false e = rw e (refl, e, omega arith)

hyphen_spells : (rest : Word) → SpelledAs (45 ∷ rest) (kind_of_word (45 ∷ rest))
unfolding kind_of_word
hyphen_spells [] = inl refl
hyphen_spells (first ∷ rest) = elim (cases_eq first 45) [
  | inl e ↦ subst (λ byte. SpelledAs (45 ∷ byte ∷ rest) (kind_of_word (45 ∷ byte ∷ rest))) (sym e) (dashes rest)
  | inr ne ↦
      let left : (first == 45) ≡ false = ne_eqb first 45 ne in
      let right : (45 == first) ≡ false = ne_eqb 45 first (λ e. ne (sym e)) in
      rw (left, right) tt
]
  where
    dashes : (rest : Word) → SpelledAs (45 ∷ 45 ∷ rest) (kind_of_word (45 ∷ 45 ∷ rest))
    dashes [] = refl
    dashes (next ∷ rest) = dashes_spell next rest

-- each word is written as its kind says
spells : (word : Word) → SpelledAs word (kind_of_word word)
unfolding kind_of_word
spells [] = inr refl
spells (first ∷ rest) = elim (cases_eq first 45) [
  | inl e ↦ subst (λ byte. SpelledAs (byte ∷ rest) (kind_of_word (byte ∷ rest))) (sym e) (hyphen_spells rest)
  | inr ne ↦
      let left : (first == 45) ≡ false = ne_eqb first 45 ne in
      let right : (45 == first) ≡ false = ne_eqb 45 first (λ e. ne (sym e)) in
      rw (left, right) (inr (rw right refl))
]

others : (piece : Piece) (found : Option (List Piece)) (ps : List Piece) → before_others piece found ≡ Some ps
    → (rest : List Piece) × (found ≡ Some rest) × (ps ≡ piece ∷ rest)
others piece None ps e = cc
others piece (Some rest) ps e = (rest, refl, sym (same_Some (piece ∷ rest) ps e))

-- what the words mean that follow those read so far: none wait, or an option that stands open does
abbrev Means : Option Word → List Word → Type 0
Means None words = (found : List Piece) → pieces None words ≡ Some found → Says words found
Means (Some label) words =
    (found : List Piece) → HasNoEquals label → 0 < length label → pieces (Some label) words ≡ Some found
    → Says ((codes "--" ++ label) ∷ words) found

idle_means : (word : Word) (words : List Word) → ((waiting : Option Word) → Means waiting words)
    → Means None (word ∷ words)
unfolding pieces
idle_means word words later found e = go (kind_of_word word) (spells word) e
  where
    go : (kind : WordKind) → SpelledAs word kind
        → read_kind kind word words (λ waiting. pieces waiting words) ≡ Some found → Says (word ∷ words) found
    go names_follow is e =
        subst (λ w. Says (w ∷ words) found) (sym is)
        (subst (Says (codes "--" ∷ words)) (same_Some (map name words) found e) (mark words))
    go (whole_option label value) is e =
        let rest = others (option label value) (pieces None words) found e in
        subst (λ w. Says (w ∷ words) found) (sym is.0)
        (subst (Says ((codes "--" ++ (label ++ (codes "=" ++ value))) ∷ words)) (sym rest.2)
        (joined label value words rest.0 is.1 (later None rest.0 rest.1)))
    go (open_option label) is e = subst (λ w. Says (w ∷ words) found) (sym is.0) (later (Some label) found is.1 is.2 e)
    go plain is e =
        let rest = others (name word) (pieces None words) found e in
        subst (Says (word ∷ words)) (sym rest.2) (named word words rest.0 is (later None rest.0 rest.1))
    go unreadable is e = cc

waiting_means : (label word : Word) (words : List Word) → ((waiting : Option Word) → Means waiting words)
    → Means (Some label) (word ∷ words)
unfolding pieces
waiting_means label word words later found none some e = go (begins_with_hyphen word) refl e
  where
    go : (b : Bool) → begins_with_hyphen word ≡ b
        → cond b None (before_others (option label word) (pieces None words)) ≡ Some found
        → Says ((codes "--" ++ label) ∷ word ∷ words) found
    go true hyphen e = cc
    go false free e =
        let rest = others (option label word) (pieces None words) found e in
        subst (Says ((codes "--" ++ label) ∷ word ∷ words)) (sym rest.2)
        (apart label word words rest.0 none some free (later None rest.0 rest.1))

means : (words : List Word) (waiting : Option Word) → Means waiting words
unfolding pieces
means [] None = λ found e. subst (Says []) (same_Some [] found e) nothing
means [] (Some label) = λ found none some e. cc
means (word ∷ words) None = idle_means word words (means words)
means (word ∷ words) (Some label) = waiting_means label word words (means words)

-- the pieces of words are what the grammar lets them say
pub pieces_are_said : PiecesAreSaid
pieces_are_said words found = (means words None found, said words found)
