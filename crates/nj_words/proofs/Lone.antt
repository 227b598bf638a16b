-- Steps of the search for a lone hyphen that stands for a value.
use Rattle.std.proofs.Common.{◌≡◌, ◌∙◌, ◌<◌, ◌≤◌, ◌+◌, ◌&&◌, ◌||◌, ℕ, Bool, cond, true, false, sym, ap, List, ◌∷◌, length, drop, get_or, codes, String, string_bytes}
use Rattle.std.specs.Str.{bytes_eq}
use Rattle.std.proofs.lemmas.List.{at_drop_all, at_drop_more}
use Rattle.nj_words.specs.Words.{Word}
use Rattle.nj_words.specs.Parser.{has_lone_value, is_open_option, words_of}

module _ {Z : Type 0} (words : List (String Z)) (i : ℕ) (item : String Z) (word : Word) (waits : Bool) (whole : Bool)
    (lt : i < length words) (at : item ≡ get_or words i item) (is : word ≡ string_bytes item)
    (so_far : whole ≡ has_lone_value waits (words_of (drop i words))) where
  -- the search at this word
  here : whole ≡ cond (bytes_eq word (codes "--")) false
      ((waits && bytes_eq word (codes "-")) || has_lone_value (is_open_option word) (words_of (drop (i + 1) words)))
  unfolding has_lone_value
  here = so_far ∙ at_drop_more (λ ws. has_lone_value waits (words_of ws)) words i item lt
      ∙ ap (λ w. has_lone_value waits (w ∷ words_of (drop (i + 1) words))) (ap string_bytes (sym at) ∙ sym is)

  pub lone_mark : bytes_eq word (codes "--") ≡ true → false ≡ whole
  lone_mark mark =
      sym (here ∙ (λ j. cond (mark j) false ((waits && bytes_eq word (codes "-"))
      || has_lone_value (is_open_option word) (words_of (drop (i + 1) words)))))

  pub lone_found : bytes_eq word (codes "--") ≡ false → waits ≡ true → bytes_eq word (codes "-") ≡ true → true ≡ whole
  lone_found mark waiting hyphen =
      sym (here ∙ (λ j. cond (mark j) false ((waiting j && hyphen j)
      || has_lone_value (is_open_option word) (words_of (drop (i + 1) words)))))

  pub lone_next : (next : Bool) → bytes_eq word (codes "--") ≡ false → (waits && bytes_eq word (codes "-")) ≡ false
      → next ≡ is_open_option word → whole ≡ has_lone_value next (words_of (drop (i + 1) words))
  lone_next next mark none opens =
      here ∙ (λ j. cond (mark j) false (none j || has_lone_value (sym opens j) (words_of (drop (i + 1) words))))

pub lone_ends : {Z : Type 0} (words : List (String Z)) (i : ℕ) (waits whole : Bool) → length words ≤ i
    → whole ≡ has_lone_value waits (words_of (drop i words)) → false ≡ whole
unfolding has_lone_value
lone_ends words i waits whole past so_far =
    sym (so_far ∙ at_drop_all (λ ws. has_lone_value waits (words_of ws)) words i past)
