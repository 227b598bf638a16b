-- From the steps of the code to what the form takes.
use Rattle.std.proofs.Common.{◌≡◌, ◌∙◌, ◌<◌, ◌^◌, cond, true, false, refl, sym, ap, List, [], ◌∷◌, ◌++◌, map, length, Option, Some, None, String}
use Rattle.std.specs.Option.{option_map}
use Rattle.std.specs.Prelude.{option_and_then}
use Rattle.std.specs.Borrow.{Bor}
use Rattle.std.proofs.lemmas.Str.{IsUtf8-string_bytes}
use Rattle.clap.specs.Walk.{first_of, rows_of, texts}
use Rattle.clap.specs.Matches.{found_of}
use Rattle.clap.specs.Kinds.{Kinds}
use Rattle.clap.specs.declared.parser.matches.ArgMatches.{ArgMatches}
use Rattle.nj_words.specs.Words.{Word, is_distinct, taken}
use Rattle.nj_words.specs.Parser.{IsParse, form_of, given, has_lone_value, parser_fault, parser_rows, taken_rows, word_read, words_of}
use Rattle.nj_words.proofs.Outcome.{unless}
use Rattle.nj_words.proofs.Parsed.{is_few}
use Rattle.nj_words.proofs.Readings.{reads_taken}
use Rattle.nj_words.proofs.Walks.{AreUtf8}

are_utf8 : {Z : Type 0} (words : List (String Z)) → AreUtf8 (words_of words)
are_utf8 [] = tt
are_utf8 (word ∷ words) = (IsUtf8-string_bytes word, are_utf8 words)

module _ {Z : Type 0} (names options : List (Bor Word)) (words : List (String Z)) (few : length names < 2 ^ 32)
    (distinct : is_distinct (texts names ++ texts options) ≡ true) where
  whole : cond (has_lone_value false (words_of words)) None
      (option_and_then (taken_rows (form_of names options))
      (unless (parser_fault (form_of names options) (words_of words))
      (Some (parser_rows (form_of names options) (words_of words)))))
      ≡ taken (form_of names options) (words_of words)
  whole = reads_taken (form_of names options) (words_of words) (is_few names few) distinct (are_utf8 words)

  -- a lone hyphen stands for a value
  pub take_lone : has_lone_value false (words_of words) ≡ true → taken (form_of names options) (words_of words) ≡ None
  take_lone lone =
      sym whole ∙ ap (λ b. cond b None (option_and_then (taken_rows (form_of names options))
      (unless (parser_fault (form_of names options) (words_of words))
      (Some (parser_rows (form_of names options) (words_of words)))))) lone

  -- the parser refuses the words
  pub take_refused : has_lone_value false (words_of words) ≡ false
      → (parser_fault (form_of names options) (words_of words) ≡ [] → ⊥)
      → taken (form_of names options) (words_of words) ≡ None
  take_refused lone fault =
      sym whole ∙ (λ i. cond (lone i) None (option_and_then (taken_rows (form_of names options))
      (unless (parser_fault (form_of names options) (words_of words))
      (Some (parser_rows (form_of names options) (words_of words))))))
      ∙ go (parser_fault (form_of names options) (words_of words)) fault
    where
      go : (kinds : Kinds) → (kinds ≡ [] → ⊥)
          → option_and_then (taken_rows (form_of names options))
          (unless kinds (Some (parser_rows (form_of names options) (words_of words)))) ≡ None
      go [] none = absurd (none refl)
      go (kind ∷ kinds) some = refl

  found_rows : (found : ArgMatches) → has_lone_value false (words_of words) ≡ false
      → IsParse (form_of names options) (words_of words) found
      → taken (form_of names options) (words_of words) ≡ taken_rows (form_of names options) (rows_of (found_of found))
  found_rows found lone parses =
      sym whole
      ∙ (λ i. cond (lone i) None (option_and_then (taken_rows (form_of names options))
      (unless (parses.0 i) (Some (sym parses.1 i)))))

  -- a name is missing or empty
  pub take_missing : (found : ArgMatches) → has_lone_value false (words_of words) ≡ false
      → IsParse (form_of names options) (words_of words) found
      → given (map (word_read found) (texts names)) ≡ None → taken (form_of names options) (words_of words) ≡ None
  unfolding word_read
  take_missing found lone parses missing =
      found_rows found lone parses
      ∙ ap (option_map (λ (ns : List Word). record
      { names = ns; values = map (λ label. first_of label (rows_of (found_of found))) (texts options) })) missing

  pub take_all : (found : ArgMatches) (given_names : List Word) (values : List (Option Word))
      → has_lone_value false (words_of words) ≡ false
      → IsParse (form_of names options) (words_of words) found
      → given (map (word_read found) (texts names)) ≡ Some given_names
      → values ≡ map (word_read found) (texts options)
      → taken (form_of names options) (words_of words) ≡ Some (record { names = given_names; values = values })
  unfolding word_read
  take_all found given_names values lone parses all same =
      found_rows found lone parses
      ∙ (λ i. option_map (λ (ns : List Word). record { names = ns; values = sym same i }) (all i))
