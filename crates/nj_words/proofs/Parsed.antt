-- What the parser's own clauses say of a form's command.
use Rattle.std.proofs.Common.{◌≡◌, ◌∙◌, ◌<◌, ◌≤◌, ◌+◌, ◌^◌, ℕ, cond, true, false, refl, sym, ap, subst, arith, List, [], ◌∷◌, ◌++◌, map, length, drop, Option, Some, None, ⊎_elim, append-nil, append_assoc, slice_index_or}
use Rattle.std.specs.Option.{option_map}
use Rattle.std.specs.Borrow.{Bor}
use Rattle.std.proofs.lemmas.Bool.{and_parts}
use Rattle.std.proofs.lemmas.List.{at_drop_all, at_drop_more, length-map, map-append}
use Rattle.clap.specs.Lexer.{usize_max}
use Rattle.clap.specs.Walk.{texts}
use Rattle.clap.specs.Simple.{App, HasMatchesOf, is_simple}
use Rattle.clap.specs.Values.{kind_of}
use Rattle.clap.specs.Kinds.{HasKind}
use Rattle.clap.specs.Faults.{fault_of, is_simple_and_free}
use Rattle.clap.specs.declared.error.Error.{Error}
use Rattle.clap.specs.declared.error.kind.ErrorKind.TheVariants.{OutOfMemory}
use Rattle.clap.specs.declared.parser.matches.ArgMatches.{ArgMatches}
use Rattle.nj_words.specs.Words.{Form, Word, is_nonempty}
use Rattle.nj_words.specs.Parser.{IsParse, given, parser_app, parser_fault, parser_rows}
use Rattle.nj_words.proofs.Rules.{simple_and_free}

-- a form of few names is one of which the parser says all
pub is_few : (names : List (Bor Word)) → length names < 2 ^ 32 → 1 + length (texts names) ≤ usize_max
is_few names few = omega (arith, length-map names (λ (s : Bor Word). s.now))

free_app : (form : Form) (app : App) → app ≡ parser_app form → 1 + length form.names ≤ usize_max
    → is_simple_and_free app ≡ true
free_app form app is few = ap is_simple_and_free is ∙ simple_and_free form few

pub parsed_ok : (form : Form) (app : App) (words : List Word) (found : ArgMatches) → app ≡ parser_app form
    → 1 + length form.names ≤ usize_max
    → (is_simple_and_free app ≡ true → fault_of app words ≡ []) → HasMatchesOf app words found
    → IsParse form words found
unfolding parser_fault parser_rows
parsed_ok form app words found is few passes matches =
    let free = free_app form app is few in
    let simple = (and_parts (is_simple app) _ free).0 in (
      ap (λ a. fault_of a words) (sym is) ∙ passes free,
      (matches simple).0 ∙ ap (λ a. Rattle.clap.specs.Simple.matches_of a words) is,
    )

pub parsed_err : (form : Form) (app : App) (words : List Word) (error : Error) → app ≡ parser_app form
    → 1 + length form.names ≤ usize_max
    → (is_simple_and_free app ≡ true → HasKind (fault_of app words) error) → (kind_of error ≡ OutOfMemory → ⊥)
    → parser_fault form words ≡ [] → ⊥
unfolding parser_fault
parsed_err form app words error is few fails other none =
    let kinds : fault_of app words ≡ [] = ap (λ a. fault_of a words) is ∙ none in
    ⊎_elim other (λ none. none) (subst (λ k. HasKind k error) kinds (fails (free_app form app is few)))

pub given_none : (found : Option Word) (rest : List (Option Word)) → found ≡ None → given (found ∷ rest) ≡ None
unfolding given
given_none found rest e = ap (λ o. given (o ∷ rest)) e

pub given_empty : (found : Option Word) (word : Word) (rest : List (Option Word)) → found ≡ Some word
    → is_nonempty word ≡ false → given (found ∷ rest) ≡ None
unfolding given
given_empty found word rest e empty =
    ap (λ o. given (o ∷ rest)) e ∙ ap (λ b. cond b (option_map (λ ws. word ∷ ws) (given rest)) None) empty

pub given_word : (found : Option Word) (word : Word) (rest : List (Option Word)) → found ≡ Some word
    → is_nonempty word ≡ true → given (found ∷ rest) ≡ option_map (λ ws. word ∷ ws) (given rest)
unfolding given
given_word found word rest e full =
    ap (λ o. given (o ∷ rest)) e ∙ ap (λ b. cond b (option_map (λ ws. word ∷ ws) (given rest)) None) full

-- the words so far, and then those that are still to come
abbrev pub given_after : List Word → Option (List Word) → Option (List Word)
given_after words = option_map (λ more. words ++ more)

pub given_step : (read : Word → Option Word) (names : List (Bor Word)) (i : ℕ) (d : Bor Word)
    (words after : List (Bor Word)) (word : Bor Word) (whole : Option (List Word)) → i < length names
    → after ≡ words ++ word ∷ [] → read (slice_index_or names i d).now ≡ Some word.now → is_nonempty word.now ≡ true
    → whole ≡ given_after (texts words) (given (map read (texts (drop i names))))
    → whole ≡ given_after (texts after) (given (map read (texts (drop (i + 1) names))))
given_step read names i d words after word whole lt pushed is full so_far =
    so_far ∙ ap (given_after (texts words)) (at_drop_more (λ ns. given (map read (texts ns))) names i d lt
    ∙ given_word _ word.now _ is full)
    ∙ joins (given (map read (texts (drop (i + 1) names))))
    ∙ ap (λ ws. given_after ws (given (map read (texts (drop (i + 1) names)))))
    (sym (ap texts pushed ∙ map-append (λ s. s.now) words (word ∷ [])))
  where
    joins : (found : Option (List Word))
        → given_after (texts words) (option_map (λ ws. word.now ∷ ws) found)
        ≡ given_after (texts words ++ word.now ∷ []) found
    joins None = refl
    joins (Some ws) = ap Some (sym (append_assoc (texts words) (word.now ∷ []) ws))

pub given_fails : (read : Word → Option Word) (names : List (Bor Word)) (i : ℕ) (d : Bor Word) (words : List (Bor Word))
    (whole : Option (List Word)) → i < length names
    → ((rest : List (Option Word)) → given (read (slice_index_or names i d).now ∷ rest) ≡ None)
    → whole ≡ given_after (texts words) (given (map read (texts (drop i names)))) → whole ≡ None
given_fails read names i d words whole lt fails so_far =
    so_far ∙ ap (given_after (texts words)) (at_drop_more (λ ns. given (map read (texts ns))) names i d lt ∙ fails _)

pub given_ends : (read : Word → Option Word) (names : List (Bor Word)) (i : ℕ) (words : List (Bor Word))
    (whole : Option (List Word)) → length names ≤ i
    → whole ≡ given_after (texts words) (given (map read (texts (drop i names)))) → whole ≡ Some (texts words)
unfolding given
given_ends read names i words whole past so_far =
    so_far ∙ ap (given_after (texts words)) (at_drop_all (λ ns. given (map read (texts ns))) names i past)
    ∙ ap Some (append-nil (texts words))
