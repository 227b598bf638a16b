-- What the getters read of the rows of the pieces, and the whole reading of a form.
use Rattle.std.proofs.Common.{◌≡◌, ◌∙◌, ◌≤◌, ◌+◌, ◌&&◌, ◌||◌, ◌==◌, ℕ, Bool, cond, true, false, suc, refl, sym, ap, ap₂, arith, List, [], ◌∷◌, ◌++◌, map, length, Option, Some, None, true≢false, ne_eqb}
use Rattle.std.specs.Prelude.{option_and_then}
use Rattle.std.specs.Option.{option_map}
use Rattle.std.specs.Str.{bytes_eq}
use Rattle.std.specs.List.{list_all}
use Rattle.std.proofs.lemmas.Bool.{and_parts, and_from, false_from_ne_true, not_from_false, not-true, or_from, or_parts, or_right as or_second}
use Rattle.std.proofs.lemmas.Bool.Decides.{Decides-eqb, Decides-like, same_from_decides}
use Rattle.clap.specs.Lexer.{usize_max}
use Rattle.clap.specs.Walk.{Row, first_of}
use Rattle.nj_words.specs.Words.{Form, Piece, Taken, Word, fits, is_among, is_distinct, is_nonempty, labels_in, name, names_in, option, taken, taken_from, value_in}
use Rattle.nj_words.specs.Parser.{given, has_lone_value, parser_fault, parser_rows, taken_rows}
use Rattle.nj_words.proofs.Binds.{then_then}
use Rattle.nj_words.proofs.Outcome.{unless}
use Rattle.nj_words.proofs.Rules.{and_false}
use Rattle.nj_words.proofs.Lookups.{equals_itself, same_word}
use Rattle.nj_words.proofs.Settles.{use_row}
use Rattle.nj_words.proofs.Walks.{AreUtf8, added, loose, parse_is}
use Rattle.nj_words.proofs.Loose.{splits}
use Rattle.nj_words.proofs.Adds.{AreApart, closes, is_enough, is_new, piece_rows, same_tests}

same_count : (m n : ℕ) → (suc m == suc n) ≡ (m == n)
same_count m n =
    same_from_decides _ _ (Decides-eqb (suc m) (suc n))
    (Decides-like _ (λ e. ap suc e) (λ e. omega arith) (Decides-eqb m n))

past_row : (id : Word) (row : Row) (rows : List Row) → bytes_eq row.id id ≡ false
    → first_of id (row ∷ rows) ≡ first_of id rows
past_row id row rows other = rw other refl

-- an option has the value of its first piece, whatever the names are
value_read : (ids : List Word) (label : Word) (ps : List Piece) → is_among label ids ≡ false
    → first_of label (piece_rows ids ps) ≡ value_in ps label
value_read ids label [] apart = refl
value_read [] label (name word ∷ ps) apart = value_read [] label ps apart
value_read (id ∷ ids) label (name word ∷ ps) apart =
    let parts = or_parts (bytes_eq id label) (is_among label ids) apart in
    past_row label (use_row id word) (piece_rows ids ps) parts.0 ∙ value_read ids label ps parts.1
value_read ids label (option other word ∷ ps) apart = go (bytes_eq other label) refl (value_read ids label ps apart)
  where
    go : (b : Bool) → bytes_eq other label ≡ b → first_of label (piece_rows ids ps) ≡ value_in ps label
        → first_of label (piece_rows ids (option other word ∷ ps)) ≡ value_in (option other word ∷ ps) label
    go true e later = rw e refl
    go false e later = rw e later

values_read : (ids labels : List Word) (ps : List Piece)
    → ((label : Word) → is_among label labels ≡ true → is_among label ids ≡ false)
    → map (λ label. first_of label (piece_rows ids ps)) labels ≡ map (value_in ps) labels
values_read ids [] ps apart = refl
values_read ids (label ∷ labels) ps apart =
    let here : is_among label (label ∷ labels) ≡ true = rw (equals_itself label) refl in
    ap₂ (λ v vs. v ∷ vs) (value_read ids label ps (apart label here))
    (values_read ids labels ps (λ other among.
    apart other (or_second (bytes_eq label other) (is_among other labels) among)))

-- a row of another id is passed over
past_rows : (row : Row) (rows : List Row) (ids : List Word)
    → ((word : Word) → is_among word ids ≡ true → bytes_eq row.id word ≡ false)
    → map (λ id. first_of id (row ∷ rows)) ids ≡ map (λ id. first_of id rows) ids
past_rows row rows [] apart = refl
past_rows row rows (id ∷ ids) apart =
    let here : is_among id (id ∷ ids) ≡ true = rw (equals_itself id) refl in
    ap₂ (λ v vs. v ∷ vs) (past_row id row rows (apart id here))
    (past_rows row rows ids (λ other among. apart other (or_second (bytes_eq id other) (is_among other ids) among)))

-- each name is there and none is left over
abbrev are_all : List Word → List Word → Bool
are_all ids words = length words == length ids && list_all is_nonempty words

name_given : (ids : List Word) (word : Word) (words : List Word) (found : Option (List Word))
    → found ≡ cond (are_all ids words) (Some words) None
    → (id : Word) → cond (is_nonempty word) (option_map (λ ws. word ∷ ws) found) None
    ≡ cond (are_all (id ∷ ids) (word ∷ words)) (Some (word ∷ words)) None
name_given ids word words found is id =
    let counts : (suc (length words) == suc (length ids)) ≡ (length words == length ids) =
    same_count (length words) (length ids) in
    rw (is, counts) (go (is_nonempty word) (length words == length ids) (list_all is_nonempty words))
  where
    go : (full same rest : Bool)
        → cond full (option_map (λ ws. word ∷ ws) (cond (same && rest) (Some words) None)) None
        ≡ cond (same && (full && rest)) (Some (word ∷ words)) None
    go true true true = refl
    go true true false = refl
    go true false rest = refl
    go false true rest = refl
    go false false rest = refl

-- the names are what the getters read by the ids
names_read : (ids : List Word) (ps : List Piece) → is_distinct ids ≡ true
    → ((word : Word) → is_among word ids ≡ true → is_among word (labels_in ps) ≡ false)
    → is_enough ids (names_in ps) ≡ true
    → given (map (λ id. first_of id (piece_rows ids ps)) ids)
    ≡ cond (are_all ids (names_in ps)) (Some (names_in ps)) None
unfolding given
names_read [] [] distinct apart enough = refl
names_read (id ∷ ids) [] distinct apart enough =
    let few : (0 == length (id ∷ ids)) ≡ false = ne_eqb 0 (suc (length ids)) (λ e. omega arith) in
    rw few refl
names_read [] (name word ∷ ps) distinct apart enough = absurd (true≢false (sym enough))
names_read (id ∷ ids) (name word ∷ ps) distinct apart enough =
    let parts = and_parts _ _ distinct in
    let here = equals_itself id in
    let fresh = not-true (is_among id ids) parts.0 in
    let past = past_rows (use_row id word) (piece_rows ids ps) ids
    (λ other among. false_from_ne_true _ (λ same.
    true≢false (sym among ∙ ap (λ w. is_among w ids) (sym (same_word id other same)) ∙ fresh))) in
    rw (here, past) (name_given ids word (names_in ps) _
    (names_read ids ps parts.1 (λ other among.
    apart other (or_second (bytes_eq id other) (is_among other ids) among)) enough) id)
names_read ids (option label word ∷ ps) distinct apart enough =
    ap given (past_rows (use_row label word) (piece_rows ids ps) ids
    (λ other among. (or_parts (bytes_eq label other) (is_among other (labels_in ps)) (apart other among)).0))
    ∙ names_read ids ps distinct (λ other among.
    (or_parts (bytes_eq label other) (is_among other (labels_in ps)) (apart other among)).1) enough

-- too few ids for the words: their counts differ
not_enough : (ids words : List Word) → is_enough ids words ≡ false → (length words == length ids) ≡ false
not_enough ids [] e = absurd (true≢false e)
not_enough [] (word ∷ words) e = ne_eqb (suc (length words)) 0 (λ same. omega arith)
not_enough (id ∷ ids) (word ∷ words) e = same_count (length words) (length ids) ∙ not_enough ids words e

-- known options are no ids
options_apart : (ids labels others : List Word) → AreApart ids labels
    → list_all (λ label. is_among label labels) others ≡ true → (word : Word) → is_among word ids ≡ true
    → is_among word others ≡ false
options_apart ids labels [] apart known word among = refl
options_apart ids labels (other ∷ others) apart known word among =
    let parts = and_parts _ _ known in
    or_from (bytes_eq other word) (is_among word others)
    (false_from_ne_true _ (λ same. true≢false (sym parts.0 ∙ ap (λ w. is_among w labels) (same_word other word same)
    ∙ apart word among)))
    (options_apart ids labels others apart parts.1 word among)

among_append : (word : Word) (xs ys : List Word) → is_among word (xs ++ ys) ≡ (is_among word xs || is_among word ys)
among_append word [] ys = refl
among_append word (x ∷ xs) ys = ap (λ b. bytes_eq x word || b) (among_append word xs ys) ∙ go (bytes_eq x word) _ _
  where
    go : (a b c : Bool) → (a || (b || c)) ≡ (a || b || c)
    go true b c = refl
    go false b c = refl

distinct_left : (xs ys : List Word) → is_distinct (xs ++ ys) ≡ true → is_distinct xs ≡ true
distinct_left [] ys e = refl
distinct_left (x ∷ xs) ys e =
    let parts = and_parts _ _ e in
    let alone = (or_parts (is_among x xs) (is_among x ys) (sym (among_append x xs ys) ∙ not-true _ parts.0)).0 in
    and_from _ _ (not_from_false (is_among x xs) alone) (distinct_left xs ys parts.1)

distinct_apart : (xs ys : List Word) → is_distinct (xs ++ ys) ≡ true → AreApart xs ys
distinct_apart [] ys e word among = absurd (true≢false (sym among))
distinct_apart (x ∷ xs) ys e word among =
    let parts = and_parts _ _ e in
    let alone = (or_parts (is_among x xs) (is_among x ys) (sym (among_append x xs ys) ∙ not-true _ parts.0)).1 in
    go (bytes_eq x word) refl alone (distinct_apart xs ys parts.1 word) among
  where
    go : (b : Bool) → bytes_eq x word ≡ b → is_among x ys ≡ false → (is_among word xs ≡ true → is_among word ys ≡ false)
        → is_among word (x ∷ xs) ≡ true → is_among word ys ≡ false
    go true e alone later among = ap (λ w. is_among w ys) (sym (same_word x word e)) ∙ alone
    go false e alone later among = later (rw e at among)

abbrev read_pieces : Form → List Piece → Option Taken
read_pieces form ps = option_and_then (taken_rows form) (added form.options form.names [] ps)

abbrev made : List (Option Word) → List Word → Taken
made values names = record { names = names; values = values }

-- what the getters read of the pieces is what the form takes from them
pub pieces_read : (form : Form) (ps : List Piece) → is_distinct (form.names ++ form.options) ≡ true
    → read_pieces form ps ≡ taken_from form ps
unfolding fits
pieces_read form ps distinct =
    let ids = form.names in
    let labels = form.options in
    let names_distinct = distinct_left ids labels distinct in
    let apart = distinct_apart ids labels distinct in
    let known : list_all (is_new labels []) (labels_in ps) ≡ list_all (λ label. is_among label labels) (labels_in ps) =
    same_tests _ _ (labels_in ps) (λ label. and_true (is_among label labels)) in
    ap (option_and_then (taken_rows form)) (closes labels ids [] ps names_distinct apart (λ word among. refl))
    ∙ ap (λ b. option_and_then (taken_rows form)
    (cond (is_enough ids (names_in ps) && (b && is_distinct (labels_in ps))) (Some (piece_rows ids ps)) None)) known
    ∙ go (is_enough ids (names_in ps)) refl (list_all (λ label. is_among label labels) (labels_in ps)) refl
    (is_distinct (labels_in ps)) names_distinct apart
  where
    and_true : (b : Bool) → (b && true) ≡ b
    and_true true = refl
    and_true false = refl

    ends : (all : Bool) (full : Bool) (mapped : List (Option Word)) → mapped ≡ map (value_in ps) form.options
        → option_map (made mapped) (cond (all && full) (Some (names_in ps)) None)
        ≡ cond (all && (full && true)) (Some (made (map (value_in ps) form.options) (names_in ps))) None
    ends true true mapped e = ap (λ vs. Some (made vs (names_in ps))) e
    ends true false mapped e = refl
    ends false full mapped e = refl

    none_left : (same full known distinct : Bool) → (known && distinct) ≡ false
        → cond (same && (full && (known && distinct))) (Some (made (map (value_in ps) form.options) (names_in ps))) None
        ≡ None
    none_left true true known distinct e =
        ap (λ b. cond b (Some (made (map (value_in ps) form.options) (names_in ps))) None) e
    none_left true false known distinct e = refl
    none_left false full known distinct e = refl

    go : (enough : Bool) → is_enough form.names (names_in ps) ≡ enough → (known : Bool)
        → list_all (λ label. is_among label form.options) (labels_in ps) ≡ known → (distinct : Bool)
        → is_distinct form.names ≡ true → AreApart form.names form.options
        → option_and_then (taken_rows form) (cond (enough && (known && distinct))
        (Some (piece_rows form.names ps)) None)
        ≡ cond (length (names_in ps) == length form.names
        && (list_all is_nonempty (names_in ps) && (known && distinct)))
        (Some (made (map (value_in ps) form.options) (names_in ps))) None
    go enough e false k distinct nd apart =
        rw (and_false enough) (sym (none_left _ _ false distinct refl))
    go enough e true k false nd apart = rw (and_false enough) (sym (none_left _ _ true false refl))
    go false e true k true nd apart = rw (not_enough form.names (names_in ps) e) refl
    go true e true k true nd apart =
        rw (names_read form.names ps nd (options_apart form.names form.options (labels_in ps) apart k) e)
        (ends (length (names_in ps) == length form.names) (list_all is_nonempty (names_in ps)) _
        (values_read form.names form.options ps
        (λ label among. false_from_ne_true _ (λ there. true≢false (sym among ∙ apart label there)))))

-- what the code does is what the form takes: the scan for a lone hyphen, the parser, and what the getters read
pub reads_taken : (form : Form) (words : List Word) → 1 + length form.names ≤ usize_max
    → is_distinct (form.names ++ form.options) ≡ true → AreUtf8 words
    → cond (has_lone_value false words) None (option_and_then (taken_rows form)
    (unless (parser_fault form words) (Some (parser_rows form words)))) ≡ taken form words
unfolding taken
reads_taken form words few distinct utf8 =
    ap (λ o. cond (has_lone_value false words) None (option_and_then (taken_rows form) o))
    (parse_is form words few utf8)
    ∙ ap (cond (has_lone_value false words) None)
    (then_then (loose None words) (added form.options form.names []) (taken_rows form)
    ∙ (λ i. option_and_then (λ ps. pieces_read form ps distinct i) (loose None words)))
    ∙ unless_then (has_lone_value false words) (loose None words)
    ∙ ap (option_and_then (taken_from form)) (splits words None)
  where
    unless_then : (b : Bool) (found : Option (List Piece))
        → cond b None (option_and_then (taken_from form) found) ≡ option_and_then (taken_from form) (cond b None found)
    unless_then true found = refl
    unless_then false found = refl
