-- What the values of options are read as.
use Rattle.std.proofs.Common.{◌≡◌, ◌∙◌, ◌<◌, ℕ, List, Option, Some, None, ap, cond, false, true, get_or, length, map, sym}
use Rattle.std.specs.Prelude.{option_and_then, option_map, slice_get, unwrap_or}
use Rattle.std.specs.Borrow.{Bor}
use Rattle.std.proofs.lemmas.Option.{slice_get-get_or, slice_get-map}
use Rattle.nj_bytes.specs.Decimal.{decimal_of}
use Rattle.nj_words.specs.Words.{Word, is_nonempty}
use Rattle.nj_words.specs.Options.{in_range, name_or_none, number_in, number_or}

-- the value at a place of the list
pub value_here : (values : List (Option (Bor Word))) (place : ℕ) (value : Option (Bor Word)) → place < length values
    → value ≡ get_or values place value
    → option_map (λ v. v.now) value ≡ unwrap_or
    (slice_get (map (option_map (λ (v : Bor Word). v.now)) values) place) None
value_here values place value lt at =
    sym (ap (λ o. unwrap_or o None) (slice_get-map (option_map (λ (v : Bor Word). v.now)) values place
    ∙ ap (option_map (option_map (λ (v : Bor Word). v.now)))
    (slice_get-get_or values place value lt ∙ ap Some (sym at))))

pub number_found : (low high number : ℕ) (word : Word) (found : Option ℕ) (result : Option ℕ) → found ≡ decimal_of word
    → found ≡ Some number → result ≡ in_range low high number → result ≡ number_in low high word
unfolding number_in
number_found low high number word found result is some inside =
    inside ∙ ap (option_and_then (in_range low high)) (sym some ∙ is)

pub number_missing : (low high : ℕ) (word : Word) (found : Option ℕ) → found ≡ decimal_of word → found ≡ None
    → None ≡ number_in low high word
unfolding number_in
number_missing low high word found is none = ap (option_and_then (in_range low high)) (sym none ∙ is)

pub number_given : (low high otherwise : ℕ) (word : Bor Word) (value : Option (Bor Word)) (read : Option Word)
    (result : Option ℕ) → option_map (λ v. v.now) value ≡ read → value ≡ Some word
    → result ≡ number_in low high word.now → result ≡ number_or low high otherwise read
unfolding number_or
number_given low high otherwise word value read result is some number =
    number ∙ ap (number_or low high otherwise) (sym (ap (option_map (λ (v : Bor Word). v.now)) some) ∙ is)

pub number_default : (low high otherwise : ℕ) (value : Option (Bor Word)) (read : Option Word)
    → option_map (λ v. v.now) value ≡ read → value ≡ None → Some otherwise ≡ number_or low high otherwise read
unfolding number_or
number_default low high otherwise value read is none =
    ap (number_or low high otherwise) (sym (ap (option_map (λ (v : Bor Word). v.now)) none) ∙ is)

pub no_name : (value : Option (Bor Word)) (read : Option Word) → option_map (λ v. v.now) value ≡ read → value ≡ None
    → name_or_none read ≡ Some None
unfolding name_or_none
no_name value read is none = ap name_or_none (sym is ∙ ap (option_map (λ (v : Bor Word). v.now)) none)

pub empty_name : (word : Bor Word) (value : Option (Bor Word)) (read : Option Word)
    → option_map (λ v. v.now) value ≡ read → value ≡ Some word → is_nonempty word.now ≡ false → name_or_none read ≡ None
unfolding name_or_none
empty_name word value read is some empty =
    ap name_or_none (sym is ∙ ap (option_map (λ (v : Bor Word). v.now)) some)
    ∙ ap (λ b. cond b (Some (Some word.now)) None) empty

pub full_name : (word : Bor Word) (value : Option (Bor Word)) (read : Option Word) (text : Word)
    → option_map (λ v. v.now) value ≡ read → value ≡ Some word → is_nonempty word.now ≡ true → text ≡ word.now
    → name_or_none read ≡ Some (Some text)
unfolding name_or_none
full_name word value read text is some full same =
    ap name_or_none (sym is ∙ ap (option_map (λ (v : Bor Word). v.now)) some)
    ∙ ap (λ b. cond b (Some (Some word.now)) None) full ∙ ap (λ t. Some (Some t)) (sym same)
