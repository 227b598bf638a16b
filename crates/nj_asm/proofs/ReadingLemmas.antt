-- Lemmas on the reading of a line that has neither label nor comment.
use Rattle.std.proofs.Common.{ℕ, suc, ◌≡◌, ◌<◌, ◌-◌, ◌==◌, true, false, ◌&&◌, List, [], ◌∷◌, ◌++◌, length, take, refl, ap, ◌∙◌, arith, None, length-append, eq-eqb}
use Rattle.std.specs.Prelude.{nat_eq}
use Rattle.std.specs.List.{list_all, position_or_len, suffix_len, ends_with}
use Rattle.std.specs.Str.{IsAscii}
use Rattle.std.specs.Str.Lossy.{utf8_valid_len}
use Rattle.std.proofs.lemmas.Bool.{and_parts}
use Rattle.std.proofs.lemmas.Bool.Decides.{nat_tests}
use Rattle.std.proofs.lemmas.List.{take_all, take_at}
use Rattle.std.proofs.lemmas.List.Folds.{list_all-append}
use Rattle.std.proofs.lemmas.Str.{IsUtf8-from_ascii, utf8_valid_len-IsUtf8}
use Rattle.std.proofs.lemmas.Str.Ascii.{IsAscii-nil, IsAscii-cons}
use Rattle.nj_lines.specs.Lines.{IsPlain}
use Rattle.nj_asm_lines.specs.declared.syntax.Statement.{Statement}
use Rattle.nj_asm_lines.specs.Words.{is_blank, without_start, without_end, length_before}
use Rattle.nj_asm_lines.specs.Grammar.{content, code_of, has_label, label_of, statement_text, said_on, line_of, statement_of}
use Rattle.nj_asm.proofs.DigitLemmas.{is_plain}

head_plain : (byte : ℕ) (bytes : List ℕ) → list_all is_plain (byte ∷ bytes) ≡ true → is_plain byte ≡ true
head_plain byte bytes h = (and_parts (is_plain byte) (list_all is_plain bytes) h).0

tail_plain : (byte : ℕ) (bytes : List ℕ) → list_all is_plain (byte ∷ bytes) ≡ true → list_all is_plain bytes ≡ true
tail_plain byte bytes h = (and_parts (is_plain byte) (list_all is_plain bytes) h).1

-- what a plain byte is not
plain_no_feed : (b : ℕ) → is_plain b ≡ true → (b == 10) ≡ false
plain_no_feed b h = grind (arith, nat_tests)

plain_no_return : (b : ℕ) → is_plain b ≡ true → (13 == b) ≡ false
plain_no_return b h = grind (arith, nat_tests)

plain_no_colon : (b : ℕ) → is_plain b ≡ true → (b == 58) ≡ false
plain_no_colon b h = grind (arith, nat_tests)

plain_no_semicolon : (b : ℕ) → is_plain b ≡ true → (b == 59) ≡ false
plain_no_semicolon b h = grind (arith, nat_tests)

plain_ascii : (b : ℕ) → is_plain b ≡ true → b < 128
plain_ascii b h = grind (arith, nat_tests)

-- a byte that no plain text has
absent : (byte : ℕ) → ((b : ℕ) → is_plain b ≡ true → (b == byte) ≡ false) → (text : List ℕ) →
    list_all is_plain text ≡ true →
    position_or_len (λ b. b == byte) text ≡ length text
absent byte other [] plain = refl
absent byte other (b ∷ bytes) plain =
    let rest : position_or_len (λ b. b == byte) bytes ≡ length bytes =
    absent byte other bytes (tail_plain b bytes plain) in
    rw (other b (head_plain b bytes plain)) (omega arith)

pub plain_is : (text : List ℕ) → list_all is_plain text ≡ true → IsPlain text
plain_is text plain = absent 10 plain_no_feed text plain

pub plain-append : (a b : List ℕ) → list_all is_plain a ≡ true → list_all is_plain b ≡ true
    → list_all is_plain (a ++ b) ≡ true
plain-append a b p q = list_all-append is_plain a b ∙ rw (p, q)

plain_text : (text : List ℕ) → list_all is_plain text ≡ true → IsAscii text
plain_text [] plain = IsAscii-nil
plain_text (b ∷ bytes) plain =
    IsAscii-cons b bytes (plain_ascii b (head_plain b bytes plain)) (plain_text bytes (tail_plain b bytes plain))

ended_text : (text : List ℕ) → list_all is_plain text ≡ true → IsAscii (text ++ 10 ∷ [])
ended_text [] plain = IsAscii-cons 10 [] (omega arith) IsAscii-nil
ended_text (b ∷ bytes) plain = IsAscii-cons b (bytes ++ 10 ∷ []) (plain_ascii b (head_plain b bytes plain))
    (ended_text bytes (tail_plain b bytes plain))

-- a plain text ends with no CR
no_return_by : (a b : ℕ) (bytes : List ℕ) → ends_with nat_eq (b ∷ bytes ++ 10 ∷ []) (13 ∷ 10 ∷ []) ≡ false
    → ends_with nat_eq (a ∷ (b ∷ bytes ++ 10 ∷ [])) (13 ∷ 10 ∷ []) ≡ false
no_return_by a b bytes before =
    let more : length (a ∷ (b ∷ bytes ++ 10 ∷ [])) - 2 ≡ suc (length (b ∷ bytes ++ 10 ∷ []) - 2) =
    omega (arith, length-append bytes (10 ∷ [])) in
    rw more before

no_return : (text : List ℕ) → list_all is_plain text ≡ true → ends_with nat_eq (text ++ 10 ∷ []) (13 ∷ 10 ∷ []) ≡ false
no_return [] plain = refl
no_return (b ∷ []) plain = ap (λ t. t && true) (plain_no_return b (head_plain b [] plain))
no_return (a ∷ b ∷ bytes) plain = no_return_by a b bytes (no_return (b ∷ bytes) (tail_plain a (b ∷ bytes) plain))

one_feed_by : (b : ℕ) (bytes : List ℕ) → ends_with nat_eq (bytes ++ 10 ∷ []) (10 ∷ []) ≡ true
    → ends_with nat_eq (b ∷ (bytes ++ 10 ∷ [])) (10 ∷ []) ≡ true
one_feed_by b bytes before =
    let more : length (b ∷ (bytes ++ 10 ∷ [])) - 1 ≡ suc (length (bytes ++ 10 ∷ []) - 1) =
    omega (arith, length-append bytes (10 ∷ [])) in
    rw more before

one_feed : (text : List ℕ) → ends_with nat_eq (text ++ 10 ∷ []) (10 ∷ []) ≡ true
one_feed [] = refl
one_feed (b ∷ bytes) = one_feed_by b bytes (one_feed bytes)

-- the content of an ended plain line
content_is : (text : List ℕ) → list_all is_plain text ≡ true → content (text ++ 10 ∷ []) ≡ text
content_is text plain =
    let end : length (text ++ 10 ∷ []) - 1 ≡ length text = omega (arith, length-append text (10 ∷ [])) in
    rw (no_return text plain, one_feed text, end) (take_at text (10 ∷ []) (length text) refl)

start_is : (b : ℕ) (bytes : List ℕ) → is_blank b ≡ false → without_start (b ∷ bytes) ≡ b ∷ bytes
start_is b bytes shown = rw shown

end_is : (text : List ℕ) → suffix_len is_blank text ≡ 0 → without_end text ≡ text
end_is text shown = let all : length text - suffix_len is_blank text ≡ length text =
    omega arith in rw all (take_all (length text) text (omega arith))

code_is : (b : ℕ) (bytes : List ℕ) → list_all is_plain (b ∷ bytes) ≡ true → is_blank b ≡ false →
    suffix_len is_blank (b ∷ bytes) ≡ 0 →
    code_of (b ∷ (bytes ++ 10 ∷ [])) ≡ b ∷ bytes
unfolding code_of
code_is b bytes plain first last =
    ap (λ (text : List ℕ). without_end (without_start (take (length_before 59 text) text)))
    (content_is (b ∷ bytes) plain)
    ∙ ap (λ n. without_end (without_start (take n (b ∷ bytes)))) (absent 59 plain_no_semicolon (b ∷ bytes) plain)
    ∙ ap (λ (text : List ℕ). without_end (without_start text)) (take_all (length (b ∷ bytes)) (b ∷ bytes) (omega arith))
    ∙ ap without_end (start_is b bytes first)
    ∙ end_is (b ∷ bytes) last

unlabelled : (text : List ℕ) → list_all is_plain text ≡ true → has_label text ≡ false
unlabelled text plain = let all : length_before 58 text ≡ length text =
    absent 58 plain_no_colon text plain in rw all (grind (arith, nat_tests))

no_label : (text : List ℕ) → list_all is_plain text ≡ true → label_of text ≡ None
unfolding label_of
no_label text plain = rw (unlabelled text plain)

whole_statement : (text : List ℕ) → list_all is_plain text ≡ true → statement_text text ≡ text
unfolding statement_text
whole_statement text plain = rw (unlabelled text plain)

utf8_is : (text : List ℕ) → list_all is_plain text ≡ true
    → (utf8_valid_len (text ++ 10 ∷ []) == length (text ++ 10 ∷ [])) ≡ true
utf8_is text plain =
    eq-eqb _ _ (utf8_valid_len-IsUtf8 (text ++ 10 ∷ []) (IsUtf8-from_ascii (text ++ 10 ∷ []) (ended_text text plain)))

-- an ended plain line says its statement and has no label
pub line_is : (b : ℕ) (bytes : List ℕ) (s : Statement) → list_all is_plain (b ∷ bytes) ≡ true → is_blank b ≡ false →
    suffix_len is_blank (b ∷ bytes) ≡ 0 →
    statement_of (b ∷ bytes) ≡ s → line_of (b ∷ (bytes ++ 10 ∷ [])) ≡ record { label = None; statement = s }
unfolding line_of said_on
line_is b bytes s plain first last is =
    let code = code_is b bytes plain first last in
    let text = utf8_is (b ∷ bytes) plain in
    rw (code, text, no_label (b ∷ bytes) plain, whole_statement (b ∷ bytes) plain, is)
