-- Lemmas on listed operands and statements, read again.
use Rattle.std.proofs.Common.{ℕ, ◌≡◌, ◌<◌, ◌+◌, ◌-◌, ◌*◌, ◌/◌, ◌%◌, ◌==◌, Bool, true, false, cond, ◌&&◌, List, [], ◌∷◌, ◌++◌, length, take, drop, refl, ap, arith, Option, Some, None}
use Rattle.std.specs.Prelude.{codes}
use Rattle.std.specs.Str.{bytes_eq}
use Rattle.std.proofs.lemmas.Bool.Decides.{nat_tests}
use Rattle.nj_isa.specs.declared.modes.Mode.{Mode}
use Rattle.nj_isa.specs.declared.modes.Mode.TheVariants.{Implied, Accumulator, Immediate, Zp, ZpX, ZpY, Abs, AbsX, AbsY, IndX, IndY, Indirect, Relative}
use Rattle.nj_asm_lines.specs.declared.syntax.Value.TheVariants.{Literal}
use Rattle.nj_asm_lines.specs.declared.syntax.Form.{Form}
use Rattle.nj_asm_lines.specs.declared.syntax.Form.TheVariants.{Hash, Plain, CommaX, CommaY, ParenCommaX, ParenCommaY, Paren}
use Rattle.nj_asm_lines.specs.declared.syntax.Operand.{Operand}
use Rattle.nj_asm_lines.specs.declared.syntax.Operand.TheVariants.{Nothing, LetterA, Valued}
use Rattle.nj_asm_lines.specs.Words.{between}
use Rattle.nj_asm_lines.specs.Grammar.{value_of, literal_of, shaped, shape_of, operand_of}
use Rattle.nj_asm.specs.Listing.{hex2, hex4, branch_target, operand_text}
use Rattle.nj_asm.proofs.DigitLemmas.{front_digit, back_digit, high_digit, digit_no_comma, digit_no_paren, hex2_read, hex4_read}

-- the operand that a listed line has
abbrev pub operand_in : Mode → ℕ → ℕ → ℕ → Operand
operand_in Implied at low high = Nothing
operand_in Accumulator at low high = LetterA
operand_in Immediate at low high = Valued Hash (Literal low)
operand_in Zp at low high = Valued Plain (Literal low)
operand_in ZpX at low high = Valued CommaX (Literal low)
operand_in ZpY at low high = Valued CommaY (Literal low)
operand_in Abs at low high = Valued Plain (Literal (low + 256 * high))
operand_in AbsX at low high = Valued CommaX (Literal (low + 256 * high))
operand_in AbsY at low high = Valued CommaY (Literal (low + 256 * high))
operand_in IndX at low high = Valued ParenCommaX (Literal low)
operand_in IndY at low high = Valued ParenCommaY (Literal low)
operand_in Indirect at low high = Valued Paren (Literal (low + 256 * high))
operand_in Relative at low high = Valued Plain (Literal (branch_target at low))

-- texts that differ in the first byte
pub other_first : (x y : ℕ) (xs ys : List ℕ) → (x == y) ≡ false → bytes_eq (x ∷ xs) (y ∷ ys) ≡ false
other_first x y xs ys h = ap (λ t. t && bytes_eq xs ys) h

-- a text that has not this end
no_end : (back text : List ℕ) → bytes_eq (drop (length text - length back) text) back ≡ false
    → between [] back text ≡ None
unfolding between
no_end back text h = ap (λ b. cond b (Some (take (length text - length back) text)) None) h

no_end_behind : (back rest : List ℕ) → bytes_eq (drop (length rest - length back) rest) back ≡ false
    → between (codes "(") back (40 ∷ rest) ≡ None
unfolding between
no_end_behind back rest h = ap (λ b. cond b (Some (take (length rest - length back) rest)) None) h

shape_by : (text : List ℕ) (a b c d e f : Option (List ℕ)) →
    between (codes "#") [] text ≡ a → between (codes "(") (codes ",X)") text ≡ b →
    between (codes "(") (codes "),Y") text ≡ c →
    between (codes "(") (codes ")") text ≡ d → between [] (codes ",X") text ≡ e → between [] (codes ",Y") text ≡ f →
    shape_of text ≡ shaped Hash a
    (shaped ParenCommaX b (shaped ParenCommaY c (shaped Paren d (shaped CommaX e (shaped CommaY f (Plain, text))))))
unfolding shape_of
shape_by text a b c d e f p q r s t u =
    λ i. shaped Hash (p i) (shaped ParenCommaX (q i)
    (shaped ParenCommaY (r i) (shaped Paren (s i) (shaped CommaX (t i) (shaped CommaY (u i) (Plain, text))))))

-- the forms over two digits
hash_two : (a b : ℕ) → shape_of (35 ∷ 36 ∷ a ∷ b ∷ []) ≡ (Hash, 36 ∷ a ∷ b ∷ [])
unfolding shape_of between
hash_two a b = refl

plain_two : (a b : ℕ) → (a == 44) ≡ false → shape_of (36 ∷ a ∷ b ∷ []) ≡ (Plain, 36 ∷ a ∷ b ∷ [])
unfolding between
plain_two a b h =
    shape_by (36 ∷ a ∷ b ∷ []) None None None None None None refl refl refl refl
    (no_end (codes ",X") (36 ∷ a ∷ b ∷ []) (other_first a 44 (b ∷ []) (codes "X") h))
    (no_end (codes ",Y") (36 ∷ a ∷ b ∷ []) (other_first a 44 (b ∷ []) (codes "Y") h))

comma_x_two : (a b : ℕ) → shape_of (36 ∷ a ∷ b ∷ 44 ∷ 88 ∷ []) ≡ (CommaX, 36 ∷ a ∷ b ∷ [])
unfolding shape_of between
comma_x_two a b = refl

comma_y_two : (a b : ℕ) → shape_of (36 ∷ a ∷ b ∷ 44 ∷ 89 ∷ []) ≡ (CommaY, 36 ∷ a ∷ b ∷ [])
unfolding shape_of between
comma_y_two a b = refl

paren_x_two : (a b : ℕ) → shape_of (40 ∷ 36 ∷ a ∷ b ∷ 44 ∷ 88 ∷ 41 ∷ []) ≡ (ParenCommaX, 36 ∷ a ∷ b ∷ [])
unfolding shape_of between
paren_x_two a b = refl

paren_y_two : (a b : ℕ) → shape_of (40 ∷ 36 ∷ a ∷ b ∷ 41 ∷ 44 ∷ 89 ∷ []) ≡ (ParenCommaY, 36 ∷ a ∷ b ∷ [])
unfolding shape_of between
paren_y_two a b = refl

-- a parenthesis is no X and no Y
and_false : (t : Bool) → (t && false) ≡ false
and_false true = refl
and_false false = refl

-- the forms over four digits
plain_four : (a b c d : ℕ) → (c == 44) ≡ false → shape_of (36 ∷ a ∷ b ∷ c ∷ d ∷ []) ≡ (Plain, 36 ∷ a ∷ b ∷ c ∷ d ∷ [])
unfolding between
plain_four a b c d h =
    shape_by (36 ∷ a ∷ b ∷ c ∷ d ∷ []) None None None None None None refl refl refl refl
    (no_end (codes ",X") (36 ∷ a ∷ b ∷ c ∷ d ∷ []) (other_first c 44 (d ∷ []) (codes "X") h))
    (no_end (codes ",Y") (36 ∷ a ∷ b ∷ c ∷ d ∷ []) (other_first c 44 (d ∷ []) (codes "Y") h))

comma_x_four : (a b c d : ℕ) → shape_of (36 ∷ a ∷ b ∷ c ∷ d ∷ 44 ∷ 88 ∷ []) ≡ (CommaX, 36 ∷ a ∷ b ∷ c ∷ d ∷ [])
unfolding shape_of between
comma_x_four a b c d = refl

comma_y_four : (a b c d : ℕ) → shape_of (36 ∷ a ∷ b ∷ c ∷ d ∷ 44 ∷ 89 ∷ []) ≡ (CommaY, 36 ∷ a ∷ b ∷ c ∷ d ∷ [])
unfolding shape_of between
comma_y_four a b c d = refl

paren_four : (a b c d : ℕ) → (c == 44) ≡ false → (c == 41) ≡ false
    → shape_of (40 ∷ 36 ∷ a ∷ b ∷ c ∷ d ∷ 41 ∷ []) ≡ (Paren, 36 ∷ a ∷ b ∷ c ∷ d ∷ [])
unfolding between
paren_four a b c d h p =
    shape_by (40 ∷ 36 ∷ a ∷ b ∷ c ∷ d ∷ 41 ∷ []) None None None (Some (36 ∷ a ∷ b ∷ c ∷ d ∷ [])) None None refl
    (no_end_behind (codes ",X)") (36 ∷ a ∷ b ∷ c ∷ d ∷ 41 ∷ []) (other_first c 44 (d ∷ 41 ∷ []) (codes "X)") h))
    (no_end_behind (codes "),Y") (36 ∷ a ∷ b ∷ c ∷ d ∷ 41 ∷ []) (other_first c 41 (d ∷ 41 ∷ []) (codes ",Y") p))
    refl
    (no_end (codes ",X") (40 ∷ 36 ∷ a ∷ b ∷ c ∷ d ∷ 41 ∷ []) (and_false (d == 44)))
    (no_end (codes ",Y") (40 ∷ 36 ∷ a ∷ b ∷ c ∷ d ∷ 41 ∷ []) (and_false (d == 44)))

-- `$` and hex digits
pub value_is : (digits : List ℕ) (n : ℕ) → literal_of 16 digits ≡ Some (Literal n)
    → value_of (36 ∷ digits) ≡ Some (Literal n)
unfolding value_of
value_is digits n h = h

-- an operand whose form and value are known
valued_is : (b : ℕ) (bytes : List ℕ) (form : Form) (inner : List ℕ) (n : ℕ) → (b == 65) ≡ false →
    shape_of (b ∷ bytes) ≡ (form, inner) → value_of inner ≡ Some (Literal n)
    → operand_of (b ∷ bytes) ≡ Some (Valued form (Literal n))
unfolding operand_of
valued_is b bytes form inner n h shape value =
    let some : (length (b ∷ bytes) == 0) ≡ false = grind (arith, nat_tests) in
    let no_a : bytes_eq (b ∷ bytes) (codes "A") ≡ false = other_first b 65 bytes [] h in
    rw (some, no_a, shape, value)

plain_word : (n : ℕ) → n < 65536 → operand_of (36 ∷ hex4 n) ≡ Some (Valued Plain (Literal n))
unfolding hex4 hex2
plain_word n h =
    valued_is 36 (hex4 n) Plain (36 ∷ hex4 n) n refl
    (plain_four (front_digit (n / 256 % 256)) (back_digit (n / 256 % 256)) (front_digit (n % 256))
    (back_digit (n % 256)) (digit_no_comma (n % 256 / 16 % 16) (high_digit (n % 256))))
    (value_is (hex4 n) n (hex4_read n h))

-- a listed operand without its blank
pub operand_read : (mode : Mode) (at low high : ℕ) → low < 256 → high < 256
    → operand_of (drop 1 (operand_text mode at low high)) ≡ Some (operand_in mode at low high)
unfolding operand_text operand_of hex2 hex4
operand_read Implied at low high l h = refl
operand_read Accumulator at low high l h = refl
operand_read Immediate at low high l h = valued_is 35 (36 ∷ hex2 low) Hash (36 ∷ hex2 low) low refl
    (hash_two (front_digit low) (back_digit low)) (value_is (hex2 low) low (hex2_read low l))
operand_read Zp at low high l h =
    valued_is 36 (hex2 low) Plain (36 ∷ hex2 low) low refl (plain_two (front_digit low) (back_digit low)
    (digit_no_comma (low / 16 % 16) (high_digit low))) (value_is (hex2 low) low (hex2_read low l))
operand_read ZpX at low high l h = valued_is 36 (hex2 low ++ codes ",X") CommaX (36 ∷ hex2 low) low refl
    (comma_x_two (front_digit low) (back_digit low)) (value_is (hex2 low) low (hex2_read low l))
operand_read ZpY at low high l h = valued_is 36 (hex2 low ++ codes ",Y") CommaY (36 ∷ hex2 low) low refl
    (comma_y_two (front_digit low) (back_digit low)) (value_is (hex2 low) low (hex2_read low l))
operand_read Abs at low high l h = plain_word (low + 256 * high) (omega arith)
operand_read AbsX at low high l h =
    valued_is 36 (hex4 (low + 256 * high) ++ codes ",X") CommaX (36 ∷ hex4 (low + 256 * high)) (low + 256 * high) refl
    (comma_x_four (front_digit ((low + 256 * high) / 256 % 256)) (back_digit ((low + 256 * high) / 256 % 256))
    (front_digit ((low + 256 * high) % 256)) (back_digit ((low + 256 * high) % 256)))
    (value_is (hex4 (low + 256 * high)) (low + 256 * high) (hex4_read (low + 256 * high) (omega arith)))
operand_read AbsY at low high l h =
    valued_is 36 (hex4 (low + 256 * high) ++ codes ",Y") CommaY (36 ∷ hex4 (low + 256 * high)) (low + 256 * high) refl
    (comma_y_four (front_digit ((low + 256 * high) / 256 % 256)) (back_digit ((low + 256 * high) / 256 % 256))
    (front_digit ((low + 256 * high) % 256)) (back_digit ((low + 256 * high) % 256)))
    (value_is (hex4 (low + 256 * high)) (low + 256 * high) (hex4_read (low + 256 * high) (omega arith)))
operand_read IndX at low high l h =
    valued_is 40 (36 ∷ (hex2 low ++ codes ",X)")) ParenCommaX (36 ∷ hex2 low) low refl
    (paren_x_two (front_digit low) (back_digit low)) (value_is (hex2 low) low (hex2_read low l))
operand_read IndY at low high l h =
    valued_is 40 (36 ∷ (hex2 low ++ codes "),Y")) ParenCommaY (36 ∷ hex2 low) low refl
    (paren_y_two (front_digit low) (back_digit low)) (value_is (hex2 low) low (hex2_read low l))
operand_read Indirect at low high l h =
    valued_is 40 (36 ∷ (hex4 (low + 256 * high) ++ codes ")")) Paren (36 ∷ hex4 (low + 256 * high))
    (low + 256 * high) refl
    (paren_four (front_digit ((low + 256 * high) / 256 % 256)) (back_digit ((low + 256 * high) / 256 % 256))
    (front_digit ((low + 256 * high) % 256)) (back_digit ((low + 256 * high) % 256))
    (digit_no_comma ((low + 256 * high) % 256 / 16 % 16) (high_digit ((low + 256 * high) % 256)))
    (digit_no_paren ((low + 256 * high) % 256 / 16 % 16) (high_digit ((low + 256 * high) % 256))))
    (value_is (hex4 (low + 256 * high)) (low + 256 * high) (hex4_read (low + 256 * high) (omega arith)))
operand_read Relative at low high l h = plain_word (branch_target at low) (omega arith)
