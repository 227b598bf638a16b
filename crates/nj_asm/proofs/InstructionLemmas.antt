-- Lemmas on the lines of listed instructions, read again.
use Rattle.std.proofs.Common.{ℕ, ◌≡◌, ◌<◌, ◌+◌, ◌*◌, ◌==◌, Bool, true, false, cond, ◌&&◌, ltb, List, [], ◌∷◌, ◌++◌, length, take, drop, reverse, refl, sym, ap, ◌∙◌, arith, Some, None, length-append, append-nil}
use Rattle.std.specs.Prelude.{codes}
use Rattle.std.specs.Char.{is_ascii_digit}
use Rattle.std.specs.List.{list_all, suffix_len, prefix_len}
use Rattle.std.proofs.lemmas.Bool.{and_parts, lt-ltb}
use Rattle.std.proofs.lemmas.Bool.Decides.{nat_tests, Decides-ltb}
use Rattle.std.proofs.lemmas.List.{reverse-append, length-reverse}
use Rattle.nj_isa.specs.declared.modes.Mode.{Mode}
use Rattle.nj_isa.specs.declared.modes.Mode.TheVariants.{Implied, Accumulator, Immediate, Zp, ZpX, ZpY, Abs, AbsX, AbsY, IndX, IndY, Indirect, Relative}
use Rattle.nj_isa.specs.Names.{name_of}
use Rattle.nj_isa.specs.Table.{row_of, is_official}
use Rattle.nj_asm_lines.specs.declared.syntax.Value.TheVariants.{Literal}
use Rattle.nj_asm_lines.specs.declared.syntax.Form.{Form}
use Rattle.nj_asm_lines.specs.declared.syntax.Form.TheVariants.{Plain, CommaX, CommaY}
use Rattle.nj_asm_lines.specs.declared.syntax.Operand.{Operand}
use Rattle.nj_asm_lines.specs.declared.syntax.Operand.TheVariants.{Valued}
use Rattle.nj_asm_lines.specs.declared.syntax.Cell.TheVariants.{Opcode}
use Rattle.nj_asm_lines.specs.declared.syntax.Statement.TheVariants.{Cells}
use Rattle.nj_asm_lines.specs.Words.{is_blank, is_name_byte, is_name, without_start}
use Rattle.nj_asm_lines.specs.Grammar.{operand_of, modes_in, modes_of, number_of, opcode_of, is_mnemonic, coded_or, coded, cells_in, instruction_of, said_by, word_len, statement_of, line_of}
use Rattle.nj_asm.specs.Listing.{hex2, hex4, branch_target, operand_text}
use Rattle.nj_asm.specs.Instructions.{short_mode}
use Rattle.nj_asm.proofs.OpcodeLemmas.{is_upper, is_word, word_at, opcode_found, no_branch, no_mode, known}
use Rattle.nj_asm.proofs.DigitLemmas.{is_plain, hex2_plain, hex4_plain, hex2_shown, hex4_shown, hex2_length, hex4_length}
use Rattle.nj_asm.proofs.ReadingLemmas.{plain-append, line_is}
use Rattle.nj_asm.proofs.OperandLemmas.{operand_in, operand_read, other_first}

-- the first word of a statement
upper_shown : (b : ℕ) → is_upper b ≡ true → is_blank b ≡ false
upper_shown b h = grind (arith, nat_tests)

upper_plain : (b : ℕ) → is_upper b ≡ true → is_plain b ≡ true
upper_plain b h = grind (arith, nat_tests)

upper_name : (b : ℕ) → is_upper b ≡ true → is_name_byte b ≡ true
upper_name b h = grind (arith, nat_tests)

upper_no_digit : (b : ℕ) → is_upper b ≡ true → is_ascii_digit b ≡ false
upper_no_digit b h = grind (arith, nat_tests)

upper_no_dot : (b : ℕ) → is_upper b ≡ true → (b == 46) ≡ false
upper_no_dot b h = grind (arith, nat_tests)

three_letters : (a b c : ℕ) (text : List ℕ) → is_upper a ≡ true → is_upper b ≡ true → is_upper c ≡ true →
    word_len (a ∷ b ∷ c ∷ text) ≡ 3 + word_len text
three_letters a b c text p q r = rw (upper_shown a p, upper_shown b q, upper_shown c r) (omega arith)

word_said : (a b c : ℕ) (rest : List ℕ) → is_upper a ≡ true
    → said_by (a ∷ b ∷ c ∷ []) rest ≡ instruction_of (a ∷ b ∷ c ∷ []) (operand_of rest)
unfolding said_by
word_said a b c rest p = rw (other_first a 46 [] [] (upper_no_dot a p))

statement_bare : (a b c : ℕ) → is_upper a ≡ true → is_upper b ≡ true → is_upper c ≡ true →
    statement_of (a ∷ b ∷ c ∷ []) ≡ instruction_of (a ∷ b ∷ c ∷ []) (operand_of [])
unfolding statement_of
statement_bare a b c p q r =
    ap (λ n. said_by (take n (a ∷ b ∷ c ∷ [])) (without_start (drop n (a ∷ b ∷ c ∷ [])))) (three_letters a b c [] p q r)
    ∙ word_said a b c [] p

start_shown : (b : ℕ) (bytes : List ℕ) → is_blank b ≡ false → without_start (32 ∷ b ∷ bytes) ≡ b ∷ bytes
start_shown b bytes shown = rw shown

statement_with : (a b c d : ℕ) (rest : List ℕ) → is_upper a ≡ true → is_upper b ≡ true → is_upper c ≡ true →
    is_blank d ≡ false →
    statement_of (a ∷ b ∷ c ∷ 32 ∷ d ∷ rest) ≡ instruction_of (a ∷ b ∷ c ∷ []) (operand_of (d ∷ rest))
unfolding statement_of
statement_with a b c d rest p q r s =
    let some : (length (a ∷ b ∷ c ∷ 32 ∷ d ∷ rest) == 0) ≡ false = grind (arith, nat_tests) in
    rw some
    (ap (λ n. said_by (take n (a ∷ b ∷ c ∷ 32 ∷ d ∷ rest)) (without_start (drop n (a ∷ b ∷ c ∷ 32 ∷ d ∷ rest))))
    (three_letters a b c (32 ∷ d ∷ rest) p q r)
    ∙ ap (said_by (a ∷ b ∷ c ∷ [])) (start_shown d rest s)
    ∙ word_said a b c (d ∷ rest) p)

name_is : (a b c : ℕ) → is_upper a ≡ true → is_upper b ≡ true → is_upper c ≡ true → is_name (a ∷ b ∷ c ∷ []) ≡ true
unfolding is_name
name_is a b c p q r = rw (upper_name a p, upper_name b q, upper_name c r, upper_no_digit a p)

-- an instruction whose mnemonic and mode are known
instruction_is : (a b c k : ℕ) (o : Operand) (m : Mode) → is_upper a ≡ true → is_upper b ≡ true → is_upper c ≡ true →
    is_mnemonic (a ∷ b ∷ c ∷ []) ≡ true → coded (a ∷ b ∷ c ∷ []) (modes_of o) ≡ Some (k, m) →
    instruction_of (a ∷ b ∷ c ∷ []) (Some o) ≡ Cells (Opcode k ∷ cells_in m o)
unfolding instruction_of
instruction_is a b c k o m p q r mnemonic code =
    let name : is_name (a ∷ b ∷ c ∷ []) ≡ true = name_is a b c p q r in
    rw (name, mnemonic, code)

-- what is told of the instruction that a line lists
pub record IsListed (k : ℕ) (mode : Mode) (low high : ℕ) : Type 0 where
  pub byte : k < 256
  pub official : is_official k ≡ true
  pub moded : (row_of k).mode ≡ mode
  pub low_byte : low < 256
  pub high_byte : high < 256
  pub short : (code : ℕ) → code < 256 → (row_of code).op ≡ (row_of k).op
      → short_mode mode ≡ Some (row_of code).mode → 0 < high

abbrev name_at : ℕ → List ℕ
name_at k = name_of (row_of k).op

found : (k : ℕ) (mode : Mode) (low high : ℕ) → IsListed k mode low high → opcode_of (name_at k) (Some mode) ≡ Some k
found k mode low high is = ap (λ m. opcode_of (name_at k) (Some m)) (sym is.moded) ∙ opcode_found k is.byte is.official

other_than_branch : (k : ℕ) (mode : Mode) (low high : ℕ) → IsListed k mode low high → (number_of mode == 12) ≡ false
    → opcode_of (name_at k) (Some Relative) ≡ None
other_than_branch k mode low high is other = no_branch k is.byte (ap (λ m. number_of m == 12) is.moded ∙ other)

-- an address below $100 is written in an absolute mode only where no shorter one is
no_shorter : (k : ℕ) (mode shorter : Mode) (low high : ℕ) → IsListed k mode low high → short_mode mode ≡ Some shorter →
    ltb (low + 256 * high) 256 ≡ true →
    opcode_of (name_at k) (Some shorter) ≡ None
no_shorter k mode shorter low high is beside narrow =
    no_mode k shorter is.byte (λ code within op m.
    let some : 0 < high = is.short code within op (beside ∙ ap (λ (x : Mode). Some x) m) in
    let below : low + 256 * high < 256 = (Decides-ltb (low + 256 * high) 256).0 narrow in
    absurd (omega (arith, some, below)))

by_width : (k : ℕ) (mode : Mode) (form : Form) (n : ℕ) (b : Bool) → ltb n 256 ≡ b →
    (b ≡ true → coded (name_at k) (modes_in form true) ≡ Some (k, mode)) →
    (b ≡ false → coded (name_at k) (modes_in form false) ≡ Some (k, mode)) →
    coded (name_at k) (modes_of (Valued form (Literal n))) ≡ Some (k, mode)
by_width k mode form n true e narrow wide = ap (λ b. coded (name_at k) (modes_in form b)) e ∙ narrow refl
by_width k mode form n false e narrow wide = ap (λ b. coded (name_at k) (modes_in form b)) e ∙ wide refl

pub coded_in : (mode : Mode) (k at low high : ℕ) → IsListed k mode low high
    → coded (name_at k) (modes_of (operand_in mode at low high)) ≡ Some (k, mode)
coded_in Implied k at low high is = ap (λ o. coded_or Implied o None) (found k Implied low high is)
coded_in Accumulator k at low high is = ap (λ o. coded_or Accumulator o None) (found k Accumulator low high is)
coded_in Immediate k at low high is = ap (λ o. coded_or Immediate o None) (found k Immediate low high is)
coded_in Zp k at low high is =
    ap (λ b. coded (name_at k) (modes_in Plain b)) (lt-ltb low 256 is.low_byte)
    ∙ (λ i. coded_or Relative (other_than_branch k Zp low high is refl i)
    (coded_or Zp (found k Zp low high is i) (coded (name_at k) (Abs ∷ []))))
coded_in ZpX k at low high is =
    ap (λ b. coded (name_at k) (modes_in CommaX b)) (lt-ltb low 256 is.low_byte)
    ∙ ap (λ o. coded_or ZpX o (coded (name_at k) (AbsX ∷ []))) (found k ZpX low high is)
coded_in ZpY k at low high is =
    ap (λ b. coded (name_at k) (modes_in CommaY b)) (lt-ltb low 256 is.low_byte)
    ∙ ap (λ o. coded_or ZpY o (coded (name_at k) (AbsY ∷ []))) (found k ZpY low high is)
coded_in Abs k at low high is =
    by_width k Abs Plain (low + 256 * high) (ltb (low + 256 * high) 256) refl
    (λ narrow i. coded_or Relative (other_than_branch k Abs low high is refl i)
    (coded_or Zp (no_shorter k Abs Zp low high is refl narrow i) (coded_or Abs (found k Abs low high is i) None)))
    (λ wide i.
    coded_or Relative (other_than_branch k Abs low high is refl i) (coded_or Abs (found k Abs low high is i) None))
coded_in AbsX k at low high is =
    by_width k AbsX CommaX (low + 256 * high) (ltb (low + 256 * high) 256) refl
    (λ narrow i.
    coded_or ZpX (no_shorter k AbsX ZpX low high is refl narrow i) (coded_or AbsX (found k AbsX low high is i) None))
    (λ wide i. coded_or AbsX (found k AbsX low high is i) None)
coded_in AbsY k at low high is =
    by_width k AbsY CommaY (low + 256 * high) (ltb (low + 256 * high) 256) refl
    (λ narrow i.
    coded_or ZpY (no_shorter k AbsY ZpY low high is refl narrow i) (coded_or AbsY (found k AbsY low high is i) None))
    (λ wide i. coded_or AbsY (found k AbsY low high is i) None)
coded_in IndX k at low high is = ap (λ o. coded_or IndX o None) (found k IndX low high is)
coded_in IndY k at low high is = ap (λ o. coded_or IndY o None) (found k IndY low high is)
coded_in Indirect k at low high is = ap (λ o. coded_or Indirect o None) (found k Indirect low high is)
coded_in Relative k at low high is =
    by_width k Relative Plain (branch_target at low) (ltb (branch_target at low) 256) refl
    (λ narrow. ap (λ o. coded_or Relative o (coded (name_at k) (Zp ∷ Abs ∷ []))) (found k Relative low high is))
    (λ wide. ap (λ o. coded_or Relative o (coded (name_at k) (Abs ∷ []))) (found k Relative low high is))

-- a listed operand is plain text
pub operand_plain : (mode : Mode) (at low high : ℕ) → list_all is_plain (operand_text mode at low high) ≡ true
unfolding operand_text
operand_plain Implied at low high = refl
operand_plain Accumulator at low high = refl
operand_plain Immediate at low high = hex2_plain low
operand_plain Zp at low high = hex2_plain low
operand_plain ZpX at low high = plain-append (hex2 low) (codes ",X") (hex2_plain low) refl
operand_plain ZpY at low high = plain-append (hex2 low) (codes ",Y") (hex2_plain low) refl
operand_plain Abs at low high = hex4_plain (low + 256 * high)
operand_plain AbsX at low high =
    plain-append (hex4 (low + 256 * high)) (codes ",X") (hex4_plain (low + 256 * high)) refl
operand_plain AbsY at low high =
    plain-append (hex4 (low + 256 * high)) (codes ",Y") (hex4_plain (low + 256 * high)) refl
operand_plain IndX at low high = plain-append (hex2 low) (codes ",X)") (hex2_plain low) refl
operand_plain IndY at low high = plain-append (hex2 low) (codes "),Y") (hex2_plain low) refl
operand_plain Indirect at low high =
    plain-append (hex4 (low + 256 * high)) (codes ")") (hex4_plain (low + 256 * high)) refl
operand_plain Relative at low high = hex4_plain (branch_target at low)

-- a text ends with no blank where its last part does not
reverse_shown : (a b : List ℕ) → 0 < length a → prefix_len is_blank a ≡ 0 → prefix_len is_blank (a ++ b) ≡ 0
reverse_shown [] b some shown = absurd (omega arith)
reverse_shown (x ∷ a) b some shown = go (is_blank x) shown
  where
    go : (t : Bool) → cond t (1 + prefix_len is_blank a) 0 ≡ 0 → cond t (1 + prefix_len is_blank (a ++ b)) 0 ≡ 0
    go true h = absurd (omega arith)
    go false h = refl

pub shown-append : (a b : List ℕ) → 0 < length b → suffix_len is_blank b ≡ 0 → suffix_len is_blank (a ++ b) ≡ 0
shown-append a b some shown =
    ap (prefix_len is_blank) (reverse-append a b)
    ∙ reverse_shown (reverse b) (reverse a) (omega (arith, length-reverse b)) shown

byte_shown : (name front : List ℕ) (n : ℕ) → suffix_len is_blank (name ++ (front ++ hex2 n)) ≡ 0
byte_shown name front n =
    shown-append name (front ++ hex2 n) (omega (arith, length-append front (hex2 n), hex2_length n))
    (shown-append front (hex2 n) (omega (arith, hex2_length n)) (hex2_shown n))

word_shown : (name front : List ℕ) (n : ℕ) → suffix_len is_blank (name ++ (front ++ hex4 n)) ≡ 0
word_shown name front n =
    shown-append name (front ++ hex4 n) (omega (arith, length-append front (hex4 n), hex4_length n))
    (shown-append front (hex4 n) (omega (arith, hex4_length n)) (hex4_shown n))

back_shown : (name front back : List ℕ) → 0 < length back → suffix_len is_blank back ≡ 0
    → suffix_len is_blank (name ++ (front ++ back)) ≡ 0
back_shown name front back some shown =
    shown-append name (front ++ back) (omega (arith, length-append front back)) (shown-append front back some shown)

letters_plain : (a b c : ℕ) → is_upper a ≡ true → is_upper b ≡ true → is_upper c ≡ true
    → list_all is_plain (a ∷ b ∷ c ∷ []) ≡ true
letters_plain a b c p q r = rw (upper_plain a p, upper_plain b q, upper_plain c r)

letters_shown : (a b c : ℕ) → is_upper c ≡ true → suffix_len is_blank (a ∷ b ∷ c ∷ []) ≡ 0
letters_shown a b c r = rw (upper_shown c r)

-- a statement's text ends with no blank
operand_shown : (name : List ℕ) → suffix_len is_blank name ≡ 0 → (mode : Mode) (at low high : ℕ)
    → suffix_len is_blank (name ++ operand_text mode at low high) ≡ 0
unfolding operand_text
operand_shown name shown Implied at low high = ap (suffix_len is_blank) (append-nil name) ∙ shown
operand_shown name shown Accumulator at low high = shown-append name (codes " A") (omega arith) refl
operand_shown name shown Immediate at low high = byte_shown name (codes " #$") low
operand_shown name shown Zp at low high = byte_shown name (codes " $") low
operand_shown name shown ZpX at low high = back_shown name (codes " $" ++ hex2 low) (codes ",X") (omega arith) refl
operand_shown name shown ZpY at low high = back_shown name (codes " $" ++ hex2 low) (codes ",Y") (omega arith) refl
operand_shown name shown Abs at low high = word_shown name (codes " $") (low + 256 * high)
operand_shown name shown AbsX at low high =
    back_shown name (codes " $" ++ hex4 (low + 256 * high)) (codes ",X") (omega arith) refl
operand_shown name shown AbsY at low high =
    back_shown name (codes " $" ++ hex4 (low + 256 * high)) (codes ",Y") (omega arith) refl
operand_shown name shown IndX at low high = back_shown name (codes " ($" ++ hex2 low) (codes ",X)") (omega arith) refl
operand_shown name shown IndY at low high = back_shown name (codes " ($" ++ hex2 low) (codes "),Y") (omega arith) refl
operand_shown name shown Indirect at low high =
    back_shown name (codes " ($" ++ hex4 (low + 256 * high)) (codes ")") (omega arith) refl
operand_shown name shown Relative at low high = word_shown name (codes " $") (branch_target at low)

-- a mnemonic as its three letters
record IsThree (name : List ℕ) : Type 0 where
  pub a : ℕ
  pub b : ℕ
  pub c : ℕ
  pub letters : name ≡ a ∷ b ∷ c ∷ []
  pub first : is_upper a ≡ true
  pub second : is_upper b ≡ true
  pub third : is_upper c ≡ true

three_by : (name : List ℕ) → is_word name ≡ true → IsThree name
three_by [] h = absurd (cc)
three_by (a ∷ []) h = absurd (cc)
three_by (a ∷ b ∷ []) h = absurd (cc)
three_by (a ∷ b ∷ c ∷ []) h =
    let one = and_parts (is_upper a) (is_upper b && (is_upper c && true)) h in
    let two = and_parts (is_upper b) (is_upper c && true) one.1 in
    record {
      a = a;
      b = b;
      c = c;
      letters = refl;
      first = one.0;
      second = two.0;
      third = (and_parts (is_upper c) true two.1).0;
    }
three_by (a ∷ b ∷ c ∷ d ∷ rest) h =
    let long : (length (a ∷ b ∷ c ∷ d ∷ rest) == 3) ≡ false = grind (arith, nat_tests) in
    let none : true ≡ false = sym h ∙ ap (λ t. t && list_all is_upper (a ∷ b ∷ c ∷ d ∷ rest)) long in
    absurd cc

-- the words of a listed statement
statement_parts : (a b c at low high : ℕ) → is_upper a ≡ true → is_upper b ≡ true → is_upper c ≡ true → (m : Mode) →
    statement_of ((a ∷ b ∷ c ∷ []) ++ operand_text m at low high)
    ≡ instruction_of (a ∷ b ∷ c ∷ []) (operand_of (drop 1 (operand_text m at low high)))
unfolding operand_text
statement_parts a b c at low high p q r Implied = statement_bare a b c p q r
statement_parts a b c at low high p q r Accumulator = statement_with a b c 65 [] p q r refl
statement_parts a b c at low high p q r Immediate = statement_with a b c 35 (36 ∷ hex2 low) p q r refl
statement_parts a b c at low high p q r Zp = statement_with a b c 36 (hex2 low) p q r refl
statement_parts a b c at low high p q r ZpX = statement_with a b c 36 (hex2 low ++ codes ",X") p q r refl
statement_parts a b c at low high p q r ZpY = statement_with a b c 36 (hex2 low ++ codes ",Y") p q r refl
statement_parts a b c at low high p q r Abs = statement_with a b c 36 (hex4 (low + 256 * high)) p q r refl
statement_parts a b c at low high p q r AbsX =
    statement_with a b c 36 (hex4 (low + 256 * high) ++ codes ",X") p q r refl
statement_parts a b c at low high p q r AbsY =
    statement_with a b c 36 (hex4 (low + 256 * high) ++ codes ",Y") p q r refl
statement_parts a b c at low high p q r IndX = statement_with a b c 40 (36 ∷ (hex2 low ++ codes ",X)")) p q r refl
statement_parts a b c at low high p q r IndY = statement_with a b c 40 (36 ∷ (hex2 low ++ codes "),Y")) p q r refl
statement_parts a b c at low high p q r Indirect =
    statement_with a b c 40 (36 ∷ (hex4 (low + 256 * high) ++ codes ")")) p q r refl
statement_parts a b c at low high p q r Relative = statement_with a b c 36 (hex4 (branch_target at low)) p q r refl

-- the statement of a listed line
statement_read_by : (a b c k : ℕ) (mode : Mode) (at low high : ℕ) → is_upper a ≡ true → is_upper b ≡ true →
    is_upper c ≡ true → is_mnemonic (a ∷ b ∷ c ∷ []) ≡ true →
    coded (a ∷ b ∷ c ∷ []) (modes_of (operand_in mode at low high)) ≡ Some (k, mode) → low < 256 → high < 256 →
    statement_of ((a ∷ b ∷ c ∷ []) ++ operand_text mode at low high)
    ≡ Cells (Opcode k ∷ cells_in mode (operand_in mode at low high))
statement_read_by a b c k mode at low high p q r mnemonic code l h =
    statement_parts a b c at low high p q r mode
    ∙ ap (instruction_of (a ∷ b ∷ c ∷ [])) (operand_read mode at low high l h)
    ∙ instruction_is a b c k (operand_in mode at low high) mode p q r mnemonic code

-- the line of a listed instruction, without its columns
line_read_by : (a b c k : ℕ) (mode : Mode) (at low high : ℕ) → is_upper a ≡ true → is_upper b ≡ true →
    is_upper c ≡ true → is_mnemonic (a ∷ b ∷ c ∷ []) ≡ true →
    coded (a ∷ b ∷ c ∷ []) (modes_of (operand_in mode at low high)) ≡ Some (k, mode) → low < 256 → high < 256 →
    line_of (((a ∷ b ∷ c ∷ []) ++ operand_text mode at low high) ++ 10 ∷ [])
    ≡ record { label = None; statement = Cells (Opcode k ∷ cells_in mode (operand_in mode at low high)) }
line_read_by a b c k mode at low high p q r mnemonic code l h =
    line_is a (b ∷ c ∷ operand_text mode at low high) (Cells (Opcode k ∷ cells_in mode (operand_in mode at low high)))
    (plain-append (a ∷ b ∷ c ∷ []) (operand_text mode at low high) (letters_plain a b c p q r)
    (operand_plain mode at low high))
    (upper_shown a p)
    (operand_shown (a ∷ b ∷ c ∷ []) (letters_shown a b c r) mode at low high)
    (statement_read_by a b c k mode at low high p q r mnemonic code l h)

pub line_read : (k : ℕ) (mode : Mode) (at low high : ℕ) → IsListed k mode low high →
    line_of ((name_at k ++ operand_text mode at low high) ++ 10 ∷ [])
    ≡ record { label = None; statement = Cells (Opcode k ∷ cells_in mode (operand_in mode at low high)) }
line_read k mode at low high is =
    let t = three_by (name_at k) (word_at k is.byte) in
    ap (λ (n : List ℕ). line_of ((n ++ operand_text mode at low high) ++ 10 ∷ [])) t.letters
    ∙ line_read_by t.a t.b t.c k mode at low high t.first t.second t.third
    (ap is_mnemonic (sym t.letters) ∙ known k is.byte is.official)
    (ap (λ (n : List ℕ). coded n (modes_of (operand_in mode at low high))) (sym t.letters)
    ∙ coded_in mode k at low high is)
    is.low_byte is.high_byte

-- a mnemonic is plain text
pub name_plain : (k : ℕ) → k < 256 → list_all is_plain (name_at k) ≡ true
name_plain k h = let t = three_by (name_at k) (word_at k h) in ap (list_all is_plain) t.letters
    ∙ letters_plain t.a t.b t.c t.first t.second t.third
