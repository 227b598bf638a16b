-- Lemmas on the opcodes of the official mnemonics.
use Rattle.std.proofs.Common.{ℕ, zero, suc, ◌≡◌, ◌≤◌, ◌<◌, ◌+◌, ◌*◌, ◌==◌, Bool, true, false, cond, ◌&&◌, ltb, inl, inr, ◌≢◌, List, [], ◌∷◌, length, map, get_or, refl, sym, ap, ◌∙◌, arith, Option, Some, None}
use Rattle.std.specs.Char.{to_ascii_lowercase}
use Rattle.std.specs.List.{range_with_len, position_or_len, list_all}
use Rattle.std.specs.Option.{is_some}
use Rattle.std.proofs.lemmas.Bool.{and_parts, and_from}
use Rattle.std.proofs.lemmas.Bool.Decides.{eqb_tells, Decides-eqb}
use Rattle.std.proofs.lemmas.List.FromFn.{get_or-map-range_with_len}
use Rattle.std.proofs.lemmas.Slice.Eq.{bytes_eq-Decides}
use Rattle.nj_isa.specs.declared.operations.Op.{Op}
use Rattle.nj_isa.specs.declared.modes.Mode.{Mode}
use Rattle.nj_isa.specs.declared.modes.Mode.TheVariants.{Implied, Accumulator, Immediate, Zp, ZpX, ZpY, Abs, AbsX, AbsY, IndX, IndY, Indirect, Relative}
use Rattle.nj_isa.specs.Names.{name_of}
use Rattle.nj_isa.specs.Table.{row_of, is_official}
use Rattle.nj_isa.specs.Timing.{is_jam}
use Rattle.nj_asm_lines.specs.Grammar.{number_of, is_spelled, is_row, is_code, first_code, opcode_of, is_mnemonic}

-- functions that list the same 256 values agree below 256
agree : {A : Type 0} (f g : ℕ → A) → map f (range_with_len 0 256) ≡ map g (range_with_len 0 256) → (n : ℕ)
    → n < 256 → f n ≡ g n
agree f g e n h =
    sym (get_or-map-range_with_len f 0 256 n n (f n) h (omega arith))
    ∙ ap (λ xs. get_or xs n (f n)) e
    ∙ get_or-map-range_with_len g 0 256 n n (f n) h (omega arith)

-- a name as a number, its letters in lower case
abbrev mixed : List ℕ → ℕ
mixed [] = 0
mixed (byte ∷ bytes) = byte + 128 * mixed bytes

abbrev lowered : List ℕ → List ℕ
lowered name = map to_ascii_lowercase name

abbrev name_at : ℕ → List ℕ
name_at n = name_of (row_of n).op

abbrev name_key : ℕ → ℕ
name_key n = mixed (lowered (name_at n))

abbrev row_key : ℕ → ℕ
row_key n = number_of (row_of n).mode + 16 * name_key n

-- the first place of a key
abbrev place : List ℕ → ℕ → ℕ
place keys key = position_or_len (λ k. k == key) keys

name_keys : List ℕ
unfolding row_of name_of
name_keys = map name_key (range_with_len 0 256)

-- the keys of the rows that official opcodes have
row_keys : List ℕ
unfolding row_of name_of is_official
row_keys = map (λ n. cond (is_official n) (row_key n) 0) (range_with_len 0 256)

-- opcodes of one mnemonic have one operation
abbrev ops : List ℕ → List Op
ops keys = map (λ n. (row_of (place keys (name_key n))).op) (range_with_len 0 256)

all_ops : ops name_keys ≡ map (λ n. (row_of n).op) (range_with_len 0 256)
unfolding row_of name_of name_keys
all_ops = refl

op_by_name : (keys : List ℕ) → ops keys ≡ map (λ n. (row_of n).op) (range_with_len 0 256) → (n : ℕ) → n < 256 →
    (row_of (place keys (name_key n))).op ≡ (row_of n).op
op_by_name keys e n h = agree (λ k. (row_of (place keys (name_key k))).op) (λ k. (row_of k).op) e n h

pub same_op : (j k : ℕ) → j < 256 → k < 256 → lowered (name_at j) ≡ lowered (name_at k) → (row_of j).op ≡ (row_of k).op
same_op j k hj hk e =
    sym (op_by_name name_keys all_ops j hj)
    ∙ ap (λ (x : List ℕ). (row_of (place name_keys (mixed x))).op) e
    ∙ op_by_name name_keys all_ops k hk

-- official opcodes of one mnemonic and one mode are the same
abbrev place_in : List ℕ → ℕ → ℕ
place_in keys n = cond (is_official n) (place keys (row_key n)) n

all_places : map (place_in row_keys) (range_with_len 0 256) ≡ map (λ n. n) (range_with_len 0 256)
unfolding row_of name_of is_official row_keys
all_places = refl

chosen : (b : Bool) (m n : ℕ) → b ≡ true → cond b m n ≡ n → m ≡ n
chosen b m n h e = ap (λ (t : Bool). cond t m n) (sym h) ∙ e

place_by_row : (keys : List ℕ) → map (place_in keys) (range_with_len 0 256) ≡ map (λ n. n) (range_with_len 0 256) →
    (n : ℕ) → n < 256 → is_official n ≡ true → place keys (row_key n) ≡ n
place_by_row keys e n h official =
    chosen (is_official n) (place keys (row_key n)) n official (agree (place_in keys) (λ k. k) e n h)

pub same_code : (j k : ℕ) → j < 256 → k < 256 → is_official j ≡ true → is_official k ≡ true →
    lowered (name_at j) ≡ lowered (name_at k) → number_of (row_of j).mode ≡ number_of (row_of k).mode → j ≡ k
same_code j k hj hk first official names modes =
    let key : row_key j ≡ row_key k = λ i. modes i + 16 * mixed (names i) in
    sym (place_by_row row_keys all_places j hj first)
    ∙ ap (place row_keys) key
    ∙ place_by_row row_keys all_places k hk official

-- a mnemonic with the mode of branches has no other
abbrev branches : List ℕ → List Bool
branches keys = map (λ n. number_of (row_of (place keys (name_key n))).mode == 12) (range_with_len 0 256)

all_branches : branches name_keys ≡ map (λ n. number_of (row_of n).mode == 12) (range_with_len 0 256)
unfolding row_of name_of name_keys
all_branches = refl

branch_by_name : (keys : List ℕ) → branches keys ≡ map (λ n. number_of (row_of n).mode == 12) (range_with_len 0 256) →
    (n : ℕ) → n < 256 →
    (number_of (row_of (place keys (name_key n))).mode == 12) ≡ (number_of (row_of n).mode == 12)
branch_by_name keys e n h =
    agree (λ k. number_of (row_of (place keys (name_key k))).mode == 12) (λ k. number_of (row_of k).mode == 12) e n h

pub same_branch : (j k : ℕ) → j < 256 → k < 256 → lowered (name_at j) ≡ lowered (name_at k) →
    (number_of (row_of j).mode == 12) ≡ (number_of (row_of k).mode == 12)
same_branch j k hj hk e =
    sym (branch_by_name name_keys all_branches j hj)
    ∙ ap (λ (x : List ℕ). number_of (row_of (place name_keys (mixed x))).mode == 12) e
    ∙ branch_by_name name_keys all_branches k hk

-- each mnemonic is three capitals
abbrev pub is_upper : ℕ → Bool
is_upper byte = ltb 64 byte && ltb byte 91

abbrev pub is_word : List ℕ → Bool
is_word name = (length name == 3) && list_all is_upper name

all_words : map (λ n. is_word (name_at n)) (range_with_len 0 256) ≡ map (λ n. true) (range_with_len 0 256)
unfolding row_of name_of
all_words = refl

pub word_at : (n : ℕ) → n < 256 → is_word (name_at n) ≡ true
word_at n h = agree (λ k. is_word (name_at k)) (λ k. true) all_words n h

-- no official opcode jams
all_run : map (λ n. cond (is_official n) (is_jam (row_of n).op) false) (range_with_len 0 256)
    ≡ map (λ n. false) (range_with_len 0 256)
unfolding row_of is_official
all_run = refl

pub runs : (n : ℕ) → n < 256 → is_official n ≡ true → is_jam (row_of n).op ≡ false
runs n h official =
    ap (λ (t : Bool). cond t (is_jam (row_of n).op) false) (sym official)
    ∙ agree (λ k. cond (is_official k) (is_jam (row_of k).op) false) (λ k. false) all_run n h

-- a code that fails is not the one that passes
later : (test : ℕ → Bool) (at k : ℕ) → at ≤ k → test at ≡ false → test k ≡ true → at + 1 ≤ k
later test at k low fails passes = elim (eqb_tells at k) [ inl same ↦ here same.1 | inr other ↦ above other.1 ]
  where
    here : at ≡ k → at + 1 ≤ k
    here same = let both : true ≡ false = sym passes ∙ ap test (sym same) ∙ fails in absurd cc

    above : at ≢ k → at + 1 ≤ k
    above other = omega arith

-- a search among the codes finds the one that passes
first_code_is_by : (test : ℕ → Bool) (at k : ℕ) (rest : Option ℕ) (b : Bool) → (b ≡ true → at ≡ k) →
    (b ≡ false → rest ≡ Some k) →
    cond b (Some at) rest ≡ Some k
first_code_is_by test at k rest true here after = ap (λ (n : ℕ). Some n) (here refl)
first_code_is_by test at k rest false here after = after refl

pub first_code_is : (test : ℕ → Bool) (at left k : ℕ) → at ≤ k → k < at + left → test k ≡ true →
    ((j : ℕ) → j < at + left → test j ≡ true → j ≡ k) → first_code test at left ≡ Some k
unfolding first_code
first_code_is test at zero k low high passes one = absurd (omega arith)
first_code_is test at (suc left) k low high passes one =
    first_code_is_by test at k (first_code test (at + 1) left) (test at) (λ h. one at (omega arith) h)
    (λ h. first_code_is test (at + 1) left k (later test at k low h passes) (omega arith) passes
    (λ j within p. one j (omega arith) p))

-- what it finds passes
first_code_passes_by : (test : ℕ → Bool) (at end k : ℕ) (rest : Option ℕ) (b : Bool) → test at ≡ b → at < end →
    (rest ≡ Some k → (k < end) × (test k ≡ true)) → cond b (Some at) rest ≡ Some k → (k < end) × (test k ≡ true)
first_code_passes_by test at end k rest true h low after e = let same : at ≡ k =
    cc in (omega arith, ap test (sym same) ∙ h)
first_code_passes_by test at end k rest false h low after e = after e

pub first_code_passes : (test : ℕ → Bool) (at left k : ℕ) → first_code test at left ≡ Some k
    → (k < at + left) × (test k ≡ true)
unfolding first_code
first_code_passes test at zero k found = absurd (cc)
first_code_passes test at (suc left) k found =
    first_code_passes_by test at (at + suc left) k (first_code test (at + 1) left) (test at) refl (omega arith)
    (λ e. let rest : (k < (at + 1) + left) × (test k ≡ true) = first_code_passes test (at + 1) left k e in
    (omega (arith, rest.0), rest.1)) found

-- it finds one where one passes
first_code_some_by : (at : ℕ) (rest : Option ℕ) (b : Bool) → (b ≡ false → is_some rest ≡ true)
    → is_some (cond b (Some at) rest) ≡ true
first_code_some_by at rest true after = refl
first_code_some_by at rest false after = after refl

first_code_some : (test : ℕ → Bool) (at left k : ℕ) → at ≤ k → k < at + left → test k ≡ true
    → is_some (first_code test at left) ≡ true
unfolding first_code
first_code_some test at zero k low high passes = absurd (omega arith)
first_code_some test at (suc left) k low high passes =
    first_code_some_by at (first_code test (at + 1) left) (test at)
    (λ h. first_code_some test (at + 1) left k (later test at k low h passes) (omega arith) passes)

spelled_itself : (word : List ℕ) → is_spelled word word ≡ true
spelled_itself word = (bytes_eq-Decides (lowered word) (lowered word)).1 refl

code_itself : (k : ℕ) → is_official k ≡ true → is_code (name_at k) (Some (row_of k).mode) k ≡ true
code_itself k official =
    and_from (is_official k) _ official
    (and_from _ _ (spelled_itself (name_at k))
    ((Decides-eqb (number_of (row_of k).mode) (number_of (row_of k).mode)).1 refl))

-- an official opcode with the mnemonic and the mode
record IsNamed (word : List ℕ) (m : Mode) (j : ℕ) : Type 0 where
  pub official : is_official j ≡ true
  pub name : lowered word ≡ lowered (name_at j)
  pub mode : number_of m ≡ number_of (row_of j).mode

code_names : (word : List ℕ) (m : Mode) (j : ℕ) → is_code word (Some m) j ≡ true → IsNamed word m j
code_names word m j h =
    let whole = and_parts (is_official j) (is_row word (Some m) (row_of j)) h in
    let parts = and_parts (is_spelled word (name_at j)) (number_of m == number_of (row_of j).mode) whole.1 in
    record {
      official = whole.0;
      name = (bytes_eq-Decides (lowered word) (lowered (name_at j))).0 parts.0;
      mode = (Decides-eqb (number_of m) (number_of (row_of j).mode)).0 parts.1;
    }

-- the opcode of an official mnemonic in its mode
pub opcode_found : (k : ℕ) → k < 256 → is_official k ≡ true → opcode_of (name_at k) (Some (row_of k).mode) ≡ Some k
unfolding opcode_of
opcode_found k h official =
    first_code_is (is_code (name_at k) (Some (row_of k).mode)) 0 256 k (omega arith) h (code_itself k official)
    (λ j within passes.
    let named = code_names (name_at k) (row_of k).mode j passes in
    same_code j k within h named.official official (sym named.name) (sym named.mode))

-- another opcode of the mnemonic
pub opcode_other : (k c : ℕ) (m : Mode) → opcode_of (name_at k) (Some m) ≡ Some c →
    (c < 256) × (lowered (name_at k) ≡ lowered (name_at c)) × (number_of m ≡ number_of (row_of c).mode)
unfolding opcode_of
opcode_other k c m found =
    let p = first_code_passes (is_code (name_at k) (Some m)) 0 256 c found in
    let named = code_names (name_at k) m c p.1 in
    (p.0, named.name, named.mode)

none_by : {A : Type 0} (o : Option A) → ((a : A) → o ≡ Some a → ⊥) → o ≡ None
none_by None h = refl
none_by (Some a) h = absurd (h a refl)

-- a mnemonic that is not a branch's has no mode of branches
pub no_branch : (k : ℕ) → k < 256 → (number_of (row_of k).mode == 12) ≡ false
    → opcode_of (name_at k) (Some Relative) ≡ None
no_branch k h other =
    none_by (opcode_of (name_at k) (Some Relative)) (λ c found.
    let o = opcode_other k c Relative found in
    let branch : (number_of (row_of c).mode == 12) ≡ true = ap (λ n. n == 12) (sym o.2) in
    let both : true ≡ false = sym branch ∙ same_branch c k o.0 h (sym o.1) ∙ other in
    absurd cc)

-- the mode with a number
abbrev back : ℕ → Mode
back n =
    cond (n == 0) Implied
    (cond (n == 1) Accumulator (cond (n == 2) Immediate (cond (n == 3) Zp (cond (n == 4) ZpX (cond (n == 5) ZpY
    (cond (n == 6) Abs (cond (n == 7) AbsX
    (cond (n == 8) AbsY (cond (n == 9) IndX (cond (n == 10) IndY (cond (n == 11) Indirect Relative)))))))))))

back_is : (m : Mode) → back (number_of m) ≡ m
back_is Implied = refl
back_is Accumulator = refl
back_is Immediate = refl
back_is Zp = refl
back_is ZpX = refl
back_is ZpY = refl
back_is Abs = refl
back_is AbsX = refl
back_is AbsY = refl
back_is IndX = refl
back_is IndY = refl
back_is Indirect = refl
back_is Relative = refl

-- the operation has no opcode in a mode
pub no_mode : (k : ℕ) (m : Mode) → k < 256 →
    ((code : ℕ) → code < 256 → (row_of code).op ≡ (row_of k).op → m ≡ (row_of code).mode → ⊥) →
    opcode_of (name_at k) (Some m) ≡ None
no_mode k m h none =
    none_by (opcode_of (name_at k) (Some m)) (λ c found.
    let o = opcode_other k c m found in
    none c o.0 (same_op c k o.0 h (sym o.1)) (sym (back_is m) ∙ ap back o.2 ∙ back_is (row_of c).mode))

-- official mnemonics are known
pub known : (k : ℕ) → k < 256 → is_official k ≡ true → is_mnemonic (name_at k) ≡ true
unfolding is_mnemonic opcode_of
known k h official =
    first_code_some (is_code (name_at k) None) 0 256 k (omega arith) h
    (and_from (is_official k) _ official (and_from _ true (spelled_itself (name_at k)) refl))
