-- A changed byte changes the hash: each step of FNV-1a can be undone.
use Rattle.std.proofs.Common.{◌≡◌, ℕ, suc, ◌+◌, ◌*◌, ◌%◌, ◌^◌, ◌<◌, List, [], ◌∷◌, ◌++◌, bit_xor, All, sym, ap, ◌∙◌, arith, mul_assoc, mul-one, mod-eq_of_lt, suc-le-suc}
use Rattle.std.proofs.lemmas.Nat.{mul-mod_first, mul-mod_second, xor_lt, xor_comm, mod_below}
use Rattle.std.proofs.lemmas.Nat.Bits.{bit_at_xor, bit_at-lt, same_from_bits}
use Rattle.std.proofs.lemmas.List.Sums.{fold-append}
use Rattle.std.specs.Int.{bit_at}
use Rattle.nj_bytes.specs.Fnv.{fnv_step, fnv_from, fnv_of}

-- a product by the FNV prime modulo 2^64 is undone by a product by the prime's inverse
undone : (x : ℕ) → x < 2 ^ 64 → ((x * 1099511628211) % 2 ^ 64 * 14886173955864302971) % 2 ^ 64 ≡ x
undone x small =
    mul-mod_first (x * 1099511628211) 14886173955864302971 (2 ^ 64)
    ∙ (ap (λ y. y % 2 ^ 64) (mul_assoc x 1099511628211 14886173955864302971)
    ∙ (sym (mul-mod_second x (1099511628211 * 14886173955864302971) (2 ^ 64))
    ∙ (ap (λ y. y % 2 ^ 64) (mul-one x) ∙ mod-eq_of_lt small)))

same_factor : (x y : ℕ) → x < 2 ^ 64 → y < 2 ^ 64 → (x * 1099511628211) % 2 ^ 64 ≡ (y * 1099511628211) % 2 ^ 64 → x ≡ y
same_factor x y small small' same =
    sym (undone x small) ∙ (ap (λ z. (z * 14886173955864302971) % 2 ^ 64) same ∙ undone y small')

same_bit : (p q r : ℕ) → p < 2 → q < 2 → r < 2 → (p + r) % 2 ≡ (q + r) % 2 → p ≡ q
same_bit p q r a b c same = omega arith

-- an exclusive or with the same number is undone by itself
same_xor : (x y n : ℕ) → bit_xor x n ≡ bit_xor y n → x ≡ y
same_xor x y n same =
    same_from_bits x y
    (λ i. same_bit (bit_at x i) (bit_at y i) (bit_at n i) (bit_at-lt x i) (bit_at-lt y i) (bit_at-lt n i)
    (sym (bit_at_xor x n i) ∙ (ap (λ z. bit_at z i) same ∙ bit_at_xor y n i)))

-- steps by one byte from two hashes
same_hash : (x y byte : ℕ) → x < 2 ^ 64 → y < 2 ^ 64 → byte < 2 ^ 64 → fnv_step x byte ≡ fnv_step y byte → x ≡ y
unfolding fnv_step
same_hash x y byte a b c same =
    same_xor x y byte (same_factor (bit_xor x byte) (bit_xor y byte) (xor_lt 64 x byte a c) (xor_lt 64 y byte b c) same)

-- steps by two bytes from one hash
same_byte : (x b c : ℕ) → x < 2 ^ 64 → b < 2 ^ 64 → c < 2 ^ 64 → fnv_step x b ≡ fnv_step x c → b ≡ c
unfolding fnv_step
same_byte x b c a b' c' same =
    same_xor b c x
    (xor_comm b x
    ∙ (same_factor (bit_xor x b) (bit_xor x c) (xor_lt 64 x b a b') (xor_lt 64 x c a c') same ∙ xor_comm x c))

step_fits : (x byte : ℕ) → fnv_step x byte < 2 ^ 64
unfolding fnv_step
step_fits x byte = mod_below (bit_xor x byte * 1099511628211) (2 ^ 64) (omega arith)

-- a byte fits 64 bits
wide : (byte : ℕ) → byte < 256 → byte < 2 ^ 64
wide byte small = omega arith

-- the bytes that follow tell two hashes apart
same_before :
    (bytes : List ℕ) (x y : ℕ) → All (λ b. b < 256) bytes → x < 2 ^ 64 → y < 2 ^ 64 →
    fnv_from x bytes ≡ fnv_from y bytes → x ≡ y
unfolding fnv_from
same_before [] x y are a b same = same
same_before (byte ∷ bytes) x y are a b same =
    same_hash x y byte a b (wide byte (are 0 0 (omega arith)))
    (same_before bytes (fnv_step x byte) (fnv_step y byte) (λ k d inside. are (suc k) d (suc-le-suc inside))
    (step_fits x byte) (step_fits y byte) same)

from_fits : (bytes : List ℕ) (x : ℕ) → x < 2 ^ 64 → fnv_from x bytes < 2 ^ 64
unfolding fnv_from
from_fits [] x a = a
from_fits (byte ∷ bytes) x a = from_fits bytes (fnv_step x byte) (step_fits x byte)

-- a hash fits 64 bits
pub hash_fits : (bytes : List ℕ) → fnv_of bytes < 2 ^ 64
unfolding fnv_of
hash_fits bytes = from_fits bytes 14695981039346656037 (omega arith)

-- where the hashes of two texts that differ in one byte are the same, they do not differ
pub same_text :
    (before behind : List ℕ) (b c : ℕ) → All (λ byte. byte < 256) behind → b < 256 → c < 256 →
    fnv_of (before ++ b ∷ behind) ≡ fnv_of (before ++ c ∷ behind) → b ≡ c
unfolding fnv_of fnv_from
same_text before behind b c are small small' same =
    let x : ℕ = fnv_from 14695981039346656037 before in
    let fits : x < 2 ^ 64 = from_fits before 14695981039346656037 (omega arith) in
    let split : (d : ℕ) → fnv_of (before ++ d ∷ behind) ≡ fnv_from (fnv_step x d) behind =
    λ d. fold-append fnv_step 14695981039346656037 before (d ∷ behind) in
    same_byte x b c fits (wide b small) (wide c small')
    (same_before behind (fnv_step x b) (fnv_step x c) are (step_fits x b) (step_fits x c)
    (sym (split b) ∙ (same ∙ split c)))
