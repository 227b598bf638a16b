-- What the sizes of a board say of its banks and windows.
use Rattle.std.proofs.Common.{◌≡◌, ◌==◌, ◌⊎◌, inl, inr, ℕ, ◌+◌, ◌-◌, ◌*◌, ◌/◌, ◌%◌, ◌<◌, ◌≤◌, nat_lt, Bool, true, false, List, length, get_or, refl, sym, ap, subst, ◌∙◌, arith, length-take, length-drop}
use Rattle.std.proofs.lemmas.Bool.{cond-true, cond-false, lt-ltb, le-ltb}
use Rattle.std.proofs.lemmas.List.{take_all}
use Rattle.std.proofs.lemmas.Bool.Decides.{nat_tests}
use Rattle.std.specs.Prelude.{slice_range, slice_index}
use Rattle.nj_board.specs.Nrom.{IsProgram, program_byte}
use Rattle.nj_banked.specs.Banks.{Banks, bank_count, IsUxromProgram, IsCnromPattern, IsNrom, IsUxrom, IsCnrom, IsBanks}
use Rattle.nj_banked.specs.Banked.{windowed_byte, prg_byte, pattern_of}
use Rattle.nj_banked.specs.Windows.{low_of, pattern_at, IsWindowed}
use Rattle.nj_banked.specs.Calls.{bank_of}

-- the number of banks of each board
pub nrom-count : (m : Banks) → m.mapper ≡ 0 → bank_count m ≡ 1
unfolding bank_count
nrom-count m is = rw is refl

pub uxrom-count : (m : Banks) → m.mapper ≡ 2 → bank_count m ≡ length m.prg / 16384
unfolding bank_count
uxrom-count m is = rw is refl

pub cnrom-count : (m : Banks) → m.mapper ≡ 3 → bank_count m ≡ length m.chr / 8192
unfolding bank_count
cnrom-count m is = rw is refl

-- the byte of each board
pub fixed-byte : (m : Banks) (at n : ℕ) → m.mapper ≡ n → (n == 2) ≡ false → prg_byte m at ≡ program_byte m.prg at
unfolding prg_byte
fixed-byte m at n is other = rw (is, other) refl

pub uxrom-byte : (m : Banks) (at : ℕ) → m.mapper ≡ 2 → prg_byte m at ≡ windowed_byte m.prg m.bank at
unfolding prg_byte
uxrom-byte m at is = rw is refl

pub low-byte : (prg : List ℕ) (bank at : ℕ) → at < 0xC000
    → windowed_byte prg bank at ≡ get_or prg (16384 * bank + (at - 0x8000)) 0
unfolding windowed_byte
low-byte prg bank at below = cond-true _ _ _ (lt-ltb at 0xC000 below)

pub high-byte : (prg : List ℕ) (bank at : ℕ) → 0xC000 ≤ at
    → windowed_byte prg bank at ≡ get_or prg (length prg - 16384 + (at - 0xC000)) 0
unfolding windowed_byte
high-byte prg bank at above = cond-false _ _ _ (le-ltb at 0xC000 above)

-- NROM has its first 16 KiB at $8000 and its last at $C000
fixed-low : (prg : List ℕ) (at : ℕ) → IsProgram prg → 0x8000 ≤ at → at < 0xC000
    → (at - 0x8000) % length prg ≡ at - 0x8000
fixed-low prg at (inl small) from below = rw small (omega arith)
fixed-low prg at (inr large) from below = rw large (omega arith)

fixed-high : (prg : List ℕ) (at : ℕ) → IsProgram prg → 0xC000 ≤ at → at < 0x10000 →
    (at - 0x8000) % length prg ≡ length prg - 16384 + (at - 0xC000)
fixed-high prg at (inl small) from below = rw small (omega arith)
fixed-high prg at (inr large) from below = rw large (omega arith)

pub fixed-size : (prg : List ℕ) → IsProgram prg → (16384 ≤ length prg) × (length prg ≤ 32768)
fixed-size prg (inl small) = (omega arith, omega arith)
fixed-size prg (inr large) = (omega arith, omega arith)

-- UxROM's program memory is that of its banks, which are at most 16
pub uxrom-size : (prg : List ℕ) → IsUxromProgram prg
    → (16384 * (length prg / 16384) ≡ length prg) × (length prg ≤ 262144)
uxrom-size prg (inl e) = (rw e refl, omega arith)
uxrom-size prg (inr (inl e)) = (rw e refl, omega arith)
uxrom-size prg (inr (inr (inl e))) = (rw e refl, omega arith)
uxrom-size prg (inr (inr (inr e))) = (rw e refl, omega arith)

pub uxrom-least : (prg : List ℕ) → IsUxromProgram prg → 32768 ≤ length prg
uxrom-least prg (inl e) = omega arith
uxrom-least prg (inr (inl e)) = omega arith
uxrom-least prg (inr (inr (inl e))) = omega arith
uxrom-least prg (inr (inr (inr e))) = omega arith

pub cnrom-least : (chr : List ℕ) → IsCnromPattern chr → 8192 ≤ length chr
cnrom-least chr (inl e) = omega arith
cnrom-least chr (inr (inl e)) = omega arith
cnrom-least chr (inr (inr e)) = omega arith

pub cnrom-size : (chr : List ℕ) → IsCnromPattern chr → (8192 * (length chr / 8192) ≡ length chr) × (length chr ≤ 32768)
cnrom-size chr (inl e) = (rw e refl, omega arith)
cnrom-size chr (inr (inl e)) = (rw e refl, omega arith)
cnrom-size chr (inr (inr e)) = (rw e refl, omega arith)

-- where the windows stand on each board
pub low-zero : (m : Banks) (n : ℕ) → m.mapper ≡ n → (n == 2) ≡ false → low_of m ≡ 0
low-zero m n is other = rw (is, other) refl

pub low-bank : (m : Banks) → m.mapper ≡ 2 → low_of m ≡ 16384 * m.bank
low-bank m is = rw is refl

-- what a read through a window that begins at `start`, at the address `base`, needs and gives
pub record IsPlace (m : Banks) (start base at : ℕ) : Type 0 where
  pub few : start ≤ 262144
  pub inside : start + at - base < length m.prg
  pub byte : get_or m.prg (start + at - base) 0 ≡ prg_byte m at

-- the same of boards that have program memory as NROM has it
fixed-place : (m : Banks) (n start base at place : ℕ) → m.mapper ≡ n → (n == 2) ≡ false → IsProgram m.prg
    → start ≤ 262144 →
    (at - 0x8000) % length m.prg ≡ place → start + at - base ≡ place → place < length m.prg → IsPlace m start base at
fixed-place m n start base at place is other sized few first second inside =
    record {
      few = few;
      inside = omega arith;
      byte = ap (λ k. get_or m.prg k 0) (second ∙ sym first) ∙ sym (fixed-byte m at n is other);
    }

fixed-low-place : (m : Banks) (n at : ℕ) → m.mapper ≡ n → (n == 2) ≡ false → IsProgram m.prg → 0x8000 ≤ at → at < 0xC000
    →
    IsPlace m (low_of m) 0x8000 at
fixed-low-place m n at is other sized from below =
    let zero : low_of m ≡ 0 = low-zero m n is other in
    fixed-place m n (low_of m) 0x8000 at (at - 0x8000) is other sized (omega arith)
    (fixed-low m.prg at sized from below)
    (omega arith) (omega (arith, (fixed-size m.prg sized).0))

fixed-high-place : (m : Banks) (n at : ℕ) → m.mapper ≡ n → (n == 2) ≡ false → IsProgram m.prg → 0xC000 ≤ at
    → at < 0x10000 →
    IsPlace m (length m.prg - 16384) 0xC000 at
fixed-high-place m n at is other sized from below =
    let size = fixed-size m.prg sized in
    fixed-place m n (length m.prg - 16384) 0xC000 at (length m.prg - 16384 + (at - 0xC000)) is other sized (omega arith)
    (fixed-high m.prg at sized from below) (omega arith) (omega arith)

-- and of UxROM
uxrom-low-place : (m : Banks) (at : ℕ) → IsUxrom m → m.bank < bank_count m → 0x8000 ≤ at → at < 0xC000
    → IsPlace m (low_of m) 0x8000 at
uxrom-low-place m at h bank from below =
    let start : low_of m ≡ 16384 * m.bank = low-bank m h.mapper in
    let few : m.bank < length m.prg / 16384 = subst (λ n. m.bank < n) (uxrom-count m h.mapper) bank in
    let size = uxrom-size m.prg h.prg in
    record {
      few = omega (arith, size.0, size.1);
      inside = omega (arith, size.0, size.1);
      byte =
          ap (λ k. get_or m.prg k 0) (omega arith)
          ∙ (sym (low-byte m.prg m.bank at below) ∙ sym (uxrom-byte m at h.mapper));
    }

uxrom-high-place : (m : Banks) (at : ℕ) → IsUxrom m → 0xC000 ≤ at → at < 0x10000
    → IsPlace m (length m.prg - 16384) 0xC000 at
uxrom-high-place m at h from below =
    let size = uxrom-size m.prg h.prg in
    record {
      few = omega (arith, size.1);
      inside = omega (arith, uxrom-least m.prg h.prg);
      byte =
          ap (λ k. get_or m.prg k 0) (omega arith)
          ∙ (sym (high-byte m.prg m.bank at from) ∙ sym (uxrom-byte m at h.mapper));
    }

-- what a read by a kept number needs and gives
pub record IsSeen (m : Banks) (kept at : ℕ) : Type 0 where
  pub few : kept ≤ 294912
  pub above : 65536 ≤ kept + at
  pub inside : kept + at - 65536 < length m.prg
  pub byte : get_or m.prg (kept + at - 65536) 0 ≡ prg_byte m at

seen : (m : Banks) (kept start base at : ℕ) → IsPlace m start base at → kept + base ≡ start + 65536 → kept ≤ 294912
    → base ≤ at → IsSeen m kept at
seen m kept start base at place same few from =
    record {
      few = few;
      above = omega arith;
      inside = omega (arith, place.inside);
      byte = ap (λ k. get_or m.prg k 0) (omega arith) ∙ place.byte;
    }

-- the windows of every board
pub low-seen : (m : Banks) (low high pattern at : ℕ) → IsWindowed m low high pattern → 0x8000 ≤ at → at < 0xC000
    → IsSeen m low at
low-seen m low high pattern at is from below =
    let place = go is.fits.board in
    seen m low (low_of m) 0x8000 at place (omega (arith, is.low_is)) (omega (arith, is.low_is, place.few)) from
  where
    go : IsNrom m ⊎ (IsUxrom m ⊎ IsCnrom m) → IsPlace m (low_of m) 0x8000 at
    go (inl h) = fixed-low-place m 0 at h.mapper refl h.prg from below
    go (inr (inl h)) = uxrom-low-place m at h is.fits.bank from below
    go (inr (inr h)) = fixed-low-place m 3 at h.mapper refl h.prg from below

pub high-seen : (m : Banks) (low high pattern at : ℕ) → IsWindowed m low high pattern → 0xC000 ≤ at → at < 0x10000
    → IsSeen m high at
high-seen m low high pattern at is from below =
    let place = go is.fits.board in
    let size = least is.fits.board in
    seen m high (length m.prg - 16384) 0xC000 at place (omega (arith, is.high_is, size))
    (omega (arith, is.high_is, place.few)) from
  where
    go : IsNrom m ⊎ (IsUxrom m ⊎ IsCnrom m) → IsPlace m (length m.prg - 16384) 0xC000 at
    go (inl h) = fixed-high-place m 0 at h.mapper refl h.prg from below
    go (inr (inl h)) = uxrom-high-place m at h from below
    go (inr (inr h)) = fixed-high-place m 3 at h.mapper refl h.prg from below

    least : IsNrom m ⊎ (IsUxrom m ⊎ IsCnrom m) → 16384 ≤ length m.prg
    least (inl h) = (fixed-size m.prg h.prg).0
    least (inr (inl h)) = omega (arith, uxrom-least m.prg h.prg)
    least (inr (inr h)) = (fixed-size m.prg h.prg).0

-- and each by the address
pub window-seen : (m : Banks) (windows : List ℕ) (pattern at : ℕ)
    → IsWindowed m (slice_index windows 0) (slice_index windows 1) pattern →
    0x8000 ≤ at → at < 0x10000 → IsSeen m (slice_index windows (at / 0x4000 - 2)) at
window-seen m windows pattern at is from below = go (nat_lt at 0xC000) refl
  where
    go : (b : Bool) → nat_lt at 0xC000 ≡ b → IsSeen m (slice_index windows (at / 0x4000 - 2)) at
    go true e =
        let low : at < 0xC000 = grind (arith, nat_tests, e) in
        let place : 0 ≡ at / 0x4000 - 2 = omega (arith, low, from) in
        subst (λ i. IsSeen m (slice_index windows i) at) place (low-seen m _ _ pattern at is from low)
    go false e =
        let high : 0xC000 ≤ at = grind (arith, nat_tests, e) in
        let place : 1 ≡ at / 0x4000 - 2 = omega (arith, high, below) in
        subst (λ i. IsSeen m (slice_index windows i) at) place (high-seen m _ _ pattern at is high below)

-- a piece of a memory is as long as its places are apart
length-piece : (memory : List ℕ) (from to size : ℕ) → to ≤ length memory → from + size ≡ to
    → length (slice_range memory from to) ≡ size
length-piece memory from to size fits ends = grind (arith, length-drop {A = ℕ}, length-take {A = ℕ})

-- the picture's window
pub record IsView (m : Banks) (start : ℕ) : Type 0 where
  pub inside : start + 8192 ≤ length m.chr
  pub few : start ≤ 32768
  pub bytes : slice_range m.chr start (start + 8192) ≡ pattern_of m

pub whole-pattern : (m : Banks) (n : ℕ) → m.mapper ≡ n → (n == 3) ≡ false → pattern_of m ≡ m.chr
unfolding pattern_of
whole-pattern m n is other = rw (is, other) refl

pub bank-pattern : (m : Banks) → m.mapper ≡ 3 → pattern_of m ≡ bank_of 8192 m.chr m.bank
unfolding pattern_of
bank-pattern m is = rw is refl

pub view-zero : (m : Banks) (n : ℕ) → m.mapper ≡ n → (n == 3) ≡ false → pattern_at m ≡ 0
view-zero m n is other = rw (is, other) refl

pub view-bank : (m : Banks) → m.mapper ≡ 3 → pattern_at m ≡ 8192 * m.bank
view-bank m is = rw is refl

whole-view : (m : Banks) (n : ℕ) → m.mapper ≡ n → (n == 3) ≡ false → length m.chr ≡ 8192 → IsView m (pattern_at m)
whole-view m n is other size =
    let zero : pattern_at m ≡ 0 = view-zero m n is other in
    record {
      inside = omega arith;
      few = omega arith;
      bytes =
          ap (λ k. slice_range m.chr k (k + 8192)) zero
          ∙ (take_all 8192 m.chr (omega arith) ∙ sym (whole-pattern m n is other));
    }

cnrom-view : (m : Banks) → IsCnrom m → m.bank < bank_count m → IsView m (pattern_at m)
cnrom-view m h bank =
    let start : pattern_at m ≡ 8192 * m.bank = view-bank m h.mapper in
    let few : m.bank < length m.chr / 8192 = subst (λ n. m.bank < n) (cnrom-count m h.mapper) bank in
    let size = cnrom-size m.chr h.chr in
    record {
      inside = omega (arith, size.0, size.1);
      few = omega (arith, size.0, size.1);
      bytes = ap (λ k. slice_range m.chr k (k + 8192)) start ∙ sym (bank-pattern m h.mapper);
    }

pub pattern-view : (m : Banks) (low high pattern : ℕ) → IsWindowed m low high pattern → IsView m pattern
pattern-view m low high pattern is = subst (IsView m) (sym is.pattern_is) (go is.fits.board)
  where
    go : IsNrom m ⊎ (IsUxrom m ⊎ IsCnrom m) → IsView m (pattern_at m)
    go (inl h) = whole-view m 0 h.mapper refl h.chr
    go (inr (inl h)) = whole-view m 2 h.mapper refl h.chr
    go (inr (inr h)) = cnrom-view m h is.fits.bank

-- where pattern memory is RAM the picture sees all of it
pub ram-pattern : (m : Banks) → IsBanks m → m.chr_ram ≡ true → (pattern_of m ≡ m.chr) × (length m.chr ≡ 8192)
ram-pattern m fits ram = go fits.board
  where
    go : IsNrom m ⊎ (IsUxrom m ⊎ IsCnrom m) → (pattern_of m ≡ m.chr) × (length m.chr ≡ 8192)
    go (inl h) = (whole-pattern m 0 h.mapper refl, h.chr)
    go (inr (inl h)) = (whole-pattern m 2 h.mapper refl, h.chr)
    go (inr (inr h)) = absurd (cc (h.rom, ram))

-- there are one to 16 banks
pub some_banks : (m : Banks) → IsBanks m → (0 < bank_count m) × (bank_count m ≤ 16)
some_banks m fits = (omega (arith, fits.bank), most fits.board)
  where
    most : IsNrom m ⊎ (IsUxrom m ⊎ IsCnrom m) → bank_count m ≤ 16
    most (inl h) = omega (arith, nrom-count m h.mapper)
    most (inr (inl h)) = omega (arith, uxrom-count m h.mapper, (uxrom-size m.prg h.prg).0, (uxrom-size m.prg h.prg).1)
    most (inr (inr h)) = omega (arith, cnrom-count m h.mapper, (cnrom-size m.chr h.chr).0, (cnrom-size m.chr h.chr).1)
