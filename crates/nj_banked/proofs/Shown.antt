-- What a board shows after calls, and that NROM is the board with one bank.
use Rattle.std.proofs.Common.{◌≡◌, ◌⊎◌, inl, inr, ℕ, ◌+◌, ◌-◌, ◌*◌, ◌/◌, ◌<◌, ◌≤◌, Bool, true, false, cond, List, [], ◌∷◌, ◌++◌, length, drop, get_or, Some, None, refl, sym, ap, subst, ◌∙◌, arith}
use Rattle.std.specs.Prelude.{nat_le, slice_range, slice_index}
use Rattle.std.proofs.lemmas.List.{get_or-take, get_or-drop}
use Rattle.std.proofs.lemmas.Bool.{cond-true, le-leb}
use Rattle.nj_board.specs.Nrom.{byte_at as nrom_byte, put_at as nrom_put}
use Rattle.nj_banked.specs.Banks.{Banks, bank_count, memory_in, IsNrom, IsUxrom, IsCnrom, IsBanks}
use Rattle.nj_banked.specs.Banked.{prg_byte, byte_at, written, chosen_by, pattern_of, put_at, with_bank}
use Rattle.nj_banked.specs.Calls.{Call, Writes, after_call, after_calls, AreCalls, ShowsUxrom, ShowsCnrom}
use Rattle.nj_banked.proofs.Fits.{nrom-count, uxrom-count, cnrom-count, uxrom-size, uxrom-least, fixed-byte, uxrom-byte, low-byte, high-byte, whole-pattern, bank-pattern}
use Rattle.nj_banked.proofs.AfterCalls.{calls-stay}

-- a byte of a piece of a memory
piece-byte : (memory : List ℕ) (from size n : ℕ) → n < size
    → get_or memory (from + n) 0 ≡ slice_index (slice_range memory from (from + size)) n
piece-byte memory from size n below =
    sym (get_or-take (from + size - from) (drop from memory) n 0 (omega arith) ∙ get_or-drop from memory n 0)

-- the mapper tells which board it is
is-uxrom : (m : Banks) → m.mapper ≡ 2 → IsNrom m ⊎ (IsUxrom m ⊎ IsCnrom m) → IsUxrom m
is-uxrom m two (inl h) = absurd (omega (arith, two, h.mapper))
is-uxrom m two (inr (inl h)) = h
is-uxrom m two (inr (inr h)) = absurd (omega (arith, two, h.mapper))

is-cnrom : (m : Banks) → m.mapper ≡ 3 → IsNrom m ⊎ (IsUxrom m ⊎ IsCnrom m) → IsCnrom m
is-cnrom m three (inl h) = absurd (omega (arith, three, h.mapper))
is-cnrom m three (inr (inl h)) = absurd (omega (arith, three, h.mapper))
is-cnrom m three (inr (inr h)) = h

-- from $8000 on something is mapped
mapped : (m : Banks) (at : ℕ) → 0x8000 ≤ at → byte_at m at ≡ Some (prg_byte m at)
unfolding byte_at
mapped m at from = cond-true _ _ _ (le-leb 0x8000 at from)

uxrom-shows : (m : Banks) → IsUxrom m → m.bank < bank_count m → ShowsUxrom m.prg m
uxrom-shows m h bank =
    let size = uxrom-size m.prg h.prg in
    record {
      low = λ n below.
          mapped m (0x8000 + n) (omega arith)
          ∙ ap Some (uxrom-byte m (0x8000 + n) h.mapper
          ∙ (low-byte m.prg m.bank (0x8000 + n) (omega arith)
          ∙ (ap (λ k. get_or m.prg k 0) (omega arith) ∙ piece-byte m.prg (16384 * m.bank) 16384 n below)));
      high = λ n below.
          mapped m (0xC000 + n) (omega arith)
          ∙ ap Some (uxrom-byte m (0xC000 + n) h.mapper
          ∙ (high-byte m.prg m.bank (0xC000 + n) (omega arith)
          ∙ (ap (λ k. get_or m.prg k 0) (omega (arith, size.0, uxrom-least m.prg h.prg))
          ∙ piece-byte m.prg (16384 * (length m.prg / 16384 - 1)) 16384 n below)));
      bank = subst (λ n. m.bank < n) (uxrom-count m h.mapper) bank;
    }

cnrom-shows : (m : Banks) → IsCnrom m → m.bank < bank_count m → ShowsCnrom m.prg m.chr m
cnrom-shows m h bank =
    record {
      program = λ n below. mapped m (0x8000 + n) (omega arith) ∙ ap Some (fixed-byte m (0x8000 + n) 3 h.mapper refl);
      pattern = bank-pattern m h.mapper;
      bank = subst (λ n. m.bank < n) (cnrom-count m h.mapper) bank;
    }

pub uxrom-after : (m : Banks) (calls : List Call) → IsBanks m → m.mapper ≡ 2 → AreCalls (bank_count m) calls
    → ShowsUxrom m.prg (after_calls calls m)
uxrom-after m calls fits two are =
    let stay = calls-stay m calls fits are in
    let now : Banks = after_calls calls m in
    subst (λ prg. ShowsUxrom prg now) stay.0.prg
    (uxrom-shows now (is-uxrom now (stay.0.mapper ∙ two) stay.1.board) stay.1.bank)

pub cnrom-after : (m : Banks) (calls : List Call) → IsBanks m → m.mapper ≡ 3 → AreCalls (bank_count m) calls
    → ShowsCnrom m.prg m.chr (after_calls calls m)
cnrom-after m calls fits three are =
    let stay = calls-stay m calls fits are in
    let now : Banks = after_calls calls m in
    let rom = stay.0.rom (is-cnrom m three fits.board).rom in
    subst (λ prg. ShowsCnrom prg m.chr now) stay.0.prg
    (subst (λ chr. ShowsCnrom now.prg chr now) rom
    (cnrom-shows now (is-cnrom now (stay.0.mapper ∙ three) stay.1.board) stay.1.bank))

-- the last write from $8000 on chooses the bank
written-bank : (m : Banks) (at value : ℕ) → 0x8000 ≤ at → (written m at value).bank ≡ chosen_by m at value
unfolding written
written-bank m at value from = ap (λ (n : Banks). n.bank) (cond-true _ _ _ (le-leb 0x8000 at from))

pub last-chosen : (m : Banks) (calls : List Call) (at value : ℕ) → 0x8000 ≤ at →
    (after_calls (calls ++ Writes at value ∷ []) m).bank ≡ chosen_by (after_calls calls m) at value
last-chosen m [] at value from = written-bank m at value from
last-chosen m (call ∷ calls) at value from = last-chosen (after_call call m) calls at value from

-- NROM is the board with one bank
pub one-byte : (m : Banks) (at : ℕ) → m.mapper ≡ 0 → byte_at m at ≡ nrom_byte (memory_in m) at
unfolding byte_at nrom_byte
one-byte m at zero = ap (λ byte. cond (nat_le 0x8000 at) (Some byte) None) (fixed-byte m at 0 zero refl)

pub one-written : (m : Banks) (at value : ℕ) → IsBanks m → m.mapper ≡ 0 → written m at value ≡ m
unfolding written chosen_by
one-written m at value fits zero = by (nat_le 0x8000 at) (omega (arith, nrom-count m zero, fits.bank))
  where
    by : (b : Bool) {bank : ℕ} → bank ≡ m.bank → cond b (with_bank m bank) m ≡ m
    by true e = ap (with_bank m) e
    by false e = refl

pub one-pattern : (m : Banks) → m.mapper ≡ 0 → pattern_of m ≡ m.chr
one-pattern m zero = whole-pattern m 0 zero refl

pub one-put : (m : Banks) (at value : ℕ) → memory_in (put_at m at value) ≡ nrom_put (memory_in m) at value
unfolding put_at nrom_put
one-put m at value = by m.chr_ram _ _
  where
    by : (b : Bool) (one two : Banks) → memory_in (cond b one two) ≡ cond b (memory_in one) (memory_in two)
    by true one two = refl
    by false one two = refl
