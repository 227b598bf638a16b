-- What calls leave as it was, and that a board stays one.
use Rattle.std.proofs.Common.{◌≡◌, ◌==◌, ◌⊎◌, inl, inr, ℕ, ◌+◌, ◌*◌, ◌<◌, Bool, true, false, cond, List, length, slice_index, slice_set, [], ◌∷◌, refl, sym, ap, subst, ◌∙◌, arith}
use Rattle.std.proofs.lemmas.Bool.{ne_eqb}
use Rattle.nj_board.specs.Nrom.{IsProgram}
use Rattle.nj_banked.specs.Banks.{Banks, begun, bank_count, IsNrom, IsUxrom, IsCnrom, IsBanks}
use Rattle.nj_banked.specs.Banked.{with_bank}
use Rattle.nj_banked.specs.Windows.{low_of, pattern_at, IsWindowed}
use Rattle.nj_banked.specs.Calls.{IsKept}
use Rattle.nj_banked.proofs.Fits.{nrom-count, uxrom-count, cnrom-count, uxrom-least, cnrom-least, low-zero, low-bank, view-zero, view-bank}

-- the number of banks is that of the mapper and the sizes
pub same-count : (old new : Banks) → new.prg ≡ old.prg → new.mapper ≡ old.mapper → length new.chr ≡ length old.chr
    → bank_count new ≡ bank_count old
unfolding bank_count
same-count old new prg mapper size = rw (mapper, prg, size) refl

-- a board of the same memories, mapper and sizes is one of the same kind
pub fits-kept : (old new : Banks) → IsKept old new → new.bank < bank_count old → IsBanks old → IsBanks new
fits-kept old new kept bank fits =
    record { board = go fits.board; bank = subst (λ n. new.bank < n) (sym kept.count) bank }
  where
    program : IsProgram old.prg → IsProgram new.prg
    program h = subst IsProgram (sym kept.prg) h

    go : IsNrom old ⊎ (IsUxrom old ⊎ IsCnrom old) → IsNrom new ⊎ (IsUxrom new ⊎ IsCnrom new)
    go (inl h) = inl (record { mapper = kept.mapper ∙ h.mapper; prg = program h.prg; chr = kept.chr_size ∙ h.chr })
    go (inr (inl h)) =
        inr (inl (record {
          mapper = kept.mapper ∙ h.mapper;
          prg = subst
              (λ prg. (length prg ≡ 32768) ⊎ ((length prg ≡ 65536) ⊎ ((length prg ≡ 131072) ⊎ (length prg ≡ 262144))))
              (sym kept.prg) h.prg;
          chr = kept.chr_size ∙ h.chr;
        }))
    go (inr (inr h)) =
        inr (inr (record {
          mapper = kept.mapper ∙ h.mapper;
          prg = program h.prg;
          chr = subst (λ n. (n ≡ 8192) ⊎ ((n ≡ 16384) ⊎ (n ≡ 32768))) (sym kept.chr_size) h.chr;
          rom = kept.chr_ram ∙ h.rom;
        }))

-- the choice of a bank keeps all but it
pub choice-kept : (m : Banks) (bank : ℕ) → IsKept m (with_bank m bank)
choice-kept m bank =
    record {
      prg = refl;
      mapper = refl;
      chr_ram = refl;
      rom = λ _. refl;
      chr_size = refl;
      count = same-count m (with_bank m bank) refl refl refl;
    }

-- new pattern RAM keeps all but it
pub put-kept : (m : Banks) (chr : List ℕ) → m.chr_ram ≡ true → length chr ≡ length m.chr
    → IsKept m (record m { chr = chr })
put-kept m chr ram size =
    record {
      prg = refl;
      mapper = refl;
      chr_ram = refl;
      rom = λ rom. absurd (cc (ram, rom));
      chr_size = size;
      count = same-count m (record m { chr = chr }) refl refl size;
    }

-- the windows of a board with other pattern RAM
pub put-windowed : (m : Banks) (low high pattern : ℕ) (chr : List ℕ) → IsWindowed m low high pattern → m.chr_ram ≡ true
    → length chr ≡ length m.chr →
    IsWindowed (record m { chr = chr }) low high pattern
put-windowed m low high pattern chr is ram size =
    record {
      fits = fits-kept m (record m { chr = chr }) (put-kept m chr ram size) is.fits.bank is.fits;
      low_is = is.low_is;
      high_is = is.high_is;
      pattern_is = is.pattern_is;
    }

-- a bank is chosen, and the windows stand where they are told
moved : (m : Banks) (low high pattern bank new_low new_pattern : ℕ) → IsWindowed m low high pattern
    → bank < bank_count m →
    new_low ≡ 32768 + low_of (with_bank m bank) → new_pattern ≡ pattern_at (with_bank m bank)
    → IsWindowed (with_bank m bank) new_low high new_pattern
moved m low high pattern bank new_low new_pattern is below low_is pattern_is =
    record {
      fits = fits-kept m (with_bank m bank) (choice-kept m bank) below is.fits;
      low_is = low_is;
      high_is = is.high_is;
      pattern_is = pattern_is;
    }

-- with UxROM the low window moves, with CNROM the picture's, with NROM none
pub uxrom-moved : (m : Banks) (low high pattern bank : ℕ) → IsWindowed m low high pattern → bank < bank_count m
    → m.mapper ≡ 2 →
    IsWindowed (with_bank m bank) (32768 + 16384 * bank) high pattern
uxrom-moved m low high pattern bank is below two =
    moved m low high pattern bank (32768 + 16384 * bank) pattern is below
    (ap (◌+◌ 32768) (sym (low-bank (with_bank m bank) two)))
    (is.pattern_is ∙ (view-zero m 2 two refl ∙ sym (view-zero (with_bank m bank) 2 two refl)))

pub cnrom-moved : (m : Banks) (low high pattern bank : ℕ) → IsWindowed m low high pattern → bank < bank_count m
    → m.mapper ≡ 3 →
    IsWindowed (with_bank m bank) low high (8192 * bank)
cnrom-moved m low high pattern bank is below three =
    moved m low high pattern bank low (8192 * bank) is below
    (is.low_is ∙ ap (◌+◌ 32768) (low-zero m 3 three refl ∙ sym (low-zero (with_bank m bank) 3 three refl)))
    (sym (view-bank (with_bank m bank) three))

pub none-moved : (m : Banks) (low high pattern bank : ℕ) → IsWindowed m low high pattern → bank < bank_count m
    → (m.mapper ≡ 2 → ⊥) → (m.mapper ≡ 3 → ⊥) →
    IsWindowed (with_bank m bank) low high pattern
none-moved m low high pattern bank is below two three =
    moved m low high pattern bank low pattern is below
    (is.low_is
    ∙ ap (◌+◌ 32768) (low-zero m m.mapper refl (ne_eqb _ 2 two)
    ∙ sym (low-zero (with_bank m bank) m.mapper refl (ne_eqb _ 2 two))))
    (is.pattern_is
    ∙ (view-zero m m.mapper refl (ne_eqb _ 3 three)
    ∙ sym (view-zero (with_bank m bank) m.mapper refl (ne_eqb _ 3 three))))

-- power just on, a cartridge's board shows bank 0
some-first : (m : Banks) → IsNrom m ⊎ (IsUxrom m ⊎ IsCnrom m) → 0 < bank_count m
some-first m (inl h) = omega (arith, nrom-count m h.mapper)
some-first m (inr (inl h)) = omega (arith, uxrom-count m h.mapper, uxrom-least m.prg h.prg)
some-first m (inr (inr h)) = omega (arith, cnrom-count m h.mapper, cnrom-least m.chr h.chr)

pub begun-windowed : (prg chr : List ℕ) (chr_ram : Bool) (mapper high : ℕ) →
    let m : Banks = begun prg chr chr_ram mapper in
    IsNrom m ⊎ (IsUxrom m ⊎ IsCnrom m) → high ≡ length prg → IsWindowed m 32768 high 0
begun-windowed prg chr chr_ram mapper high board high_is =
    let m : Banks = begun prg chr chr_ram mapper in
    record {
      fits = record { board = board; bank = some-first m board };
      low_is = ap (◌+◌ 32768) (none (mapper == 2));
      high_is = high_is;
      pattern_is = none (mapper == 3);
    }
  where
    none : (b : Bool) → ◌≡◌ {A = ℕ} 0 (cond b 0 0)
    none true = refl
    none false = refl

-- a new place of the first of two windows leaves the second
pub set-first : (windows : List ℕ) (n : ℕ) → length windows ≡ 2 →
    (slice_index (slice_set windows 0 n) 0 ≡ n) × (slice_index (slice_set windows 0 n) 1 ≡ slice_index windows 1)
set-first [] n e = cc
set-first (low ∷ rest) n e = (refl, refl)
