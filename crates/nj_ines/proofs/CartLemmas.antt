-- Lemmas on the cartridge that a file holds.
use Rattle.std.proofs.Common.{ℕ, ◌≡◌, ◌⊎◌, inl, inr, ◌≤◌, ◌+◌, ◌*◌, ◌==◌, ◌||◌, Bool, true, false, cond, List, length, refl, sym, ap, ◌∙◌, subst, arith, length-drop, length-take}
use Rattle.std.specs.Prelude.{replicate, slice_range, slice_index}
use Rattle.std.specs.Int.{bit_at}
use Rattle.std.proofs.lemmas.Bool.{eqb-true, cond-true}
use Rattle.nj_ines.specs.Cartridge.{IsNrom, IsUxrom, IsCnrom, IsCartridge}
use Rattle.nj_ines.specs.Header.{mapper_of, chr_units_of, prg_units_of, prg_end}
use Rattle.nj_ines.specs.Reading.{is_board, has_prg, has_chr, contents_of, IsReadable}

-- a piece of the file is as long as its places are apart
length-piece : (file : List ℕ) (from to size : ℕ) → to ≤ length file → from + size ≡ to
    → length (slice_range file from to) ≡ size
length-piece file from to size fits ends = grind (arith, length-drop {A = ℕ}, length-take {A = ℕ})

-- a test of two or more values tells the last or the others
last-of : (rest : Bool) (a n : ℕ) → (rest || a == n) ≡ true → (rest ≡ true) ⊎ (a ≡ n)
last-of true a n is = inl refl
last-of false a n is = inr (eqb-true a n is)

two-of : (a m n : ℕ) → (a == m || a == n) ≡ true → (a ≡ m) ⊎ (a ≡ n)
two-of a m n is = elim (last-of (a == m) a n is) [ inl h ↦ inl (eqb-true a m h) | inr e ↦ inr e ]

three-of : (a m n o : ℕ) → (a == m || a == n || a == o) ≡ true → (a ≡ m) ⊎ ((a ≡ n) ⊎ (a ≡ o))
three-of a m n o is =
    elim (last-of (a == m || a == n) a o is) [
      | inl h ↦ elim (two-of a m n h) [ inl e ↦ inl e | inr e ↦ inr (inl e) ]
      | inr e ↦ inr (inr e)
    ]

four-of : (a m n o p : ℕ) → (a == m || a == n || a == o || a == p) ≡ true → (a ≡ m) ⊎ ((a ≡ n) ⊎ ((a ≡ o) ⊎ (a ≡ p)))
four-of a m n o p is =
    elim (last-of (a == m || a == n || a == o) a p is) [
      | inl h ↦ elim (three-of a m n o h) [
        | inl e ↦ inl e
        | inr other ↦ elim other [ inl e ↦ inr (inl e) | inr e ↦ inr (inr (inl e)) ]
      ]
      | inr e ↦ inr (inr (inr e))
    ]

boards : (n : ℕ) → is_board n ≡ true → (n ≡ 0) ⊎ ((n ≡ 2) ⊎ (n ≡ 3))
unfolding is_board
boards n is = three-of n 0 2 3 is

-- NROM and CNROM have 1 or 2 units of program memory, UxROM has 2, 4, 8 or 16
few-prg : (mapper n : ℕ) → (mapper == 2) ≡ false → has_prg mapper n ≡ true → (n ≡ 1) ⊎ (n ≡ 2)
unfolding has_prg
few-prg mapper n other is = two-of n 1 2 (rw other at is)

many-prg : (n : ℕ) → has_prg 2 n ≡ true → (n ≡ 2) ⊎ ((n ≡ 4) ⊎ ((n ≡ 8) ⊎ (n ≡ 16)))
unfolding has_prg
many-prg n is = four-of n 2 4 8 16 is

-- NROM and UxROM have at most 1 unit of pattern ROM, CNROM has 1, 2 or 4
few-chr : (mapper n : ℕ) → (mapper == 3) ≡ false → has_chr mapper n ≡ true → (n ≡ 0) ⊎ (n ≡ 1)
unfolding has_chr
few-chr mapper n other is = two-of n 0 1 (rw other at is)

many-chr : (n : ℕ) → has_chr 3 n ≡ true → (n ≡ 1) ⊎ ((n ≡ 2) ⊎ (n ≡ 4))
unfolding has_chr
many-chr n is = three-of n 1 2 4 is

-- the program memory has whole units
length-prg : (file : List ℕ) → IsReadable file → length (slice_range file 16 (prg_end file)) ≡ 16384 * prg_units_of file
length-prg file readable =
    length-piece file 16 (prg_end file) (16384 * prg_units_of file) (omega (arith, readable.whole)) refl

-- pattern RAM has 8 KiB, pattern ROM whole units
length-ram : (file : List ℕ) → IsReadable file → chr_units_of file ≡ 0 → length (contents_of file).chr ≡ 8192
unfolding contents_of
length-ram file readable none = rw none refl

length-rom : (file : List ℕ) (n : ℕ) → IsReadable file → chr_units_of file ≡ n → (n == 0) ≡ false
    → length (contents_of file).chr ≡ 8192 * n
unfolding contents_of
length-rom file n readable is some =
    ap length (ap (λ b. cond b (replicate 8192 0)
    (slice_range file (prg_end file) (prg_end file + 8192 * chr_units_of file))) (ap (λ k. k == 0) is ∙ some))
    ∙ (length-piece file (prg_end file) (prg_end file + 8192 * chr_units_of file) (8192 * chr_units_of file)
    (omega (arith, readable.whole)) refl
    ∙ ap (λ k. 8192 * k) is)

few-chr-size : (file : List ℕ) → IsReadable file → (chr_units_of file ≡ 0) ⊎ (chr_units_of file ≡ 1)
    → length (contents_of file).chr ≡ 8192
few-chr-size file readable (inl none) = length-ram file readable none
few-chr-size file readable (inr one) = length-rom file 1 readable one refl

few-prg-size : (prg : List ℕ) (n : ℕ) → length prg ≡ 16384 * n → (n ≡ 1) ⊎ (n ≡ 2)
    → (length prg ≡ 16384) ⊎ (length prg ≡ 32768)
few-prg-size prg n size (inl one) = inl (omega arith)
few-prg-size prg n size (inr two) = inr (omega arith)

many-prg-size : (prg : List ℕ) (n : ℕ) → length prg ≡ 16384 * n → (n ≡ 2) ⊎ ((n ≡ 4) ⊎ ((n ≡ 8) ⊎ (n ≡ 16))) →
    (length prg ≡ 32768) ⊎ ((length prg ≡ 65536) ⊎ ((length prg ≡ 131072) ⊎ (length prg ≡ 262144)))
many-prg-size prg n size (inl e) = inl (omega arith)
many-prg-size prg n size (inr (inl e)) = inr (inl (omega arith))
many-prg-size prg n size (inr (inr (inl e))) = inr (inr (inl (omega arith)))
many-prg-size prg n size (inr (inr (inr e))) = inr (inr (inr (omega arith)))

many-chr-size : (file : List ℕ) → IsReadable file →
    (chr_units_of file ≡ 1) ⊎ ((chr_units_of file ≡ 2) ⊎ (chr_units_of file ≡ 4)) →
    (length (contents_of file).chr ≡ 8192)
    ⊎ ((length (contents_of file).chr ≡ 16384) ⊎ (length (contents_of file).chr ≡ 32768))
many-chr-size file readable (inl e) = inl (length-rom file 1 readable e refl)
many-chr-size file readable (inr (inl e)) = inr (inl (length-rom file 2 readable e refl))
many-chr-size file readable (inr (inr e)) = inr (inr (length-rom file 4 readable e refl))

some-chr : (n : ℕ) → (n ≡ 1) ⊎ ((n ≡ 2) ⊎ (n ≡ 4)) → (n == 0) ≡ false
some-chr n (inl e) = ap (λ k. k == 0) e
some-chr n (inr (inl e)) = ap (λ k. k == 0) e
some-chr n (inr (inr e)) = ap (λ k. k == 0) e

-- the cartridge of each board
nrom-of : (file : List ℕ) → IsReadable file → mapper_of file ≡ 0 → IsNrom (contents_of file)
unfolding contents_of
nrom-of file readable is =
    record {
      mapper = is;
      prg = few-prg-size _ (prg_units_of file) (length-prg file readable)
          (few-prg (mapper_of file) (prg_units_of file) (ap (λ k. k == 2) is) readable.prg);
      chr =
          few-chr-size file readable (few-chr (mapper_of file) (chr_units_of file) (ap (λ k. k == 3) is) readable.chr);
    }

uxrom-of : (file : List ℕ) → IsReadable file → mapper_of file ≡ 2 → IsUxrom (contents_of file)
unfolding contents_of
uxrom-of file readable is =
    record {
      mapper = is;
      prg = many-prg-size _ (prg_units_of file) (length-prg file readable)
          (many-prg (prg_units_of file) (subst (λ n. has_prg n (prg_units_of file) ≡ true) is readable.prg));
      chr =
          few-chr-size file readable (few-chr (mapper_of file) (chr_units_of file) (ap (λ k. k == 3) is) readable.chr);
    }

cnrom-of : (file : List ℕ) → IsReadable file → mapper_of file ≡ 3 → IsCnrom (contents_of file)
unfolding contents_of
cnrom-of file readable is =
    let units = many-chr (chr_units_of file) (subst (λ n. has_chr n (chr_units_of file) ≡ true) is readable.chr) in
    record {
      mapper = is;
      prg = few-prg-size _ (prg_units_of file) (length-prg file readable)
          (few-prg (mapper_of file) (prg_units_of file) (ap (λ k. k == 2) is) readable.prg);
      chr = many-chr-size file readable units;
      rom = some-chr (chr_units_of file) units;
    }

ram-zeros : (file : List ℕ) → (chr_units_of file == 0) ≡ true → (contents_of file).chr ≡ replicate 8192 0
unfolding contents_of
ram-zeros file ram = cond-true _ _ _ ram

ram-is : (file : List ℕ) → (contents_of file).chr_ram ≡ (chr_units_of file == 0)
unfolding contents_of
ram-is file = refl

-- what a file of which nothing is refused holds is a cartridge of one of the boards
IsCartridge-contents_of : (file : List ℕ) → IsReadable file → IsCartridge (contents_of file)
IsCartridge-contents_of file readable =
    record {
      board = go (boards (mapper_of file) readable.board);
      ram_zeros = λ ram. ram-zeros file (sym (ram-is file) ∙ ram);
    }
  where
    go : (mapper_of file ≡ 0) ⊎ ((mapper_of file ≡ 2) ⊎ (mapper_of file ≡ 3)) →
        IsNrom (contents_of file) ⊎ (IsUxrom (contents_of file) ⊎ IsCnrom (contents_of file))
    go (inl e) = inl (nrom-of file readable e)
    go (inr (inl e)) = inr (inl (uxrom-of file readable e))
    go (inr (inr e)) = inr (inr (cnrom-of file readable e))

-- fields that were read of a file
pub record IsRead (file prg chr : List ℕ) (prg_units chr_units mapper : ℕ) (vertical : Bool) : Type 0 where
  pub readable : IsReadable file
  pub prg_units_are : prg_units ≡ prg_units_of file
  pub chr_units_are : chr_units ≡ chr_units_of file
  pub mapper_is : mapper ≡ mapper_of file
  pub prg_is : prg ≡ slice_range file 16 (16 + 16384 * prg_units)
  pub chr_is :
      chr ≡ cond (chr_units == 0) (replicate 8192 0)
      (slice_range file (16 + 16384 * prg_units) (16 + 16384 * prg_units + 8192 * chr_units))
  pub vertical_is : vertical ≡ (bit_at (slice_index file 6) 0 == 1)

-- the fields that were read of a file are those that it holds
pub contents_of-read :
    (file prg chr : List ℕ) (prg_units chr_units mapper : ℕ) (vertical : Bool) →
    IsRead file prg chr prg_units chr_units mapper vertical →
    contents_of file ≡ record { prg = prg; chr = chr; chr_ram = chr_units == 0; vertical = vertical; mapper = mapper }
unfolding contents_of
contents_of-read file prg chr prg_units chr_units mapper vertical read =
    rw (read.prg_is, read.chr_is, read.vertical_is, read.prg_units_are, read.chr_units_are, read.mapper_is) refl

-- they are a cartridge of one of the boards
pub IsCartridge-read :
    (file prg chr : List ℕ) (prg_units chr_units mapper : ℕ) (vertical : Bool) →
    IsRead file prg chr prg_units chr_units mapper vertical →
    IsCartridge (record { prg = prg; chr = chr; chr_ram = chr_units == 0; vertical = vertical; mapper = mapper })
IsCartridge-read file prg chr prg_units chr_units mapper vertical read =
    subst IsCartridge (contents_of-read file prg chr prg_units chr_units mapper vertical read)
    (IsCartridge-contents_of file read.readable)
