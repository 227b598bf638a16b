-- What a write leaves of a board: its sizes, and what is ROM.
use Rattle.std.proofs.Common.{◌≡◌, ◌⊎◌, inl, inr, ℕ, ◌*◌, ◌/◌, ◌%◌, ◌<◌, ◌==◌, nat_le, Bool, true, false, true≢false, if◌then◌else◌, List, length, Option, Some, None, refl, sym, ap, subst, ◌∙◌, arith, slice_set, bit_and}
use Rattle.std.proofs.Math.ListN.{length-set}
use Rattle.nj_banked.specs.Banks.{Banks, bank_count, IsNrom, IsUxrom, IsCnrom, IsBanks}
use Rattle.nj_banked.specs.Banked.{prg_byte, pattern_of, chosen_by, with_bank, written, put_at}
use Rattle.nj_machine.specs.State.{rom_in}
use Rattle.nj_machine.specs.Wires.{pattern_put}

-- a board of the same cartridge, in order
pub record KeepsBoard (m e : Banks) : Type 0 where
  pub sized : IsBanks e
  pub rom : (vertical : Bool) → rom_in e vertical ≡ rom_in m vertical

-- with another pattern memory of the same size
with_chr : (m : Banks) (chr : List ℕ) → length chr ≡ length m.chr → IsBanks m → IsBanks (record m { chr = chr })
unfolding bank_count
with_chr m chr same h = record {
  board = elim h.board [
    | inl n ↦ inl (record { mapper = n.mapper; prg = n.prg; chr = same ∙ n.chr })
    | inr (inl u) ↦ inr (inl (record { mapper = u.mapper; prg = u.prg; chr = same ∙ u.chr }))
    | inr (inr c) ↦ inr (inr (record { mapper = c.mapper; prg = c.prg; chr = rw same c.chr; rom = c.rom }))
  ];
  bank = rw same h.bank;
}

-- with another bank
with_another : (m : Banks) (bank : ℕ) → bank < bank_count m → IsBanks m → IsBanks (with_bank m bank)
unfolding bank_count
with_another m bank below h = record {
  board = elim h.board [
    | inl n ↦ inl (record { mapper = n.mapper; prg = n.prg; chr = n.chr })
    | inr (inl u) ↦ inr (inl (record { mapper = u.mapper; prg = u.prg; chr = u.chr }))
    | inr (inr c) ↦ inr (inr (record { mapper = c.mapper; prg = c.prg; chr = c.chr; rom = c.rom }))
  ];
  bank = below;
}

-- a write to pattern memory
put-if : (b : Bool) (m : Banks) (at value : ℕ) → m.chr_ram ≡ b → IsBanks m
    → KeepsBoard m (if b then record m { chr = slice_set m.chr at value } else m)
put-if true m at value e h = record {
  sized = with_chr m (slice_set m.chr at value) (length-set m.chr at value) h;
  rom = λ vertical. rw e refl;
}
put-if false m at value e h = record { sized = h; rom = λ vertical. refl }

pub keeps-put : (m : Banks) (put : Option (ℕ × ℕ)) → IsBanks m → KeepsBoard m (pattern_put put m)
unfolding put_at
keeps-put m None h = record { sized = h; rom = λ vertical. refl }
keeps-put m (Some put) h = put-if m.chr_ram m put.0 put.1 refl h

-- a write to the board chooses one of its banks
chosen_below : (n bank : ℕ) → bank < n → (value : ℕ) → value % n < n
chosen_below n bank h value = omega arith

written-if : (b : Bool) (m : Banks) (at value : ℕ) → IsBanks m
    → KeepsBoard m (if b then with_bank m (chosen_by m at value) else m)
unfolding chosen_by
written-if true m at value h = record {
  sized = with_another m _ (chosen_below (bank_count m) m.bank h.bank (bit_and value (prg_byte m at))) h;
  rom = λ vertical. refl;
}
written-if false m at value h = record { sized = h; rom = λ vertical. refl }

pub keeps-written : (m : Banks) (at value : ℕ) → IsBanks m → KeepsBoard m (written m at value)
unfolding written
keeps-written m at value h = written-if (nat_le 0x8000 at) m at value h

-- pattern memory that is RAM has 8 KiB
pub ram_whole : (m : Banks) → IsBanks m → m.chr_ram ≡ true → length m.chr ≡ 8192
ram_whole m h ram =
    elim h.board [ inl n ↦ n.chr | inr (inl u) ↦ u.chr | inr (inr c) ↦ absurd (true≢false (sym ram ∙ c.rom)) ]

-- the picture then sees all of it
whole-if : (b : Bool) (m : Banks) (part : List ℕ) → (b ≡ true → ⊥) → (if b then part else m.chr) ≡ m.chr
whole-if true m part h = absurd (h refl)
whole-if false m part h = refl

cnrom_only : (m : Banks) → IsBanks m → m.chr_ram ≡ true → (m.mapper == 3) ≡ true → ⊥
cnrom_only m h ram three =
    elim h.board [
      | inl n ↦ (let clash : (0 == 3) ≡ true = ap (λ k. k == 3) (sym n.mapper) ∙ three in cc)
      | inr (inl u) ↦ (let clash : (2 == 3) ≡ true = ap (λ k. k == 3) (sym u.mapper) ∙ three in cc)
      | inr (inr c) ↦ true≢false (sym ram ∙ c.rom)
    ]

pub ram_pattern : (m : Banks) → IsBanks m → m.chr_ram ≡ true → pattern_of m ≡ m.chr
unfolding pattern_of
ram_pattern m h ram = whole-if (m.mapper == 3) m _ (cnrom_only m h ram)
