-- A dry bus that is lost, or past the cycles for which another bus rests, stays so.
use Rattle.std.proofs.Common.{◌≡◌, ℕ, suc, ◌+◌, ◌<◌, Bool, true, false, true≢false, cond, nat_lt, Option, Some, None, refl, sym, ap, ◌∙◌, arith}
use Rattle.nj_cpu.specs.declared.state.Cpu.{Cpu}
use Rattle.nj_cpu.specs.declared.state.UnitEnd.TheVariants.{Done, Jammed}
use Rattle.nj_cpu.specs.Unit.{Unit, active, noted, unit_of}
use Rattle.nj_cpu.proofs.Lower.{Lower, Lowers, unit-lower}
use Rattle.nj_turns.specs.declared.dry.TheConstants.{MOST_CYCLES}
use Rattle.nj_turns.specs.Dry.{Dry, told_byte, read_of, after_read, dry}

-- it is lost, or this many cycles further another bus rests no more
pub data IsPast (limit offset : ℕ) (h : Dry) : Type 0 where
  Lost : h.lost ≡ true → IsPast limit offset h
  Late : limit < offset + h.cycles → IsPast limit offset h

-- no number falls
abbrev pub nothing_left : Dry → ℕ
nothing_left h = 0

more-past : (limit offset byte : ℕ) (h : Dry) (b : Bool) → IsPast limit offset h →
    IsPast limit offset (cond b (record h { bus_byte = byte; cycles = suc h.cycles }) (record h { lost = true }))
more-past limit offset byte h true (Lost e) = Lost e
more-past limit offset byte h true (Late e) = Late (omega (arith, e))
more-past limit offset byte h false p = Lost refl

read-past : (limit offset : ℕ) (byte : Option ℕ) (h : Dry) → IsPast limit offset h
    → IsPast limit offset (read_of byte h)
read-past limit offset None h p = Lost refl
read-past limit offset (Some byte) h p = more-past limit offset byte h (nat_lt h.cycles MOST_CYCLES) p

after_read-past : (limit offset : ℕ) (h : Dry) (at : ℕ) → IsPast limit offset h → IsPast limit offset (after_read h at)
unfolding after_read
after_read-past limit offset h at p = read-past limit offset (told_byte h.ram h.board h.status at) h p

-- each access keeps it
pub dry-lowers : (limit offset : ℕ) → Lowers dry (IsPast limit offset) nothing_left 0
dry-lowers limit offset = record {
  reads = λ h at p. record { stays = after_read-past limit offset h at p; fewer = omega arith };
  writes = λ h at value p. record { stays = Lost refl; fewer = omega arith };
  takes = λ h p. record { stays = p; fewer = omega arith };
}

-- a unit that does not jam began without a jam
jam-by : (b : Bool) (cpu : Cpu) (h : Dry) (u : Unit Dry) → b ≡ true
    → cond b (record { cpu = cpu; held = h; end_ = Jammed }) u ≡ record { cpu = cpu; held = h; end_ = Jammed }
jam-by true cpu h u e = refl
jam-by false cpu h u e = absurd (true≢false (sym e))

jams : (cpu : Cpu) (h : Dry) → cpu.jammed ≡ true → (unit_of dry cpu h).end_ ≡ Jammed
unfolding unit_of
jams cpu h e = ap (λ u. u.end_) (jam-by cpu.jammed cpu h (noted cpu.note (active dry cpu h)) e)

pub runs : (b : Bool) (cpu : Cpu) (h : Dry) → cpu.jammed ≡ b → (unit_of dry cpu h).end_ ≡ Done → cpu.jammed ≡ false
runs true cpu h e done = let clash : Jammed ≡ Done = sym (jams cpu h e) ∙ done in cc
runs false cpu h e done = e

-- and so does a unit
pub unit-past : (limit offset : ℕ) (cpu : Cpu) (h : Dry) → cpu.jammed ≡ false → IsPast limit offset h
    → IsPast limit offset (unit_of dry cpu h).held
unit-past limit offset cpu h e p =
    let l : Lower (IsPast limit offset) nothing_left 0 h (unit_of dry cpu h).held =
    unit-lower dry (IsPast limit offset) nothing_left 0 (dry-lowers limit offset) cpu h e p in
    l.stays
