-- What the search for a turn has found.
use Rattle.std.proofs.Common.{◌≡◌, ℕ, suc, ◌≤◌, Bool, true, false, cond, nat_lt, Option, Some, None, refl, ap, subst, arith}
use Rattle.std.proofs.lemmas.Bool.Decides.{nat_tests}
use Rattle.nj_alu.specs.declared.flags.Flags.{Flags}
use Rattle.nj_cpu.specs.declared.state.Cpu.{Cpu}
use Rattle.nj_cpu.specs.declared.state.UnitEnd.TheVariants.{Done}
use Rattle.nj_cpu.specs.Unit.{unit_of}
use Rattle.nj_cpu.proofs.Lower.{Lower, Lowers, unit-lower}
use Rattle.nj_turns.specs.declared.dry.TheConstants.{MOST_CYCLES}
use Rattle.nj_turns.specs.Dry.{Dry, told_byte, read_of, after_read, dry}
use Rattle.nj_turns.specs.Turn.{Leads, IsDry, IsTurn}
use Rattle.nj_turns.proofs.Past.{nothing_left, runs}

-- processors with the same fields
pub same_cpu : (one other : Cpu) → one.pc ≡ other.pc → one.a ≡ other.a → one.x ≡ other.x → one.y ≡ other.y
    → one.s ≡ other.s → one.line ≡ other.line →
    one.jammed ≡ other.jammed → one.note ≡ other.note → one.flags ≡ other.flags → one ≡ other
same_cpu one other pc a x y s line jammed note flags =
    (λ i. record {
      a = a i;
      x = x i;
      y = y i;
      s = s i;
      pc = pc i;
      flags = flags i;
      note = note i;
      line = line i;
      jammed = jammed i;
    })

-- flags with the same fields
pub same_flags : (one other : Flags) → one.n ≡ other.n → one.v ≡ other.v → one.d ≡ other.d → one.i ≡ other.i
    → one.z ≡ other.z → one.c ≡ other.c → one ≡ other
same_flags one other n v d i z c = (λ k. record { n = n k; v = v k; d = d k; i = i k; z = z k; c = c k })

-- the same memories and the same line, and no more cycles than are tried
pub record Keeps (h k : Dry) : Type 0 where
  pub ram : k.ram ≡ h.ram
  pub board : k.board ≡ h.board
  pub status : k.status ≡ h.status
  pub line : k.line ≡ h.line
  pub few : k.cycles ≤ MOST_CYCLES

keeps-more : (h k : Dry) (byte : ℕ) (b : Bool) → nat_lt k.cycles MOST_CYCLES ≡ b → Keeps h k →
    Keeps h (cond b (record k { bus_byte = byte; cycles = suc k.cycles }) (record k { lost = true }))
keeps-more h k byte true below e =
    record { ram = e.ram; board = e.board; status = e.status; line = e.line; few = grind (arith, nat_tests, below) }
keeps-more h k byte false below e =
    record { ram = e.ram; board = e.board; status = e.status; line = e.line; few = e.few }

keeps-read : (h k : Dry) (byte : Option ℕ) → Keeps h k → Keeps h (read_of byte k)
keeps-read h k None e = record { ram = e.ram; board = e.board; status = e.status; line = e.line; few = e.few }
keeps-read h k (Some byte) e = keeps-more h k byte (nat_lt k.cycles MOST_CYCLES) refl e

keeps-after_read : (h k : Dry) (at : ℕ) → Keeps h k → Keeps h (after_read k at)
unfolding after_read
keeps-after_read h k at e = keeps-read h k (told_byte k.ram k.board k.status at) e

keeps-lowers : (h : Dry) → Lowers dry (Keeps h) nothing_left 0
keeps-lowers h = record {
  reads = λ k at e. record { stays = keeps-after_read h k at e; fewer = omega arith };
  writes = λ k at value e.
      record {
        stays = record { ram = e.ram; board = e.board; status = e.status; line = e.line; few = e.few };
        fewer = omega arith;
      };
  takes = λ k e. record { stays = e; fewer = omega arith };
}

unit-keeps : (h : Dry) (cpu : Cpu) (k : Dry) → cpu.jammed ≡ false → Keeps h k → Keeps h (unit_of dry cpu k).held
unit-keeps h cpu k e keeps =
    let l : Lower (Keeps h) nothing_left 0 k (unit_of dry cpu k).held =
    unit-lower dry (Keeps h) nothing_left 0 (keeps-lowers h) cpu k e keeps in l.stays

-- units so far
pub record Ran (n : ℕ) (cpu : Cpu) (h : Dry) (now : Cpu) (k : Dry) : Type 0 where
  pub run : Leads dry IsDry n cpu h now k
  pub keeps : Keeps h k

pub ran-none : (cpu : Cpu) (h : Dry) → h.cycles ≡ 0 → Ran 0 cpu h cpu h
ran-none cpu h none =
    record {
      run = record { cpu_is = refl; held_is = refl };
      keeps = record { ram = refl; board = refl; status = refl; line = refl; few = omega (arith, none) };
    }

-- and one more
pub ran-more : (n : ℕ) (cpu : Cpu) (h : Dry) (now : Cpu) (k : Dry) (next : Cpu) (after : Dry) → Ran n cpu h now k →
    unit_of dry now k ≡ record { cpu = next; held = after; end_ = Done } → IsDry after → Ran (suc n) cpu h next after
ran-more n cpu h now k next after ran unit stays =
    let running : now.jammed ≡ false = runs now.jammed now k refl (ap (λ u. u.end_) unit) in
    record {
      run = record { cpu = now; held = k; before = ran.run; unit = unit; stays = stays };
      keeps = subst (Keeps h) (ap (λ u. u.held) unit) (unit-keeps h now k running ran.keeps);
    }

-- they are a turn where they lead to the processor and the byte that they came from
pub found : (n : ℕ) (cpu : Cpu) (h : Dry) (now : Cpu) (k : Dry) → Ran n cpu h now k → now ≡ cpu
    → k.bus_byte ≡ h.bus_byte → k.lost ≡ h.lost → IsTurn cpu h k.cycles
found n cpu h now k ran back byte lost =
    let same : k ≡ record h { cycles = k.cycles } =
    (λ i. record {
      ram = ran.keeps.ram i;
      board = ran.keeps.board i;
      status = ran.keeps.status i;
      line = ran.keeps.line i;
      bus_byte = byte i;
      cycles = k.cycles;
      lost = lost i;
    }) in
    record {
      units = n;
      run = subst (λ x. Leads dry IsDry n cpu h cpu x) same (subst (λ c. Leads dry IsDry n cpu h c k) back ran.run);
    }
