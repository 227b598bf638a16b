-- Turn after turn.
use Rattle.std.proofs.Common.{◌≡◌, ℕ, zero, suc, ◌+◌, ◌*◌, ◌≤◌, Bool, false, true≢false, List, Option, inl, inr, refl, sym, ap, ◌∙◌, subst, arith}
use Rattle.std.proofs.lemmas.Bool.{cases_lt}
use Rattle.std.proofs.Math.Nat.{suc-mul}
use Rattle.nj_banked.specs.Banks.{Banks}
use Rattle.nj_isa.specs.Bus.{Acts}
use Rattle.nj_cpu.specs.declared.state.Cpu.{Cpu}
use Rattle.nj_cpu.specs.declared.state.UnitEnd.TheVariants.{Done}
use Rattle.nj_cpu.specs.Unit.{unit_of}
use Rattle.nj_turns.specs.Dry.{Dry, begun, dry}
use Rattle.nj_turns.specs.Turn.{Leads, IsDry, IsTurn, Rests, IsPlace, Turns}
use Rattle.nj_turns.proofs.Past.{IsPast, Lost, Late, runs, unit-past}
use Rattle.nj_turns.proofs.Alike.{Fits, placed, unit_onto, unit-goes}

-- units after units
pub leads-then : {Held : Type 0} (acts : Acts Held) (In : Held → Type 0) (m n : ℕ) (a b c : Cpu) (h k l : Held) →
    Leads acts In m a h b k → Leads acts In n b k c l → Leads acts In (n + m) a h c l
leads-then acts In m zero a b c h k l p q =
    let none : m ≡ zero + m = omega arith in
    subst (λ i. Leads acts In i a h c l) none
    (subst (λ x. Leads acts In m a h c x) (sym q.held_is) (subst (λ x. Leads acts In m a h x k) (sym q.cpu_is) p))
leads-then acts In m (suc n) a b c h k l p q =
    let next : suc (n + m) ≡ suc n + m = omega arith in
    let more : Leads acts In (suc (n + m)) a h c l =
    record {
      cpu = q.cpu;
      held = q.held;
      before = leads-then acts In m n a b q.cpu h k q.held p q.before;
      unit = q.unit;
      stays = q.stays;
    } in
    subst (λ i. Leads acts In i a h c l) next more

module _ {Held : Type 0} (acts : Acts Held) (place : ℕ → ℕ
    → Held) (ram : List ℕ) (board : Banks) (status : Option ℕ) (line : Bool) (limit : ℕ)
    (rests : Rests acts place ram board status line limit) where
  -- a dry bus within the rest, a number of cycles further
  abbrev At : ℕ → Dry → Type 0
  At offset h = Fits acts place ram board status line limit offset rests h

  abbrev there : ℕ → Dry → Held
  there offset h = placed acts place ram board status line limit offset rests h

  -- what dry units that end within the rest do, the other bus does
  record Led (offset n : ℕ) (cpu : Cpu) (h : Dry) (last : Cpu) (kept : Dry) : Type 0 where
    fits : At offset kept
    run : Leads acts (IsPlace place limit) n cpu (there offset h) last (there offset kept)

  not-past : (offset : ℕ) (h : Dry) → IsDry h → offset + h.cycles ≤ limit → IsPast limit offset h → ⊥
  not-past offset h d e (Lost lost) = absurd (true≢false (sym lost ∙ d.kept))
  not-past offset h d e (Late late) = absurd (omega (arith, late, e))

  -- dry so far, and no more cycles than these
  led-step : (offset n : ℕ) (cpu : Cpu) (h : Dry) (c : Cpu) (k : Dry) (last : Cpu) (kept : Dry)
      → unit_of dry c k ≡ record { cpu = last; held = kept; end_ = Done } → IsDry kept →
      offset + kept.cycles ≤ limit → Led offset n cpu h c k → Led offset (suc n) cpu h last kept
  led-step offset n cpu h c k last kept unit d e before =
      elim (unit-goes acts place ram board status line limit offset rests c k before.fits) [
        | inl past ↦ absurd (not-past offset kept d e (subst (IsPast limit offset) (ap (λ u. u.held) unit) past))
        | inr tied ↦ (
            let fits : At offset kept = subst (At offset) (ap (λ u. u.held) unit) tied.fits in
            record {
              fits = fits;
              run = record {
                cpu = c;
                held = there offset k;
                before = before.run;
                unit = tied.same ∙ ap (unit_onto acts place ram board status line limit offset rests) unit;
                stays = record {
                  after_cycles = offset + kept.cycles;
                  last = kept.bus_byte;
                  within = fits.within;
                  at_ = refl;
                };
              };
            })
      ]

  -- a unit's end is within the rest where the next one's is
  within-before : (offset : ℕ) (c : Cpu) (k : Dry) (last : Cpu) (kept : Dry)
      → unit_of dry c k ≡ record { cpu = last; held = kept; end_ = Done } → IsDry kept →
      offset + kept.cycles ≤ limit → offset + k.cycles ≤ limit
  within-before offset c k last kept unit d e = elim (cases_lt limit (offset + k.cycles)) [
    | inl late ↦ (
        let running : c.jammed ≡ false = runs c.jammed c k refl (ap (λ u. u.end_) unit) in
        absurd (not-past offset kept d e
        (subst (IsPast limit offset) (ap (λ u. u.held) unit) (unit-past limit offset c k running (Late late)))))
    | inr within ↦ within
  ]

  -- units one after another
  led : (offset n : ℕ) (cpu : Cpu) (h : Dry) (last : Cpu) (kept : Dry) → At offset h → Leads dry IsDry n cpu h last kept
      → offset + kept.cycles ≤ limit → Led offset n cpu h last kept
  led offset zero cpu h last kept fits run e = record {
    fits = subst (At offset) (sym run.held_is) fits;
    run = record { cpu_is = run.cpu_is; held_is = ap (there offset) run.held_is };
  }
  led offset (suc n) cpu h last kept fits run e =
      led-step offset n cpu h run.cpu run.held last kept run.unit run.stays e
      (led offset n cpu h run.cpu run.held fits run.before
      (within-before offset run.cpu run.held last kept run.unit run.stays e))

  -- one turn, from any place from which it ends within the rest
  turn-from : (cpu : Cpu) (last cycles offset : ℕ) (turn : IsTurn cpu (begun ram board status line last) cycles)
      → offset + cycles ≤ limit →
      Leads acts (IsPlace place limit) turn.units cpu (place offset last) cpu (place (offset + cycles) last)
  turn-from cpu last cycles offset turn e =
      let h : Dry = begun ram board status line last in
      let start : At offset h =
      record { ram_is = refl; board_is = refl; status_is = refl; line_is = refl; within = omega (arith, e) } in
      let same : offset + 0 ≡ offset = omega arith in
      let done : Led offset turn.units cpu h cpu (record h { cycles = cycles }) =
      led offset turn.units cpu h cpu (record h { cycles = cycles }) start turn.run e in
      subst (λ o. Leads acts (IsPlace place limit) turn.units cpu (place o last) cpu (place (offset + cycles) last))
      same done.run

  -- turns one after another
  pub turns : (cpu : Cpu) (last cycles n : ℕ) → IsTurn cpu (begun ram board status line last) cycles
      → n * cycles ≤ limit → Turns acts place limit cpu last (n * cycles)
  turns cpu last cycles zero turn e = let none : zero * cycles ≡ 0 =
      omega arith in record { units = 0; run = record { cpu_is = refl; held_is = ap (λ c. place c last) none } }
  turns cpu last cycles (suc n) turn e =
      let more : n * cycles + cycles ≡ suc n * cycles = sym (suc-mul n cycles) in
      let before : Turns acts place limit cpu last (n * cycles) =
      turns cpu last cycles n turn (omega (arith, e, more)) in
      let next : Leads acts (IsPlace place limit) turn.units cpu (place (n * cycles) last) cpu
      (place (n * cycles + cycles) last) = turn-from cpu last cycles (n * cycles) turn (omega (arith, e, more)) in
      record {
        units = turn.units + before.units;
        run =
            subst (λ c. Leads acts (IsPlace place limit) (turn.units + before.units) cpu (place 0 last) cpu
            (place c last)) more
            (leads-then acts (IsPlace place limit) before.units turn.units cpu cpu cpu (place 0 last)
            (place (n * cycles) last) (place (n * cycles + cycles) last) before.run next);
      }
