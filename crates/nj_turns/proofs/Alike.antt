-- A unit on a resting bus is the one on the dry bus, as long as the dry one is not past.
use Rattle.std.proofs.Common.{◌≡◌, ℕ, suc, ◌+◌, ◌<◌, ◌≤◌, Bool, true, false, cond, nat_lt, unwrap_or, List, [], ◌∷◌, Option, Some, None, ◌⊎◌, inl, inr, refl, sym, ap, ◌∙◌, subst, arith}
use Rattle.std.proofs.lemmas.Bool.{cases_lt}
use Rattle.nj_banked.specs.Banks.{Banks}
use Rattle.nj_isa.specs.Bus.{Acts}
use Rattle.nj_isa.specs.Accesses.{Place, AtPc, AtStack, InZero, InZeroBy, AtWord, AtWordBy, AtUncarried, AtPointer, AfterPointer, AtBranchLow, At, Transfer, Ignores, ToLow, ToHigh, ToPointer, ToPage, ToData, ToFlags, PutsStored, PutsData, PutsChanged, PutsPcHigh, PutsPcLow, PutsFlags, Move, Stay, PcUp, StackUp, StackDown, Jump, JumpPast, PointerUp, Mask, When, Always, Carried, Taken, TakenAway, Access, accesses, class_of, nmi_entry}
use Rattle.nj_isa.specs.Table.{row_of}
use Rattle.nj_isa.specs.declared.operations.Op.{Op}
use Rattle.nj_isa.specs.declared.operations.Op.TheVariants.{Nop}
use Rattle.nj_isa.specs.declared.classes.Class.{Class}
use Rattle.nj_isa.specs.declared.classes.Class.TheVariants.{ByMode, Branches, Jumps, JumpsIndirect, Calls, Returns, ReturnsFromInterrupt, Breaks, PushesA, PushesFlags, PullsA, PullsFlags, Jams}
use Rattle.nj_isa.specs.declared.table.OpRow.{OpRow}
use Rattle.nj_alu.specs.FlagByte.{flags_of_byte}
use Rattle.nj_cpu.specs.declared.state.Cpu.{Cpu}
use Rattle.nj_cpu.specs.declared.state.Note.{Note}
use Rattle.nj_cpu.specs.declared.state.Note.TheVariants.{None as NoNote, Late, Due}
use Rattle.nj_cpu.specs.declared.state.UnitEnd.TheVariants.{Jammed}
use Rattle.nj_cpu.specs.Walk.{Walk, begun, address_of, is_made, risen, read_at, transferred, moved, step, walk}
use Rattle.nj_cpu.specs.Unit.{Unit, no_rise, opened, settled, rest_by, rest_of, instruction, entered, on_note, on_page, active, noted, unit_of}
use Rattle.nj_cpu.proofs.Lower.{Lower, held-moved, held-opened, walk-lower}
use Rattle.nj_turns.specs.declared.dry.TheConstants.{MOST_CYCLES}
use Rattle.nj_turns.specs.Dry.{Dry, told_byte, read_of, after_read, dry}
use Rattle.nj_turns.specs.Turn.{Rests}
use Rattle.nj_turns.proofs.Past.{IsPast, Lost, Late, nothing_left, dry-lowers}

module _ {Held : Type 0} (acts : Acts Held) (place : ℕ → ℕ
    → Held) (ram : List ℕ) (board : Banks) (status : Option ℕ) (line : Bool) (limit offset : ℕ)
    (rests : Rests acts place ram board status line limit) where
  -- the dry bus has the memories of the other, which still rests
  pub record Fits (h : Dry) : Type 0 where
    pub ram_is : h.ram ≡ ram
    pub board_is : h.board ≡ board
    pub status_is : h.status ≡ status
    pub line_is : h.line ≡ line
    pub within : offset + h.cycles ≤ limit

  -- what the other bus holds meanwhile
  abbrev pub placed : Dry → Held
  placed h = place (offset + h.cycles) h.bus_byte

  -- the walk over the other bus
  abbrev pub onto : Walk Dry → Walk Held
  onto w = record {
    cpu = w.cpu;
    held = placed w.held;
    rises = w.rises;
    low = w.low;
    high = w.high;
    pointer = w.pointer;
    page = w.page;
    data_ = w.data_;
  }

  abbrev Past : Dry → Type 0
  Past h = IsPast limit offset h

  -- a read of both
  record SameRead (h : Dry) (at byte : ℕ) (k : Dry) : Type 0 where
    byte_is : acts.byte (placed h) at ≡ byte
    held_is : acts.after_read (placed h) at ≡ placed k
    line_is : acts.line (acts.after_read (placed h) at) ≡ k.line
    fits : Fits k

  -- the byte that the dry bus answers
  abbrev dry_byte : Dry → ℕ → ℕ
  dry_byte h at = dry.byte h at

  same-more : (h : Dry) (at byte : ℕ) (b : Bool) → Fits h → told_byte ram board status at ≡ Some byte →
      let k : Dry =
      cond b (record h { bus_byte = byte; cycles = suc h.cycles }) (record h { lost = true }) in Past k
      ⊎ SameRead h at byte k
  same-more h at byte false fits e = inl (Lost refl)
  same-more h at byte true fits e = elim (cases_lt limit (offset + suc h.cycles)) [
    | inl late ↦ inl (Late late)
    | inr within ↦ (
        let below : offset + h.cycles < limit = omega (arith, within) in
        let next : suc (offset + h.cycles) ≡ offset + suc h.cycles = omega arith in
        let after : acts.after_read (placed h) at ≡ place (offset + suc h.cycles) byte =
        rests.after (offset + h.cycles) h.bus_byte at byte below e ∙ ap (λ c. place c byte) next in
        inr (record {
          byte_is = rests.byte (offset + h.cycles) h.bus_byte at byte below e;
          held_is = after;
          line_is = ap acts.line after ∙ rests.line_is (offset + suc h.cycles) byte within ∙ sym fits.line_is;
          fits = record {
            ram_is = fits.ram_is;
            board_is = fits.board_is;
            status_is = fits.status_is;
            line_is = fits.line_is;
            within = within;
          };
        }))
  ]

  same-read-of : (h : Dry) (at : ℕ) (byte : Option ℕ) → Fits h → told_byte ram board status at ≡ byte →
      Past (read_of byte h) ⊎ SameRead h at (unwrap_or byte 0) (read_of byte h)
  same-read-of h at None fits e = inl (Lost refl)
  same-read-of h at (Some byte) fits e = same-more h at byte (nat_lt h.cycles MOST_CYCLES) fits e

  same-read : (h : Dry) (at : ℕ) → Fits h → Past (after_read h at) ⊎ SameRead h at (dry_byte h at) (after_read h at)
  unfolding after_read
  same-read h at fits =
      same-read-of h at (told_byte h.ram h.board h.status at) fits
      (λ i. told_byte (sym fits.ram_is i) (sym fits.board_is i) (sym fits.status_is i) at)

  -- the walk over the other bus goes on as that over the dry one
  record Tied (w : Walk Dry) (v : Walk Held) : Type 0 where
    fits : Fits w.held
    same : v ≡ onto w

  abbrev Goes : Walk Dry → Walk Held → Type 0
  Goes w v = Past w.held ⊎ Tied w v

  -- what is done with the byte of a read
  goes-read : (f : ℕ → Held → Bool → Walk Held) (h : Dry) (at : ℕ) (w : Walk Dry) → w.held ≡ after_read h at → Fits h →
      f (dry_byte h at) (placed (after_read h at)) (after_read h at).line ≡ onto w →
      Goes w (f (acts.byte (placed h) at) (acts.after_read (placed h) at) (acts.line (acts.after_read (placed h) at)))
  goes-read f h at w e fits shape = elim (same-read h at fits) [
    | inl past ↦ inl (subst Past (sym e) past)
    | inr same ↦ inr (record {
      fits = subst Fits (sym e) same.fits;
      same = (λ i. f (same.byte_is i) (same.held_is i) (same.line_is i)) ∙ shape;
    })
  ]

  -- a cycle is over
  abbrev after : Walk Dry → Held → Bool → Walk Held
  after w k level =
      (let v = onto w in
      record v { cpu = record w.cpu { line = level }; held = k; rises = risen w.cpu.line level w.rises })

  goes-transferred : (op : Op) (t : Transfer) (at : ℕ) (w : Walk Dry) → Fits w.held
      → Goes (transferred dry op t at w) (transferred acts op t at (onto w))
  goes-transferred op Ignores at w fits =
      goes-read (λ byte k level. after w k level) w.held at (transferred dry op Ignores at w) refl fits refl
  goes-transferred op ToLow at w fits =
      goes-read (λ byte k level. (let v = after w k level in record v { low = byte })) w.held at
      (transferred dry op ToLow at w) refl fits refl
  goes-transferred op ToHigh at w fits =
      goes-read (λ byte k level. (let v = after w k level in record v { high = byte })) w.held at
      (transferred dry op ToHigh at w) refl fits refl
  goes-transferred op ToPointer at w fits =
      goes-read (λ byte k level. (let v = after w k level in record v { pointer = byte })) w.held at
      (transferred dry op ToPointer at w) refl fits refl
  goes-transferred op ToPage at w fits =
      goes-read (λ byte k level. (let v = after w k level in record v { page = byte })) w.held at
      (transferred dry op ToPage at w) refl fits refl
  goes-transferred op ToData at w fits =
      goes-read (λ byte k level. (let v = after w k level in record v { data_ = byte })) w.held at
      (transferred dry op ToData at w) refl fits refl
  goes-transferred op ToFlags at w fits =
      goes-read
      (λ byte k level. (let v = after w k level in record v { cpu = record v.cpu { flags = flags_of_byte byte } })) w.held
      at (transferred dry op ToFlags at w) refl fits refl
  goes-transferred op PutsStored at w fits = inl (Lost refl)
  goes-transferred op PutsData at w fits = inl (Lost refl)
  goes-transferred op PutsChanged at w fits = inl (Lost refl)
  goes-transferred op PutsPcHigh at w fits = inl (Lost refl)
  goes-transferred op PutsPcLow at w fits = inl (Lost refl)
  goes-transferred op (PutsFlags bit) at w fits = inl (Lost refl)

  -- a move, an address and a condition are those of the processor
  onto-moved : (m : Move) (w : Walk Dry) → moved m (onto w) ≡ onto (moved m w)
  onto-moved Stay w = refl
  onto-moved PcUp w = refl
  onto-moved StackUp w = refl
  onto-moved StackDown w = refl
  onto-moved Jump w = refl
  onto-moved JumpPast w = refl
  onto-moved PointerUp w = refl
  onto-moved Mask w = refl

  onto-address : (p : Place) (w : Walk Dry) → address_of p (onto w) ≡ address_of p w
  onto-address AtPc w = refl
  onto-address AtStack w = refl
  onto-address InZero w = refl
  onto-address (InZeroBy i) w = refl
  onto-address AtWord w = refl
  onto-address (AtWordBy i) w = refl
  onto-address (AtUncarried i) w = refl
  onto-address AtPointer w = refl
  onto-address AfterPointer w = refl
  onto-address AtBranchLow w = refl
  onto-address (At n) w = refl

  onto-made : (when_ : When) (op : Op) (w : Walk Dry) → is_made when_ op (onto w) ≡ is_made when_ op w
  onto-made Always op w = refl
  onto-made (Carried i) op w = refl
  onto-made Taken op w = refl
  onto-made TakenAway op w = refl

  goes-moved : (m : Move) (w : Walk Dry) (v : Walk Held) → Goes w v → Goes (moved m w) (moved m v)
  goes-moved m w v (inl past) = inl (subst Past (sym (held-moved m w)) past)
  goes-moved m w v (inr tied) =
      inr (record { fits = subst Fits (sym (held-moved m w)) tied.fits; same = ap (moved m) tied.same ∙ onto-moved m w })

  goes-chosen : (b : Bool) (x w : Walk Dry) (y v : Walk Held) → Goes x y → Goes w v → Goes (cond b x w) (cond b y v)
  goes-chosen true x w y v p q = p
  goes-chosen false x w y v p q = q

  goes-step : (op : Op) (a : Access) (w : Walk Dry) → Fits w.held → Goes (step dry op a w) (step acts op a (onto w))
  goes-step op a w fits =
      let at : ℕ = address_of a.place w in
      let made : Bool = is_made a.when_ op w in
      let here : Goes (step dry op a w)
      (cond made (moved a.then_ (transferred acts op a.transfer at (onto w))) (onto w)) =
      goes-chosen made (moved a.then_ (transferred dry op a.transfer at w)) w
      (moved a.then_ (transferred acts op a.transfer at (onto w))) (onto w)
      (goes-moved a.then_ (transferred dry op a.transfer at w) (transferred acts op a.transfer at (onto w))
      (goes-transferred op a.transfer at w fits))
      (inr (record { fits = fits; same = refl })) in
      subst (λ v. Goes (step dry op a w) v)
      (λ i. cond (sym (onto-made a.when_ op w) i)
      (moved a.then_ (transferred acts op a.transfer (sym (onto-address a.place w) i) (onto w))) (onto w)) here

  walk-past : (op : Op) (xs : List Access) (w : Walk Dry) → Past w.held → Past (walk dry op xs w).held
  walk-past op xs w p =
      let l : Lower Past nothing_left 0 w.held (walk dry op xs w).held =
      walk-lower dry Past nothing_left 0 (dry-lowers limit offset) op xs w p in l.stays

  goes-stepped : (op : Op) (a : Access) (w : Walk Dry) (v : Walk Held) → Goes w v
      → Goes (step dry op a w) (step acts op a v)
  goes-stepped op a w v (inl past) = inl (walk-past op (a ∷ []) w past)
  goes-stepped op a w v (inr tied) =
      subst (λ u. Goes (step dry op a w) (step acts op a u)) (sym tied.same) (goes-step op a w tied.fits)

  -- a list of accesses
  goes-walk : (op : Op) (xs : List Access) (w : Walk Dry) (v : Walk Held) → Goes w v
      → Goes (walk dry op xs w) (walk acts op xs v)
  goes-walk op [] w v g = g
  goes-walk op (a ∷ rest) w v g = goes-walk op rest (step dry op a w) (step acts op a v) (goes-stepped op a w v g)

  onto-opened : (class : Class) (w : Walk Dry) → opened class (onto w) ≡ onto (opened class w)
  onto-opened ByMode w = refl
  onto-opened Branches w = refl
  onto-opened Jumps w = refl
  onto-opened JumpsIndirect w = refl
  onto-opened Calls w = refl
  onto-opened Returns w = refl
  onto-opened ReturnsFromInterrupt w = refl
  onto-opened Breaks w = refl
  onto-opened PushesA w = refl
  onto-opened PushesFlags w = refl
  onto-opened PullsA w = refl
  onto-opened PullsFlags w = refl
  onto-opened Jams w = refl

  goes-opened : (class : Class) (w : Walk Dry) (v : Walk Held) → Goes w v → Goes (opened class w) (opened class v)
  goes-opened class w v (inl past) = inl (subst Past (sym (held-opened class w)) past)
  goes-opened class w v (inr tied) =
      inr (record {
        fits = subst Fits (sym (held-opened class w)) tied.fits;
        same = ap (opened class) tied.same
            ∙ onto-opened class w;
      })

  onto-settled : (class : Class) (row : OpRow) (w : Walk Dry) → settled class row (onto w) ≡ settled class row w
  onto-settled ByMode row w = refl
  onto-settled Branches row w = refl
  onto-settled Jumps row w = refl
  onto-settled JumpsIndirect row w = refl
  onto-settled Calls row w = refl
  onto-settled Returns row w = refl
  onto-settled ReturnsFromInterrupt row w = refl
  onto-settled Breaks row w = refl
  onto-settled PushesA row w = refl
  onto-settled PushesFlags row w = refl
  onto-settled PullsA row w = refl
  onto-settled PullsFlags row w = refl
  onto-settled Jams row w = refl

  goes-settled : (class : Class) (row : OpRow) (w : Walk Dry) (v : Walk Held) → Goes w v
      → Goes (record w { cpu = settled class row w }) (record v { cpu = settled class row v })
  goes-settled class row w v (inl past) = inl past
  goes-settled class row w v (inr tied) = inr (record {
    fits = tied.fits;
    same = ap (λ (u : Walk Held). record u { cpu = settled class row u }) tied.same
        ∙ ap (λ c. (let u = onto w in record u { cpu = c })) (onto-settled class row w);
  })

  goes-rest : (class : Class) (row : OpRow) (w : Walk Dry) (v : Walk Held) → Goes w v
      → Goes (rest_by dry class row w) (rest_by acts class row v)
  unfolding rest_by
  goes-rest class row w v g =
      let xs : List Access = accesses class row.mode row.kind in
      goes-settled class row (walk dry row.op xs (opened class w)) (walk acts row.op xs (opened class v))
      (goes-walk row.op xs (opened class w) (opened class v) (goes-opened class w v g))

  past-rest : (class : Class) (row : OpRow) (w : Walk Dry) → Past w.held → Past (rest_by dry class row w).held
  unfolding rest_by
  past-rest class row w p =
      walk-past row.op (accesses class row.mode row.kind) (opened class w) (subst Past (sym (held-opened class w)) p)

  -- an instruction: the row is that of the byte at PC
  goes-row : (byte other : ℕ) (w : Walk Dry) (v : Walk Held) → other ≡ byte → Goes w v
      → Goes (rest_of dry (row_of byte) w) (rest_of acts (row_of other) v)
  unfolding rest_of
  goes-row byte other w v e g =
      subst (λ n. Goes (rest_of dry (row_of byte) w) (rest_of acts (row_of n) v)) (sym e)
      (goes-rest (class_of (row_of byte).op (row_of byte).mode) (row_of byte) w v g)

  past-row : (row : OpRow) (w : Walk Dry) → Past w.held → Past (rest_of dry row w).held
  unfolding rest_of
  past-row row w p = past-rest (class_of row.op row.mode) row w p

  goes-instruction : (cpu : Cpu) (h : Dry) → Fits h → Goes (instruction dry cpu h) (instruction acts cpu (placed h))
  unfolding instruction
  goes-instruction cpu h fits = elim (same-read h cpu.pc fits) [
    | inl past ↦ inl (past-row (row_of (dry_byte h cpu.pc)) (read_at dry cpu.pc (begun cpu h no_rise)) past)
    | inr same ↦
        goes-row (dry_byte h cpu.pc) (acts.byte (placed h) cpu.pc) (read_at dry cpu.pc (begun cpu h no_rise))
        (read_at acts cpu.pc (begun cpu (placed h) no_rise)) same.byte_is
        (goes-transferred Nop Ignores cpu.pc (begun cpu h no_rise) fits)
  ]

  goes-entered : (cpu : Cpu) (h : Dry) → Fits h → Goes (entered dry cpu h) (entered acts cpu (placed h))
  unfolding entered
  goes-entered cpu h fits =
      goes-walk Nop nmi_entry (begun (record cpu { note = NoNote }) h no_rise)
      (begun (record cpu { note = NoNote }) (placed h) no_rise) (inr (record { fits = fits; same = refl }))

  goes-note : (note : Note) (cpu : Cpu) (h : Dry) → Fits h
      → Goes (on_note note dry cpu h) (on_note note acts cpu (placed h))
  goes-note Due cpu h fits = goes-entered cpu h fits
  goes-note NoNote cpu h fits = goes-instruction cpu h fits
  goes-note Late cpu h fits = goes-instruction cpu h fits

  goes-page : (page : Option ℕ) (cpu : Cpu) (h : Dry) → Fits h → page ≡ None
      → Goes (on_page None dry cpu h) (on_page page acts cpu (placed h))
  goes-page None cpu h fits e = goes-note cpu.note cpu h fits
  goes-page (Some page) cpu h fits e = absurd (cc)

  goes-active : (cpu : Cpu) (h : Dry) → Fits h → Goes (active dry cpu h) (active acts cpu (placed h))
  unfolding active
  goes-active cpu h fits =
      goes-page (acts.page (placed h)) cpu h fits (rests.no_page (offset + h.cycles) h.bus_byte fits.within)

  -- the unit over the other bus
  abbrev pub unit_onto : Unit Dry → Unit Held
  unit_onto u = record { cpu = u.cpu; held = placed u.held; end_ = u.end_ }

  pub record TiedUnit (u : Unit Dry) (v : Unit Held) : Type 0 where
    pub fits : Fits u.held
    pub same : v ≡ unit_onto u

  goes-noted : (began : Note) (w : Walk Dry) (v : Walk Held) → Goes w v
      → Past (noted began w).held ⊎ TiedUnit (noted began w) (noted began v)
  goes-noted began w v (inl past) = inl past
  goes-noted began w v (inr tied) = inr (record { fits = tied.fits; same = ap (noted began) tied.same })

  goes-by : (b : Bool) (cpu : Cpu) (h : Dry) (w : Walk Dry) (v : Walk Held) → Fits h → Goes w v →
      let x : Unit Dry = cond b (record { cpu = cpu; held = h; end_ = Jammed }) (noted cpu.note w) in
      Past x.held ⊎ TiedUnit x (cond b (record { cpu = cpu; held = placed h; end_ = Jammed }) (noted cpu.note v))
  goes-by true cpu h w v fits g = inr (record { fits = fits; same = refl })
  goes-by false cpu h w v fits g = goes-noted cpu.note w v g

  -- one unit
  pub unit-goes : (cpu : Cpu) (h : Dry) → Fits h
      → Past (unit_of dry cpu h).held ⊎ TiedUnit (unit_of dry cpu h) (unit_of acts cpu (placed h))
  unfolding unit_of
  unit-goes cpu h fits =
      goes-by cpu.jammed cpu h (active dry cpu h) (active acts cpu (placed h)) fits (goes-active cpu h fits)
