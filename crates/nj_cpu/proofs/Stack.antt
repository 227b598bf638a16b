-- What is pushed comes back.
use Rattle.std.proofs.Common.{◌≡◌, ◌≢◌, ℕ, ◌+◌, ◌/◌, ◌%◌, ◌<◌, refl, ap, ◌∙◌, arith}
use Rattle.nj_isa.specs.Bus.{Acts}
use Rattle.nj_isa.specs.Table.{row_of}
use Rattle.nj_isa.specs.Accesses.{class_of}
use Rattle.nj_cpu.specs.declared.state.Cpu.{Cpu}
use Rattle.nj_cpu.specs.Effects.{stored_by, with_result}
use Rattle.nj_cpu.specs.Walk.{word}
use Rattle.nj_cpu.specs.Unit.{Unit, rest_by, rest_of, noted, unit_of}
use Rattle.nj_cpu.specs.Laws.{Runs, InStack, RemembersStack, next_pc}
use Rattle.nj_cpu.proofs.Runs.{opcode_read, unit-runs}

module _ {Held : Type 0} (acts : Acts Held) where
  -- the bus after n reads of an instruction
  abbrev pub read_once : Cpu → Held → Held
  read_once cpu held = acts.after_read held cpu.pc

  abbrev pub read_twice : Cpu → Held → Held
  read_twice cpu held = acts.after_read (read_once cpu held) (next_pc cpu.pc)

  -- the bus after PHA
  pha-held : (cpu : Cpu) (held : Held)
      → (rest_of acts (row_of 0x48) (opcode_read acts cpu held)).held
      ≡ acts.after_write (read_twice cpu held) (256 + cpu.s) cpu.a
  unfolding row_of class_of rest_of rest_by stored_by
  pha-held cpu held = refl

  pha-s : (cpu : Cpu) (held : Held)
      → (rest_of acts (row_of 0x48) (opcode_read acts cpu held)).cpu.s ≡ (cpu.s + 255) % 256
  unfolding row_of class_of rest_of rest_by stored_by
  pha-s cpu held = refl

  -- the byte that PLA pulls
  abbrev pub pulled_byte : Cpu → Held → ℕ
  pulled_byte cpu held = acts.byte (acts.after_read (read_twice cpu held) (256 + cpu.s)) (256 + (cpu.s + 1) % 256)

  pla-a : (cpu : Cpu) (held : Held)
      → (rest_of acts (row_of 0x68) (opcode_read acts cpu held)).cpu.a ≡ pulled_byte cpu held
  unfolding row_of class_of rest_of rest_by
  pla-a cpu held = refl

  pla-flags : (cpu : Cpu) (held : Held)
      → (rest_of acts (row_of 0x68) (opcode_read acts cpu held)).cpu.flags
      ≡ with_result (pulled_byte cpu held) cpu.flags
  unfolding row_of class_of rest_of rest_by
  pla-flags cpu held = refl

  pla-s : (cpu : Cpu) (held : Held) → (rest_of acts (row_of 0x68) (opcode_read acts cpu held)).cpu.s ≡ (cpu.s + 1) % 256
  unfolding row_of class_of rest_of rest_by
  pla-s cpu held = refl

  -- the bus after JSR
  jsr-held : (cpu : Cpu) (held : Held)
      → (rest_of acts (row_of 0x20) (opcode_read acts cpu held)).held
      ≡ acts.after_read
      (acts.after_write
      (acts.after_write (acts.after_read (read_twice cpu held) (256 + cpu.s)) (256 + cpu.s)
      (next_pc (next_pc cpu.pc) / 256)) (256 + (cpu.s + 255) % 256) (next_pc (next_pc cpu.pc) % 256))
      (next_pc (next_pc cpu.pc))
  unfolding row_of class_of rest_of rest_by
  jsr-held cpu held = refl

  jsr-s : (cpu : Cpu) (held : Held)
      → (rest_of acts (row_of 0x20) (opcode_read acts cpu held)).cpu.s ≡ ((cpu.s + 255) % 256 + 255) % 256
  unfolding row_of class_of rest_of rest_by
  jsr-s cpu held = refl

  -- the two bytes that RTS pulls
  abbrev pub pulled_high : Cpu → Held → ℕ
  pulled_high cpu held =
      acts.byte (acts.after_read (acts.after_read (read_twice cpu held) (256 + cpu.s)) (256 + (cpu.s + 1) % 256))
      (256 + ((cpu.s + 1) % 256 + 1) % 256)

  rts-pc : (cpu : Cpu) (held : Held)
      → (rest_of acts (row_of 0x60) (opcode_read acts cpu held)).cpu.pc
      ≡ (word (pulled_high cpu held) (pulled_byte cpu held) + 1) % 65536
  unfolding row_of class_of rest_of rest_by
  rts-pc cpu held = refl

  rts-s : (cpu : Cpu) (held : Held)
      → (rest_of acts (row_of 0x60) (opcode_read acts cpu held)).cpu.s ≡ ((cpu.s + 1) % 256 + 1) % 256
  unfolding row_of class_of rest_of rest_by
  rts-s cpu held = refl

module _ {Held : Type 0} (acts : Acts Held) (remembers : RemembersStack acts) where
  -- three reads leave a byte of the stack
  after_three : (h : Held) (a b c at : ℕ) → InStack at
      → acts.byte (acts.after_read (acts.after_read (acts.after_read h a) b) c) at ≡ acts.byte h at
  after_three h a b c at i =
      remembers.read (acts.after_read (acts.after_read h a) b) at c i ∙ remembers.read (acts.after_read h a) at b i
      ∙ remembers.read h at a i

  pub push_pull : (cpu later : Cpu) (held : Held) → cpu.a < 256 → cpu.s < 256 → Runs acts cpu held 0x48
      → later.s ≡ (unit_of acts cpu held).cpu.s → Runs acts later (unit_of acts cpu held).held 0x68
      → ((unit_of acts later (unit_of acts cpu held).held).cpu.a ≡ cpu.a)
      × ((unit_of acts later (unit_of acts cpu held).held).cpu.flags ≡ with_result cpu.a later.flags)
      × ((unit_of acts later (unit_of acts cpu held).held).cpu.s ≡ cpu.s)
  push_pull cpu later held ha hs first same second =
      let e1 : (unit_of acts cpu held).held ≡ acts.after_write (read_twice acts cpu held) (256 + cpu.s) cpu.a =
      ap (λ (u : Unit _). u.held) (unit-runs acts cpu held 0x48 first) ∙ pha-held acts cpu held in
      let s1 : (unit_of acts cpu held).cpu.s ≡ (cpu.s + 255) % 256 =
      ap (λ (u : Unit _). u.cpu.s) (unit-runs acts cpu held 0x48 first) ∙ pha-s acts cpu held in
      let h : Held = (unit_of acts cpu held).held in
      let place : 256 + (later.s + 1) % 256 ≡ 256 + cpu.s = omega arith in
      let inside : InStack (256 + cpu.s) = record { from = omega arith; to = omega arith } in
      let pulled : pulled_byte acts later h ≡ cpu.a =
      ap (λ n. acts.byte (acts.after_read (read_twice acts later h) (256 + later.s)) n) place
      ∙ after_three h later.pc (next_pc later.pc) (256 + later.s) (256 + cpu.s) inside
      ∙ ap (λ k. acts.byte k (256 + cpu.s)) e1
      ∙ remembers.written (read_twice acts cpu held) (256 + cpu.s) cpu.a inside ha in
      let u2 : unit_of acts later h ≡ noted later.note (rest_of acts (row_of 0x68) (opcode_read acts later h)) =
      unit-runs acts later h 0x68 second in
      let back : (later.s + 1) % 256 ≡ cpu.s = omega arith in (
        ap (λ (u : Unit _). u.cpu.a) u2 ∙ pla-a acts later h ∙ pulled,
        ap (λ (u : Unit _). u.cpu.flags) u2 ∙ pla-flags acts later h ∙ ap (λ n. with_result n later.flags) pulled,
        ap (λ (u : Unit _). u.cpu.s) u2 ∙ pla-s acts later h ∙ back,
      )

  -- the halves of an address make it again
  halves : (pc : ℕ) → pc < 65536 → word (pc / 256) (pc % 256) ≡ pc
  halves pc h = omega arith

  pub call_return : (cpu later : Cpu) (held : Held) → cpu.s < 256 → Runs acts cpu held 0x20
      → later.s ≡ (unit_of acts cpu held).cpu.s → Runs acts later (unit_of acts cpu held).held 0x60
      → ((unit_of acts later (unit_of acts cpu held).held).cpu.pc ≡ (cpu.pc + 3) % 65536)
      × ((unit_of acts later (unit_of acts cpu held).held).cpu.s ≡ cpu.s)
  call_return cpu later held hs first same second =
      let pc : ℕ = next_pc (next_pc cpu.pc) in
      let low_at : ℕ = 256 + (cpu.s + 255) % 256 in
      let high_at : ℕ = 256 + cpu.s in
      let start : Held = acts.after_read (read_twice acts cpu held) (256 + cpu.s) in
      let one : Held = acts.after_write start high_at (pc / 256) in
      let two : Held = acts.after_write one low_at (pc % 256) in
      let e1 : (unit_of acts cpu held).held ≡ acts.after_read two pc =
      ap (λ (u : Unit _). u.held) (unit-runs acts cpu held 0x20 first) ∙ jsr-held acts cpu held in
      let s1 : (unit_of acts cpu held).cpu.s ≡ ((cpu.s + 255) % 256 + 255) % 256 =
      ap (λ (u : Unit _). u.cpu.s) (unit-runs acts cpu held 0x20 first) ∙ jsr-s acts cpu held in
      let h : Held = (unit_of acts cpu held).held in
      let low_place : 256 + (later.s + 1) % 256 ≡ low_at = omega arith in
      let high_place : 256 + ((later.s + 1) % 256 + 1) % 256 ≡ high_at = omega arith in
      let low_inside : InStack low_at = record { from = omega arith; to = omega arith } in
      let high_inside : InStack high_at = record { from = omega arith; to = omega arith } in
      let apart : high_at ≢ low_at = λ e. omega arith in
      let small : pc < 65536 = omega arith in
      let low : pulled_byte acts later h ≡ pc % 256 =
      ap (λ n. acts.byte (acts.after_read (read_twice acts later h) (256 + later.s)) n) low_place
      ∙ after_three h later.pc (next_pc later.pc) (256 + later.s) low_at low_inside ∙ ap (λ k. acts.byte k low_at) e1
      ∙ remembers.read two low_at pc low_inside ∙ remembers.written one low_at (pc % 256) low_inside (omega arith) in
      let high : pulled_high acts later h ≡ pc / 256 =
      ap (λ n. acts.byte
      (acts.after_read (acts.after_read (read_twice acts later h) (256 + later.s)) (256 + (later.s + 1) % 256)) n)
      high_place
      ∙ remembers.read (acts.after_read (read_twice acts later h) (256 + later.s)) high_at (256 + (later.s + 1) % 256)
      high_inside ∙ after_three h later.pc (next_pc later.pc) (256 + later.s) high_at high_inside
      ∙ ap (λ k. acts.byte k high_at) e1 ∙ remembers.read two high_at pc high_inside
      ∙ remembers.elsewhere one high_at low_at (pc % 256) high_inside apart
      ∙ remembers.written start high_at (pc / 256) high_inside (omega arith) in
      let u2 : unit_of acts later h ≡ noted later.note (rest_of acts (row_of 0x60) (opcode_read acts later h)) =
      unit-runs acts later h 0x60 second in
      let behind : (pc + 1) % 65536 ≡ (cpu.pc + 3) % 65536 = omega arith in
      let back : ((later.s + 1) % 256 + 1) % 256 ≡ cpu.s = omega arith in (
        ap (λ (u : Unit _). u.cpu.pc) u2 ∙ rts-pc acts later h
            ∙ ap (λ n. (word n (pulled_byte acts later h) + 1) % 65536) high
            ∙ ap (λ n. (word (pc / 256) n + 1) % 65536) low ∙ ap (λ n. (n + 1) % 65536) (halves pc small) ∙ behind,
        ap (λ (u : Unit _). u.cpu.s) u2 ∙ rts-s acts later h ∙ back,
      )
