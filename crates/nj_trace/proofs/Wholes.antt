-- The bytes of a unit that is code are a whole instruction.
use Rattle.std.proofs.Common.{◌≡◌, ◌≢◌, ℕ, zero, suc, ◌+◌, ◌≤◌, ◌<◌, Bool, true, false, not, ◌&&◌, ◌||◌, ◌==◌, nat_le, cond, if◌then◌else◌, List, [], ◌∷◌, ◌++◌, length, take, Option, Some, None, refl, sym, ap, subst, ◌∙◌, arith}
use Rattle.std.specs.List.{list_all}
use Rattle.std.proofs.lemmas.Bool.Decides.{nat_tests}
use Rattle.nj_isa.specs.Bus.{Acts}
use Rattle.nj_isa.specs.Names.{length_of}
use Rattle.nj_isa.specs.Timing.{is_jam}
use Rattle.nj_isa.specs.Table.{Entry, kind_of, row_in, row_of, official_opcodes, unofficial_opcodes}
use Rattle.nj_isa.specs.Accesses.{Access, accesses, class_of}
use Rattle.nj_isa.specs.declared.operations.Op.{Op}
use Rattle.nj_isa.specs.declared.table.OpRow.{OpRow}
use Rattle.nj_asm.specs.Listing.{is_whole}
use Rattle.nj_cpu.specs.declared.state.Cpu.{Cpu}
use Rattle.nj_cpu.specs.declared.state.Note.{Note}
use Rattle.nj_cpu.specs.declared.state.Note.TheVariants.{None as NoNote, Late, Due}
use Rattle.nj_cpu.specs.Walk.{Walk, begun, read_at, step}
use Rattle.nj_cpu.specs.Unit.{no_rise, opened}
use Rattle.nj_machine.specs.Wires.{Wired, wires}
use Rattle.nj_machine.specs.Seen.{fetches, before_if, operand_bytes, operand_of, code_bytes, kind_in, awaited_by, awaited, kind_or, bytes_or, in_three, seen_in}
use Rattle.nj_machine.specs.declared.seeing.UnitKind.{UnitKind}
use Rattle.nj_machine.specs.declared.seeing.UnitKind.TheVariants.{Nothing, Copy, Nmi, Jam, Code}

-- ---- how many bytes an instruction has

-- how many accesses of a list fetch a byte of the operand
abbrev fetch_count : List Access → ℕ
fetch_count [] = 0
fetch_count (a ∷ rest) = if fetches a.place a.transfer then suc (fetch_count rest) else fetch_count rest

counted_by : (b : Bool) (n byte : ℕ) (bytes : List ℕ) → length bytes ≡ n
    → length (before_if b byte bytes) ≡ cond b (suc n) n
counted_by true n byte bytes e = ap suc e
counted_by false n byte bytes e = e

-- there are as many bytes of an operand
counted : {Held : Type 0} (acts : Acts Held) (op : Op) (xs : List Access) (w : Walk Held)
    → length (operand_bytes acts op xs w) ≡ fetch_count xs
counted acts op [] w = refl
counted acts op (a ∷ rest) w =
    counted_by (fetches a.place a.transfer) (fetch_count rest) _ _ (counted acts op rest (step acts op a w))

abbrev operand_count : OpRow → ℕ
operand_count row = fetch_count (accesses (class_of row.op row.mode) row.mode row.kind)

abbrev is_code : UnitKind → Bool
is_code Code = true
is_code _ = false

-- a row has at most two bytes behind its opcode, and one that is code is no jam and is as long as its mode
abbrev fits : OpRow → Bool
fits row =
    nat_le (operand_count row) 2
    && (not (is_code (kind_in row)) || (not (is_jam row.op) && (operand_count row + 1 == length_of row.mode)))

abbrev entry_fits : Entry → Bool
entry_fits e = fits (record { op = e.op; mode = e.mode; kind = kind_of e.op e.mode })

all_fit : list_all entry_fits (official_opcodes ++ unofficial_opcodes) ≡ true
unfolding class_of
all_fit = refl

split_and : (a b : Bool) → (a && b) ≡ true → (a ≡ true) × (b ≡ true)
split_and true b e = (refl, e)
split_and false b e = cc

by_code : (t : Bool) (here rest : OpRow) → fits here ≡ true → fits rest ≡ true → fits (if t then here else rest) ≡ true
by_code true here rest h r = h
by_code false here rest h r = r

fits_in : (entries : List Entry) (opcode : ℕ) → list_all entry_fits entries ≡ true → fits (row_in entries opcode) ≡ true
unfolding class_of
fits_in [] opcode e = refl
fits_in (x ∷ rest) opcode e =
    let parts = split_and (entry_fits x) (list_all entry_fits rest) e in
    by_code (x.code == opcode) _ _ parts.0 (fits_in rest opcode parts.1)

row_fits : (opcode : ℕ) → fits (row_of opcode) ≡ true
unfolding row_of
row_fits opcode = fits_in (official_opcodes ++ unofficial_opcodes) opcode all_fit

-- ---- what is seen of it

three_are_shown : (bytes : List ℕ) → length bytes ≤ 3 → take (length bytes) (in_three bytes) ≡ bytes
three_are_shown [] h = refl
three_are_shown (a ∷ []) h = refl
three_are_shown (a ∷ b ∷ []) h = refl
three_are_shown (a ∷ b ∷ c ∷ []) h = refl
three_are_shown (a ∷ b ∷ c ∷ d ∷ rest) h = absurd (omega (arith, h))

code_is : (kind : UnitKind) → kind ≡ Code → is_code kind ≡ true
code_is kind e = ap is_code e

implied : (a b : Bool) → (not a || b) ≡ true → a ≡ true → b ≡ true
implied true b e h = e
implied false b e h = cc

-- an instruction's bytes are at most three, and whole where it is code
module _ {Held : Type 0} (acts : Acts Held) where
  code_count : (cpu : Cpu) (held : Held)
      → length (code_bytes acts cpu held) ≡ suc (operand_count (row_of (acts.byte held cpu.pc)))
  unfolding code_bytes operand_of
  code_count cpu held =
      let row = row_of (acts.byte held cpu.pc) in
      let class = class_of row.op row.mode in
      ap suc (counted acts row.op (accesses class row.mode row.kind)
      (opened class (read_at acts cpu.pc (begun cpu held no_rise))))

  code_few : (cpu : Cpu) (held : Held) → length (code_bytes acts cpu held) ≤ 3
  code_few cpu held =
      let row = row_of (acts.byte held cpu.pc) in
      let test : nat_le (operand_count row) 2 ≡ true =
      (split_and (nat_le (operand_count row) 2) _ (row_fits (acts.byte held cpu.pc))).0 in
      let few : operand_count row ≤ 2 = grind (arith, nat_tests) in
      omega (arith, few, code_count cpu held)

  code_whole : (cpu : Cpu) (held : Held) → kind_in (row_of (acts.byte held cpu.pc)) ≡ Code
      → is_whole (code_bytes acts cpu held) ≡ true
  unfolding code_bytes
  code_whole cpu held code =
      let opcode = acts.byte held cpu.pc in
      let row = row_of opcode in
      let rest : (not (is_jam row.op) && (operand_count row + 1 == length_of row.mode)) ≡ true =
      implied (is_code (kind_in row)) _ (split_and (nat_le (operand_count row) 2) _ (row_fits opcode)).1
      (code_is (kind_in row) code) in
      let count : length (operand_of acts row (read_at acts cpu.pc (begun cpu held no_rise))) ≡ operand_count row =
      omega (arith, code_count cpu held) in
      ap (λ n. not (is_jam row.op) && (n + 1 == length_of row.mode)) count ∙ rest

-- ---- whatever the unit is

few_by : (jammed : Bool) (page : Option ℕ) (told : Note) (bytes : List ℕ) → length bytes ≤ 3
    → length (bytes_or (awaited_by jammed page told) bytes) ≤ 3
few_by true page told bytes h = omega arith
few_by false (Some page) told bytes h = omega arith
few_by false None Due bytes h = omega arith
few_by false None NoNote bytes h = h
few_by false None Late bytes h = h

whole_by : (jammed : Bool) (page : Option ℕ) (told : Note) (row : OpRow) (bytes : List ℕ) → length bytes ≤ 3 →
    (kind_in row ≡ Code → is_whole bytes ≡ true) →
    kind_or (awaited_by jammed page told) row ≡ Code →
    is_whole (take (length (bytes_or (awaited_by jammed page told) bytes))
    (in_three (bytes_or (awaited_by jammed page told) bytes))) ≡ true
whole_by true page told row bytes few whole e = cc
whole_by false (Some page) told row bytes few whole e = cc
whole_by false None Due row bytes few whole e = cc
whole_by false None NoNote row bytes few whole e = ap is_whole (three_are_shown bytes few) ∙ whole e
whole_by false None Late row bytes few whole e = ap is_whole (three_are_shown bytes few) ∙ whole e

pub few_seen : (cpu : Cpu) (w : Wired) → (let seen = seen_in cpu w in seen.len) ≤ 3
unfolding seen_in awaited
few_seen cpu w = few_by cpu.jammed (wires.page w) cpu.note (code_bytes wires cpu w) (code_few wires cpu w)

pub whole_seen : (cpu : Cpu) (w : Wired) → (let seen = seen_in cpu w in seen.kind) ≡ Code
    → is_whole (let seen = seen_in cpu w in take seen.len seen.bytes) ≡ true
unfolding seen_in awaited
whole_seen cpu w e =
    whole_by cpu.jammed (wires.page w) cpu.note (row_of (wires.byte w cpu.pc)) (code_bytes wires cpu w)
    (code_few wires cpu w) (code_whole wires cpu w) e
