-- The first reads of an instruction are its opcode and the bytes of its operand; a call reads the stack before its
-- last.
use Rattle.std.proofs.Common.{◌≡◌, ◌≢◌, ℕ, zero, suc, ◌+◌, ◌≤◌, ◌<◌, Bool, true, false, ◌&&◌, ◌||◌, ◌==◌, nat_le, nat_lt, cond, if◌then◌else◌, List, [], ◌∷◌, ◌++◌, length, take, get_or, Option, Some, None, refl, sym, ap, subst, ◌∙◌, arith, append_assoc, append-nil, length-append}
use Rattle.std.proofs.lemmas.List.{take_all}
use Rattle.std.proofs.lemmas.Bool.Decides.{nat_tests}
use Rattle.nj_isa.proofs.Published.{agree}
use Rattle.nj_isa.specs.Bus.{Acts}
use Rattle.nj_isa.specs.Table.{row_of}
use Rattle.nj_isa.specs.Names.{length_of}
use Rattle.nj_isa.specs.Accesses.{Place, AtPc, Transfer, Ignores, ToLow, ToHigh, ToPointer, ToPage, ToData, ToFlags, PutsStored, PutsData, PutsChanged, PutsPcHigh, PutsPcLow, PutsFlags, Move, When, Always, Carried, Taken, TakenAway, Access, accesses, class_of, call}
use Rattle.nj_isa.specs.declared.operations.Op.{Op}
use Rattle.nj_isa.specs.declared.classes.Class.{Class}
use Rattle.nj_isa.specs.declared.classes.Class.TheVariants.{Calls}
use Rattle.nj_isa.specs.declared.table.OpRow.{OpRow}
use Rattle.nj_cpu.specs.declared.state.Cpu.{Cpu}
use Rattle.nj_cpu.specs.Walk.{Walk, begun, address_of, read_at, transferred, moved, step, walk}
use Rattle.nj_cpu.specs.Unit.{no_rise, opened, rest_by, rest_of, Unit, unit_of}
use Rattle.nj_cpu.specs.declared.state.Note.{Note}
use Rattle.nj_cpu.specs.declared.state.Note.TheVariants.{None as NoNote, Late, Due}
use Rattle.nj_cpu.proofs.Runs.{opcode_read, unit-runs}
use Rattle.nj_cpu.proofs.Lower.{Lower, Lowers, held-moved, held-opened, walk-lower}
use Rattle.nj_machine.specs.declared.seeing.UnitKind.{UnitKind}
use Rattle.nj_machine.specs.Recorder.{Recorded, noted, recording, is_call, nth, picked, bytes_by, Told, told_by}
use Rattle.nj_machine.specs.Seen.{kind_in, kind_or, bytes_or, awaited_by, keeps_byte, fetches, before_if, operand_bytes, operand_of, code_bytes, in_three}
use Rattle.nj_machine.proofs.Recording.{behind, behind-step, behind-opened}

-- how many accesses of a list fetch a byte of the operand
abbrev fetch_count : List Access → ℕ
fetch_count [] = 0
fetch_count (a ∷ rest) = if fetches a.place a.transfer then suc (fetch_count rest) else fetch_count rest

abbrev is_always : When → Bool
is_always Always = true
is_always _ = false

-- they come first, and each is always made
abbrev is_lead : List Access → Bool
is_lead [] = true
is_lead (a ∷ rest) = if fetches a.place a.transfer then (is_always a.when_ && is_lead rest) else (fetch_count rest == 0)

-- a row's list of accesses fits its length, and leads with its fetches but for a call
abbrev fits_row : ℕ → Bool
fits_row opcode =
    let row = row_of opcode in
    let class = class_of row.op row.mode in
    let xs = accesses class row.mode row.kind in
    (is_call class || is_lead xs) && ((suc (fetch_count xs) == length_of row.mode) && nat_le (length_of row.mode) 3)

all_fit : (opcode : ℕ) → opcode < 256 → fits_row opcode ≡ true
unfolding row_of class_of
all_fit opcode h = agree fits_row (λ _. true) refl opcode h

split_and : (a b : Bool) → (a && b) ≡ true → (a ≡ true) × (b ≡ true)
split_and true true e = (refl, refl)
split_and true false e = cc
split_and false b e = cc

-- where nothing is fetched there are no bytes
none-by : (b : Bool) (n byte : ℕ) (bytes : List ℕ) → cond b (suc n) n ≡ 0 → (n ≡ 0 → bytes ≡ [])
    → before_if b byte bytes ≡ []
none-by true n byte bytes e h = absurd (omega arith)
none-by false n byte bytes e h = h e

no_more : {Held : Type 0} (acts : Acts Held) (op : Op) (xs : List Access) (w : Walk Held) → fetch_count xs ≡ 0
    → operand_bytes acts op xs w ≡ []
no_more acts op [] w e = refl
no_more acts op (a ∷ rest) w e =
    none-by (fetches a.place a.transfer) (fetch_count rest) (acts.byte w.held w.cpu.pc)
    (operand_bytes acts op rest (step acts op a w)) e (no_more acts op rest (step acts op a w))

-- there are as many bytes as fetches
counted-by : (b : Bool) (n byte : ℕ) (bytes : List ℕ) → length bytes ≡ n
    → length (before_if b byte bytes) ≡ cond b (suc n) n
counted-by true n byte bytes e = ap suc e
counted-by false n byte bytes e = e

counted : {Held : Type 0} (acts : Acts Held) (op : Op) (xs : List Access) (w : Walk Held)
    → length (operand_bytes acts op xs w) ≡ fetch_count xs
counted acts op [] w = refl
counted acts op (a ∷ rest) w =
    counted-by (fetches a.place a.transfer) (fetch_count rest) _ _ (counted acts op rest (step acts op a w))

-- the reads begin with these bytes
record Starts (bytes reads : List ℕ) : Type 0 where
  more : List ℕ
  begin : reads ≡ bytes ++ more

take_past : (n : ℕ) (p q : List ℕ) → length p ≤ n → (m : ℕ) × (take n (p ++ q) ≡ p ++ take m q)
take_past n [] q h = (n, refl)
take_past zero (x ∷ p) q h = absurd (omega arith)
take_past (suc n) (x ∷ p) q h = let rest = take_past n p q (omega arith) in (rest.0, ap (λ l. x ∷ l) rest.1)

-- a read more leaves them
starts-noted : (p reads : List ℕ) (byte : ℕ) → length p ≤ 4 → Starts p reads → Starts p (noted reads byte)
starts-noted p reads byte short s =
    let cut = take_past 4 p (s.more ++ (byte ∷ [])) short in
    record {
      more = take cut.0 (s.more ++ (byte ∷ []));
      begin = ap (λ l. noted l byte) s.begin ∙ ap (λ l. take 4 l) (append_assoc p s.more (byte ∷ [])) ∙ cut.1;
    }

module _ {Held : Type 0} (acts : Acts Held) where
  -- so do all later accesses
  keeps-reads : (p : List ℕ) → length p ≤ 4 → Lowers (recording acts) (λ r. Starts p r.reads) (λ r. 0) 0
  keeps-reads p short = record {
    reads = λ r at s. record { stays = starts-noted p r.reads _ short s; fewer = omega arith };
    writes = λ r at value s. record { stays = s; fewer = omega arith };
    takes = λ r s. record { stays = s; fewer = omega arith };
  }

  starts-walk : (op : Op) (p : List ℕ) (xs : List Access) (w : Walk (Recorded Held)) → length p ≤ 4
      → Starts p w.held.reads →
      Starts p (walk (recording acts) op xs w).held.reads
  starts-walk op p xs w short s =
      (walk-lower (recording acts) (λ r. Starts p r.reads) (λ r. 0) 0 (keeps-reads p short) op xs w s).stays

  -- a fetch is one read more
  kept-read : (op : Op) (t : Transfer) (at : ℕ) (w : Walk (Recorded Held)) → keeps_byte t ≡ true →
      (transferred (recording acts) op t at w).held.reads ≡ noted w.held.reads (acts.byte w.held.held at)
  kept-read op ToLow at w k = refl
  kept-read op ToHigh at w k = refl
  kept-read op ToPointer at w k = refl
  kept-read op ToPage at w k = refl
  kept-read op ToData at w k = refl
  kept-read op ToFlags at w k = refl
  kept-read op _ at w k = cc

  fetched : (op : Op) (when_ : When) (p : Place) (t : Transfer) (m : Move) (w : Walk (Recorded Held))
      → is_always when_ ≡ true → fetches p t ≡ true →
      (step (recording acts) op (record { when_ = when_; place = p; transfer = t; then_ = m }) w).held.reads
      ≡ noted w.held.reads (acts.byte w.held.held w.cpu.pc)
  fetched op Always AtPc t m w a k =
      ap (λ (h : Recorded Held). h.reads) (held-moved m (transferred (recording acts) op t w.cpu.pc w))
      ∙ kept-read op t w.cpu.pc w k
  fetched op Always _ t m w a k = cc
  fetched op (Carried i) p t m w a k = cc
  fetched op Taken p t m w a k = cc
  fetched op TakenAway p t m w a k = cc

  -- the fetches that lead a list are the next reads
  lead-by : (b : Bool) (op : Op) (a : Access) (rest : List Access) (p : List ℕ) (w : Walk (Recorded Held))
      → fetches a.place a.transfer ≡ b →
      w.held.reads ≡ p → length p + cond b (suc (fetch_count rest)) (fetch_count rest) ≤ 4 →
      cond b (is_always a.when_ && is_lead rest) (fetch_count rest == 0) ≡ true →
      ((q : List ℕ) (v : Walk (Recorded Held)) → v.held.reads ≡ q → length q + fetch_count rest ≤ 4
      → is_lead rest ≡ true →
      Starts (q ++ operand_bytes acts op rest (behind v)) (walk (recording acts) op rest v).held.reads) →
      Starts (p
      ++ before_if b (acts.byte w.held.held w.cpu.pc) (operand_bytes acts op rest (step acts op a (behind w))))
      (walk (recording acts) op rest (step (recording acts) op a w)).held.reads
  lead-by true op a rest p w f e short l next =
      let parts = split_and (is_always a.when_) (is_lead rest) l in
      let byte = acts.byte w.held.held w.cpu.pc in
      let v : Walk (Recorded Held) = step (recording acts) op a w in
      let q : List ℕ = p ++ (byte ∷ []) in
      let long : length q ≡ length p + 1 = length-append p (byte ∷ []) in
      let reads : v.held.reads ≡ q =
      fetched op a.when_ a.place a.transfer a.then_ w parts.0 f ∙ ap (λ r. noted r byte) e
      ∙ take_all 4 q (omega arith) in
      let found = next q v reads (omega arith) parts.1 in
      subst (λ bytes. Starts bytes (walk (recording acts) op rest v).held.reads)
      (append_assoc p (byte ∷ []) (operand_bytes acts op rest (behind v))
      ∙ ap (λ u. p ++ (byte ∷ operand_bytes acts op rest u)) (behind-step acts op a w))
      found
  lead-by false op a rest p w f e short l next =
      let none : fetch_count rest ≡ 0 = grind (arith, nat_tests) in
      let v : Walk (Recorded Held) = step (recording acts) op a w in
      let start : Starts p w.held.reads = record { more = []; begin = e ∙ sym (append-nil p) } in
      let kept : Starts p (walk (recording acts) op (a ∷ rest) w).held.reads =
      starts-walk op p (a ∷ rest) w (omega arith) start in
      subst (λ bytes. Starts bytes (walk (recording acts) op rest v).held.reads)
      (sym (ap (λ l. p ++ l) (no_more acts op rest (step acts op a (behind w)) none) ∙ append-nil p))
      kept

  lead : (op : Op) (xs : List Access) (p : List ℕ) (w : Walk (Recorded Held)) → w.held.reads ≡ p
      → length p + fetch_count xs ≤ 4 → is_lead xs ≡ true →
      Starts (p ++ operand_bytes acts op xs (behind w)) (walk (recording acts) op xs w).held.reads
  lead op [] p w e short l = record { more = []; begin = e ∙ sym (append-nil p) ∙ sym (append-nil (p ++ [])) }
  lead op (a ∷ rest) p w e short l =
      lead-by (fetches a.place a.transfer) op a rest p w refl e short l (λ q v. lead op rest q v)

-- a walk over the recorder, with these reads made
abbrev on_top : {Held : Type 0} → Walk Held → List ℕ → Walk (Recorded Held)
on_top w reads = record {
  cpu = w.cpu;
  held = record { held = w.held; reads = reads };
  rises = w.rises;
  low = w.low;
  high = w.high;
  pointer = w.pointer;
  page = w.page;
  data_ = w.data_;
}

-- the bytes are picked where the reads begin with them
picked-first : (first : ℕ) (bytes reads : List ℕ) (len : ℕ) → suc (length bytes) ≡ len → len ≤ 3
    → Starts (first ∷ bytes) reads →
    picked false len reads ≡ in_three (first ∷ bytes)
picked-first first [] reads len e h s = rw (← e, s.begin) refl
picked-first first (a ∷ []) reads len e h s = rw (← e, s.begin) refl
picked-first first (a ∷ b ∷ []) reads len e h s = rw (← e, s.begin) refl
picked-first first (a ∷ b ∷ c ∷ bytes) reads len e h s = absurd (omega arith)

-- what is known of a row
record Fits (row : OpRow) : Type 0 where
  leads : (is_call (class_of row.op row.mode) || is_lead (accesses (class_of row.op row.mode) row.mode row.kind)) ≡ true
  long : suc (fetch_count (accesses (class_of row.op row.mode) row.mode row.kind)) ≡ length_of row.mode
  short : length_of row.mode ≤ 3

fits_of : (opcode : ℕ) → opcode < 256 → Fits (row_of opcode)
fits_of opcode h =
    let row = row_of opcode in
    let xs = accesses (class_of row.op row.mode) row.mode row.kind in
    let one = split_and (is_call (class_of row.op row.mode) || is_lead xs) _ (all_fit opcode h) in
    let two = split_and (suc (fetch_count xs) == length_of row.mode) (nat_le (length_of row.mode) 3) one.1 in
    record { leads = one.0; long = grind (arith, nat_tests); short = grind (arith, nat_tests) }

module _ {Held : Type 0} (acts : Acts Held) where
  -- the reads of an instruction that leads with its fetches begin with its bytes
  led : (class : Class) (row : OpRow) (w : Walk Held) (opcode : ℕ) → is_lead (accesses class row.mode row.kind) ≡ true →
      fetch_count (accesses class row.mode row.kind) ≤ 2 →
      Starts (opcode ∷ operand_bytes acts row.op (accesses class row.mode row.kind) (opened class w))
      (rest_by (recording acts) class row (on_top w (opcode ∷ []))).held.reads
  unfolding rest_by
  led class row w opcode leads few =
      let xs = accesses class row.mode row.kind in
      let v : Walk (Recorded Held) = opened class (on_top w (opcode ∷ [])) in
      let reads : v.held.reads ≡ opcode ∷ [] =
      ap (λ (h : Recorded Held). h.reads) (held-opened class (on_top w (opcode ∷ []))) in
      let found = lead acts row.op xs (opcode ∷ []) v reads (omega (arith, few)) leads in
      subst (λ u. Starts (opcode ∷ operand_bytes acts row.op xs u) (walk (recording acts) row.op xs v).held.reads)
      (behind-opened acts class (on_top w (opcode ∷ []))) found

  -- those of a call have one of the stack between
  called : (class : Class) (row : OpRow) (w : Walk Held) (opcode : ℕ) → is_call class ≡ true →
      picked true 3 (rest_by (recording acts) class row (on_top w (opcode ∷ []))).held.reads
      ≡ in_three (opcode ∷ operand_bytes acts row.op (accesses class row.mode row.kind) (opened class w))
  unfolding rest_by
  called Calls row w opcode c = refl
  called _ row w opcode c = cc

  call_long : (class : Class) (row : OpRow) → is_call class ≡ true → fetch_count (accesses class row.mode row.kind) ≡ 2
  call_long Calls row c = refl
  call_long _ row c = cc

  picked-by : (b : Bool) (class : Class) (row : OpRow) (w : Walk Held) (opcode : ℕ) → is_call class ≡ b →
      (b || is_lead (accesses class row.mode row.kind)) ≡ true
      → suc (fetch_count (accesses class row.mode row.kind)) ≡ length_of row.mode → length_of row.mode ≤ 3 →
      picked b (length_of row.mode) (rest_by (recording acts) class row (on_top w (opcode ∷ []))).held.reads
      ≡ in_three (opcode ∷ operand_bytes acts row.op (accesses class row.mode row.kind) (opened class w))
  picked-by true class row w opcode c leads long short =
      let three : length_of row.mode ≡ 3 = sym long ∙ ap suc (call_long class row c) in
      ap (λ len. picked true len (rest_by (recording acts) class row (on_top w (opcode ∷ []))).held.reads) three
      ∙ called class row w opcode c
  picked-by false class row w opcode c leads long short =
      let xs = accesses class row.mode row.kind in
      picked-first opcode (operand_bytes acts row.op xs (opened class w)) _ (length_of row.mode)
      (ap suc (counted acts row.op xs (opened class w))
      ∙ long) short (led class row w opcode leads (omega (arith, long, short)))

  -- the reads of an instruction begin with its opcode
  first : (class : Class) (row : OpRow) (w : Walk Held) (opcode : ℕ)
      → nth (rest_by (recording acts) class row (on_top w (opcode ∷ []))).held.reads 0 ≡ opcode
  unfolding rest_by
  first class row w opcode =
      let v : Walk (Recorded Held) = opened class (on_top w (opcode ∷ [])) in
      let reads : v.held.reads ≡ (opcode ∷ []) ++ [] =
      ap (λ (h : Recorded Held). h.reads) (held-opened class (on_top w (opcode ∷ []))) in
      let kept =
      starts-walk acts row.op (opcode ∷ []) (accesses class row.mode row.kind) v (omega arith)
      (record { more = []; begin = reads }) in
      ap (λ l. nth l 0) kept.begin

  -- the bytes of an instruction are picked from its first reads, and are as many as its length
  record IsTold (cpu : Cpu) (held : Held) (reads : List ℕ) : Type 0 where
    opcode : nth reads 0 ≡ acts.byte held cpu.pc
    bytes : acts.byte held cpu.pc < 256
        → bytes_by (row_of (acts.byte held cpu.pc)) reads ≡ in_three (code_bytes acts cpu held)
    len : acts.byte held cpu.pc < 256
        → length (code_bytes acts cpu held) ≡ length_of (row_of (acts.byte held cpu.pc)).mode

  is_told : (cpu : Cpu) (held : Held) →
      IsTold cpu held
      (rest_of (recording acts) (row_of (acts.byte held cpu.pc))
      (opcode_read (recording acts) cpu (record { held = held; reads = [] }))).held.reads
  unfolding code_bytes operand_of rest_of bytes_by
  is_told cpu held =
      let opcode = acts.byte held cpu.pc in
      let row = row_of opcode in
      let class = class_of row.op row.mode in
      let w : Walk Held = opcode_read acts cpu held in
      record {
        opcode = first class row w opcode;
        bytes = λ below.
            let fits =
            fits_of opcode below in picked-by (is_call class) class row w opcode refl fits.leads fits.long fits.short;
        len = λ below.
            let fits = fits_of opcode below in
            ap suc (counted acts row.op (accesses class row.mode row.kind) (opened class w)) ∙ fits.long;
      }

  -- an instruction comes where nothing else does
  runs_by : (b : Bool) (page : Option ℕ) (note : Note) → awaited_by b page note ≡ None
      → (b ≡ false) × ((page ≡ None) × (note ≢ Due))
  runs_by true page _ e = cc
  runs_by false (Some page) _ e = cc
  runs_by false None Due e = cc
  runs_by false None NoNote e = (refl, (refl, λ d. cc))
  runs_by false None Late e = (refl, (refl, λ d. cc))

  -- what is told of a unit over the recorder
  pub told_as : (a : Option UnitKind) (cpu : Cpu) (held : Held) → awaited_by cpu.jammed (acts.page held) cpu.note ≡ a →
      nth (unit_of (recording acts) cpu (record { held = held; reads = [] })).held.reads 0 < 256 →
      told_by a (unit_of (recording acts) cpu (record { held = held; reads = [] })).held.reads
      ≡ record {
        kind = kind_or a (row_of (acts.byte held cpu.pc));
        len = length (bytes_or a (code_bytes acts cpu held));
        bytes = in_three (bytes_or a (code_bytes acts cpu held));
      }
  told_as (Some kind) cpu held e below = refl
  told_as None cpu held e below =
      let opcode = acts.byte held cpu.pc in
      let runs = runs_by cpu.jammed (acts.page held) cpu.note e in
      let start : Recorded Held = record { held = held; reads = [] } in
      let unit =
      unit-runs (recording acts) cpu start opcode
      (record { not_jammed = runs.0; no_copy = runs.1.0; no_entry = runs.1.1; at_pc = refl }) in
      let told = is_told cpu held in
      let reads = (rest_of (recording acts) (row_of opcode) (opcode_read (recording acts) cpu start)).held.reads in
      let same : (unit_of (recording acts) cpu start).held.reads ≡ reads =
      ap (λ (u : Unit (Recorded Held)). u.held.reads) unit in
      let byte : opcode < 256 = subst (λ n. n < 256) (ap (λ l. nth l 0) same ∙ told.opcode) below in
      let whole : List ℕ → ℕ → Told =
      λ l n. (let row =
      row_of n in record { kind = kind_in row; len = length_of row.mode; bytes = bytes_by row l }) in
      let made : ℕ → List ℕ → Told = λ len bytes. record { kind = kind_in (row_of opcode); len = len; bytes = bytes } in
      ap (λ l. whole l (nth l 0)) same
      ∙ ap (λ n. whole reads n) told.opcode
      ∙ ap (λ l. made (length_of (row_of opcode).mode) l) (told.bytes byte)
      ∙ ap (λ n. made n (in_three (code_bytes acts cpu held))) (sym (told.len byte))
