-- A bus that keeps the values of its first four reads, and is otherwise the one behind it.
use Rattle.std.specs.Prelude.{ℕ, Bool, true, false, nat_lt, if◌then◌else◌, List, [], ◌∷◌, ◌++◌, take, get_or, Option, Some, None}
use Rattle.nj_isa.specs.Bus.{Acts}
use Rattle.nj_isa.specs.Names.{length_of}
use Rattle.nj_isa.specs.Table.{row_of}
use Rattle.nj_isa.specs.Accesses.{class_of}
use Rattle.nj_isa.specs.declared.classes.Class.{Class}
use Rattle.nj_isa.specs.declared.classes.Class.TheVariants.{Calls}
use Rattle.nj_isa.specs.declared.table.OpRow.{OpRow}
use Rattle.nj_machine.specs.Seen.{kind_in}
use Rattle.nj_machine.specs.declared.seeing.UnitKind.{UnitKind}

-- what the bus behind it holds, and the values of the first reads
pub record Recorded (Held : Type 0) : Type 0 where
  pub held : Held
  pub reads : List ℕ

-- a value more, where there are fewer than four
abbrev pub noted : List ℕ → ℕ → List ℕ
noted reads byte = take 4 (reads ++ (byte ∷ []))

-- the recorder's calls
abbrev pub recording : {Held : Type 0} → Acts Held → Acts (Recorded Held)
recording acts = record {
  byte = λ r at. acts.byte r.held at;
  after_read = λ r at. record { held = acts.after_read r.held at; reads = noted r.reads (acts.byte r.held at) };
  after_write = λ r at value. record { held = acts.after_write r.held at value; reads = r.reads };
  line = λ r. acts.line r.held;
  page = λ r. acts.page r.held;
  after_take = λ r. record { held = acts.after_take r.held; reads = r.reads };
  odd = λ r. acts.odd r.held;
}

-- a call fetches its last byte after the stack was read
abbrev pub is_call : Class → Bool
is_call Calls = true
is_call _ = false

-- the value of a read, or 0 where it was not made
abbrev pub nth : List ℕ → ℕ → ℕ
nth reads n = get_or reads n 0

-- the bytes of an instruction among its first reads, zeros behind them: those in order, but for a call
abbrev pub picked : Bool → ℕ → List ℕ → List ℕ
picked calls len reads =
    nth reads 0
    ∷ (if nat_lt 1 len then nth reads 1 else 0)
    ∷ (if nat_lt 2 len then nth reads (if calls then 3 else 2) else 0)
    ∷ []

-- the same by the row of the opcode that was read
unfoldable pub bytes_by : OpRow → List ℕ → List ℕ
bytes_by row reads = picked (is_call (class_of row.op row.mode)) (length_of row.mode) reads

-- what is told of a unit: its kind, how many bytes it has, and the bytes
pub record Told : Type 0 where
  pub kind : UnitKind
  pub len : ℕ
  pub bytes : List ℕ

abbrev pub told_by : Option UnitKind → List ℕ → Told
told_by (Some kind) reads = record { kind = kind; len = 0; bytes = 0 ∷ 0 ∷ 0 ∷ [] }
told_by None reads =
    let row =
    row_of (nth reads 0) in record { kind = kind_in row; len = length_of row.mode; bytes = bytes_by row reads }
