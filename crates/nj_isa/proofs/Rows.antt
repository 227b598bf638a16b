-- The static table has the rows of the definition.
use Rattle.std.proofs.Common.{◌≡◌, ℕ, ◌<◌, map, get_or, refl, ap, ◌∙◌, arith}
use Rattle.std.specs.List.{range_with_len}
use Rattle.std.proofs.lemmas.List.FromFn.{get_or-map-range_with_len}
use Rattle.nj_isa.specs.declared.operations.Op.{Op}
use Rattle.nj_isa.specs.declared.modes.Mode.{Mode}
use Rattle.nj_isa.specs.declared.modes.Kind.{Kind}
use Rattle.nj_isa.specs.declared.table.OpRow.{OpRow}
use Rattle.nj_isa.specs.declared.table.TheConstants.{ROWS}
use Rattle.nj_isa.specs.Table.{row_of}

-- a row as the table holds it
abbrev pub as_tuple : OpRow → Op × Mode × Kind
as_tuple r = (r.op, r.mode, r.kind)

-- a row of the table as a row
abbrev pub from_tuple : Op × Mode × Kind → OpRow
from_tuple t = record { op = t.0; mode = t.1; kind = t.2 }

-- the table lists the rows in the order of the opcodes
pub rows_are : ROWS ≡ map (λ n. as_tuple (row_of n)) (range_with_len 0 256)
unfolding row_of
rows_are = refl

-- the entry of an opcode is its row
pub row_at : (n : ℕ) (d : Op × Mode × Kind) → n < 256 → get_or ROWS n d ≡ as_tuple (row_of n)
row_at n d h = ap (λ rows. get_or rows n d) rows_are ∙ get_or-map-range_with_len (λ k. as_tuple (row_of k)) 0 256 n n d h (omega arith)
