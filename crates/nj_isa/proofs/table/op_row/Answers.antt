use Rattle.std.proofs.Common.{ap, ◌∙◌, arith}
use Rattle.nj_isa.proofs.Rows.{from_tuple, row_at}
use Rattle.nj_isa.proofs.table.op_row.Goals as goal

-- the entry of the opcode is the definition's row
pub returns : goal.returns
returns c = c.from_tuple.ensures ∙ ap from_tuple (row_at c.args.opcode _ (omega arith))
