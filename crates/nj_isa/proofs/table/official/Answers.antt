use Rattle.std.proofs.Common.{ap, ◌∙◌, sym, arith}
use Rattle.nj_isa.specs.Table.{in_manual}
use Rattle.nj_isa.specs.declared.table.OpRow.{OpRow}
use Rattle.nj_isa.proofs.Published.{official_by_row}
use Rattle.nj_isa.proofs.table.official.Goals as goal

-- the row's operation and the opcode tell it
pub returns : goal.returns
returns c =
    c.in_manual.ensures
    ∙ ap (λ (row : OpRow). in_manual row.op c.args.opcode) c.op_row.ensures
    ∙ sym (official_by_row c.args.opcode (omega arith))
