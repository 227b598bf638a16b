use Rattle.std.proofs.Common.{arith}
use Rattle.nj_workload.proofs.Bytes.{taken_length}
use Rattle.nj_workload.proofs.files_of.Goals as goal

pub slice_bounds-made-end : goal.slice_bounds-made-end
slice_bounds-made-end c = taken_length 512 514 c.args.bytes.now c.requires (omega arith)
