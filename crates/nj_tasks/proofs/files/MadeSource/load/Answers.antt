-- The bytes are read as their format says.
use Rattle.std.proofs.Common.{ap, arith}
use Rattle.nj_tasks.specs.declared.files.Bounds.{Bounds}
use Rattle.nj_tasks.proofs.Readers.{made_loads, made_past}
use Rattle.nj_tasks.proofs.files.MadeSource.load.Goals as goal

pub returns-then-self-bounds-clause-loads : goal.returns-then-self-bounds-clause-loads
returns-then-self-bounds-clause-loads g c = λ files told.
    let limit = ap (λ (b : Bounds). b.limit) c.bounds-bounds.ensures in
    made_past files (g.F.Format.format c.args.self.now.format) _ c.args.self.now.bytes.now c.too_long.result
    (omega (arith, limit, c.if-self-bounds.true))
    (rw c.bounds-bounds.ensures at c.too_long.ensures)

pub returns-clause-loads : goal.returns-clause-loads
returns-clause-loads g c = λ files told.
    let limit = ap (λ (b : Bounds). b.limit) c.bounds-bounds.ensures in
    made_loads files (g.F.Format.format c.args.self.now.format) _ c.args.self.now.bytes.now c.read.result
    (omega (arith, limit, c.if-self-bounds.false)) c.read.ensures.reads
