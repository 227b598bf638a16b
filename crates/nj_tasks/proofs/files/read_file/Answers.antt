-- The file is read as its format says.
use Rattle.std.proofs.Common.{Err, ap, arith}
use Rattle.nj_tasks.specs.declared.files.Bounds.{Bounds}
use Rattle.nj_tasks.proofs.Readers.{fault_loads, file_loads, made_loads, made_past, no_memory_loads, without_loads}
use Rattle.nj_tasks.proofs.files.read_file.Goals as goal

pub returns-in-Some-clause-loads : goal.returns-in-Some-clause-loads
returns-in-Some-clause-loads g c = λ files told.
    without_loads files (g.F.Format.format c.args.format) _ c.args.name.now c.in-Some.value c.in-Some.ensures.value

pub returns-in-Ok-clause-loads : goal.returns-in-Ok-clause-loads
returns-in-Ok-clause-loads g c = λ files told.
    let limit = ap (λ (b : Bounds). b.limit) c.bounds-bounds.ensures in
    file_loads files (g.F.Format.format c.args.format) _ c.args.name.now c.in-None.ensures.value c.in-Ok.bytes.items
    c.read.result
    (c.in-Ok.ensures.whole files told)
    (made_loads files (g.F.Format.format c.args.format) _ c.in-Ok.bytes.items c.read.result
    (omega (arith, limit, c.in-Ok.ensures.within, c.in-Ok.bytes.ok.0))
    (rw c.as_slice.ensures.value at c.read.ensures.reads))

pub returns-in-Err-ReadFault-clause-loads : goal.returns-in-Err-ReadFault-clause-loads
returns-in-Err-ReadFault-clause-loads g c = λ files told.
    fault_loads files (g.F.Format.format c.args.format) _ c.args.name.now c.in-None.ensures.value
    (c.in-Err-ReadFault.ensures.fault_name (ap Err c.in-Err-ReadFault.field-0-is))

pub returns-in-Err-TooLong-clause-loads : goal.returns-in-Err-TooLong-clause-loads
returns-in-Err-TooLong-clause-loads g c = λ files told.
    let limit = ap (λ (b : Bounds). b.limit) c.bounds-bounds.ensures in
    let file = c.in-Err-TooLong.ensures.too_long files told c.in-Err-TooLong.field-0-0
    (ap Err c.in-Err-TooLong.field-0-is) in
    file_loads files (g.F.Format.format c.args.format) _ c.args.name.now c.in-None.ensures.value file.0
    (Err c.too_long.result) file.1
    (made_past files (g.F.Format.format c.args.format) _ file.0 c.too_long.result (omega (arith, limit, file.2))
    (rw c.bounds-bounds.ensures at c.too_long.ensures))

pub returns-in-Err-NoMemory-clause-loads : goal.returns-in-Err-NoMemory-clause-loads
returns-in-Err-NoMemory-clause-loads g c =
    λ files told. no_memory_loads files (g.F.Format.format c.args.format) _ c.args.name.now
