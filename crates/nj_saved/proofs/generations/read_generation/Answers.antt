-- The count, and then the keys.
use Rattle.std.proofs.Common.{inr}
use Rattle.std.proofs.lemmas.Result.{err_from_is_err_and}
use Rattle.nj_saved.proofs.Loops.{count_refused, generation_read}
use Rattle.nj_saved.proofs.generations.read_generation.Goals as goal

pub returns-in_err-count : goal.returns-in_err-count
returns-in_err-count c =
    let p = err_from_is_err_and c.from_residual.result c.from_residual.ensures.1 in
    rw (p.1, p.2)
    (inr
    (count_refused c.args.file.now c.args.older.now c.args.at c.in_err-count.field-0.0 c.in_err-count.ensures.test))

pub returns : goal.returns
returns c =
    generation_read c.args.file.now c.args.older.now c.args.at c.in_ok-count.count c.read_keys.result
    c.in_ok-count.ensures.test c.in_ok-count.ensures.count
    c.in_ok-count.ensures.few c.read_keys.ensures
