-- The saved search is a part of what is searched.
use Rattle.std.proofs.Common.{◌∙◌, Err, ap}
use Rattle.std.proofs.lemmas.Result.{err_from_is_err_and}
use Rattle.nj_tasks.specs.Formats.{loaded, saved_format}
use Rattle.nj_app.specs.Search.{with_saved}
use Rattle.nj_tasks.proofs.Serving.{part_loads, part_stops}
use Rattle.nj_app.proofs.search.with_saved.Goals as goal

pub returns-in_err-saved-clause-loads : goal.returns-in_err-saved-clause-loads
returns-in_err-saved-clause-loads g c = λ files told.
    let p = err_from_is_err_and c.from_residual.result c.from_residual.ensures.1 in
    part_stops files (loaded (saved_format c.args.input.cart_hash c.args.input.script_hash) c.args.name.now)
    (with_saved c.args.input) _ c.in_err-saved.field-0.0 c.from_residual.result (p.1 ∙ ap Err p.2)
    (rw (c.named.ensures.format, c.named.ensures.name) at (c.in_err-saved.ensures.loads files told))

pub returns-clause-loads : goal.returns-clause-loads
returns-clause-loads g c = λ files told.
    part_loads files (loaded (saved_format c.args.input.cart_hash c.args.input.script_hash) c.args.name.now)
    (with_saved c.args.input) _ c.in_ok-saved.saved
    (rw (c.named.ensures.format, c.named.ensures.name) at (c.in_ok-saved.ensures.loads files told))
