-- What was read first leads on to what is read second.
use Rattle.std.proofs.Common.{◌∙◌, Err, ap}
use Rattle.std.proofs.lemmas.Result.{err_from_is_err_and}
use Rattle.nj_tasks.proofs.Serving.{among_second, first_stops, part_loads, part_stops, same_stop, then_loads}
use Rattle.nj_tasks.proofs.files.Tuple2Source.load.Goals as goal

pub returns-in_err-first-clause-loads : goal.returns-in_err-first-clause-loads
returns-in_err-first-clause-loads g c = λ files told.
    let p = err_from_is_err_and c.from_residual.result c.from_residual.ensures.1 in
    first_stops files (g.A.Source.work c.args.self.now.0)
    (λ a next. g.B.Source.work c.args.self.now.1 (λ b. next (a, b))) _ c.in_err-first.field-0.0
    c.from_residual.result (p.1 ∙ ap Err p.2) (c.in_err-first.ensures.loads files told)

pub returns-in_err-second-clause-loads : goal.returns-in_err-second-clause-loads
returns-in_err-second-clause-loads g c = λ files told.
    let p = err_from_is_err_and c.from_residual-in_err-second.result c.from_residual-in_err-second.ensures.1 in
    then_loads files (g.A.Source.work c.args.self.now.0)
    (λ a next. g.B.Source.work c.args.self.now.1 (λ b. next (a, b))) _ _ c.in_ok-first.first
    c.from_residual-in_err-second.result (c.in_ok-first.ensures.loads files told)
    (part_stops files (g.B.Source.work c.args.self.now.1) (λ b. (c.in_ok-first.first, b)) _ c.in_err-second.field-0.0
    c.from_residual-in_err-second.result (p.1 ∙ ap Err p.2)
    (c.in_err-second.ensures.loads files (c.in_ok-first.ensures.content ∙ told)))

pub returns-in_err-second-clause-fault_name : goal.returns-in_err-second-clause-fault_name
returns-in_err-second-clause-fault_name g c = λ e.
    let p = err_from_is_err_and c.from_residual-in_err-second.result c.from_residual-in_err-second.ensures.1 in
    among_second (g.A.Source.names c.args.self.now.0) (g.B.Source.names c.args.self.now.1) _
    (c.in_err-second.ensures.fault_name (ap Err (same_stop c.from_residual-in_err-second.result _ _ (p.1
    ∙ ap Err p.2) e)))

pub returns-clause-loads : goal.returns-clause-loads
returns-clause-loads g c = λ files told.
    then_loads files (g.A.Source.work c.args.self.now.0)
    (λ a next. g.B.Source.work c.args.self.now.1 (λ b. next (a, b))) _ _ c.in_ok-first.first _
    (c.in_ok-first.ensures.loads files told)
    (part_loads files (g.B.Source.work c.args.self.now.1) (λ b. (c.in_ok-first.first, b)) _ c.in_ok-second.second
    (c.in_ok-second.ensures.loads files (c.in_ok-first.ensures.content ∙ told)))
