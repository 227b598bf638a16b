-- The files that are made are those of the number.
use Rattle.std.proofs.Common.{◌≡◌, ◌≤◌, ◌+◌, ◌∙◌, ℕ, List, length, ap, subst}
use Rattle.std.proofs.lemmas.Result.{err_from_is_err_and}
use Rattle.nj_workload.specs.Game.{game_file}
use Rattle.nj_workload.specs.Script.{script_text, start_text}
use Rattle.nj_tasks.specs.Formats.{cart_format, made, movie_format, script_format}
use Rattle.nj_tasks.specs.Stops.{Serves}
use Rattle.nj_tasks.specs.Work.{Work, both, found_in, frames_of, given}
use Rattle.nj_app.specs.Workload.{workload_finding, workload_work}
use Rattle.nj_tasks.proofs.Serving.{serves_no_memory}
use Rattle.nj_app.proofs.workload.workload.Goals as goal

-- the work over these files
abbrev work_over : ℕ → ℕ → List ℕ → List ℕ → List ℕ → Work
work_over number size cart script start =
    both (both (made cart_format cart) (made script_format script)) (made movie_format start)
    (found_in (workload_finding number size))

work_is : (number size : ℕ) (cart script start : List ℕ) → cart ≡ game_file number → script ≡ script_text number →
    start ≡ start_text → size ≡ length (game_file number) →
    work_over number size cart script start ≡ workload_work number
unfolding workload_work
work_is number size cart script start a b c d = ap (λ x. work_over number size x script start) a
    ∙ ap (λ x. work_over number size (game_file number) x start) b
    ∙ ap (λ x. work_over number size (game_file number) (script_text number) x) c
    ∙ ap (λ x. work_over number x (game_file number) (script_text number) start_text) d

pub returns-in_err-made-clause-serves : goal.returns-in_err-made-clause-serves
returns-in_err-made-clause-serves g c = λ files told.
    let p = err_from_is_err_and c.from_residual.result c.from_residual.ensures.1 in
    serves_no_memory files _ _ c.from_residual.result _ p.1 p.2

pub returns-clause-serves : goal.returns-clause-serves
returns-clause-serves g c = λ files told.
    subst (λ work. Serves files work (g.S.Shelf.failed_read c.serve.new.shelf) c.serve.result)
    (work_is c.args.number _ _ _ _ (c.as_slice.ensures.value ∙ c.in_ok-made.ensures.cart) (c.as_bytes.ensures.value
    ∙ c.in_ok-made.ensures.script)
    (c.as_bytes-2.ensures.value ∙ c.in_ok-made.ensures.start)
    (c.len-size.ensures ∙ ap length c.in_ok-made.ensures.cart)) (c.serve.ensures.serves files told)

pub returns-clause-frames : goal.returns-clause-frames
returns-clause-frames g c = λ files told.
    subst (λ work. c.serve.new.steps ≤ c.args.steps.now + frames_of (given files work))
    (work_is c.args.number _ _ _ _ (c.as_slice.ensures.value ∙ c.in_ok-made.ensures.cart) (c.as_bytes.ensures.value
    ∙ c.in_ok-made.ensures.script)
    (c.as_bytes-2.ensures.value ∙ c.in_ok-made.ensures.start)
    (c.len-size.ensures ∙ ap length c.in_ok-made.ensures.cart)) (c.serve.ensures.frames files told)
