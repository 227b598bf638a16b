-- The text is written, and then the file is put.
use Rattle.std.proofs.Common.{◌≤◌, ◌∙◌, length, take, inl, inr, refl, ap, subst}
use Rattle.nj_outside.specs.Told.{appended}
use Rattle.nj_tasks.proofs.Statuses.{always_ok, fault_more}
use Rattle.nj_tasks.proofs.telling.hand_over.Goals as goal

pub returns-in-Ok-clause-written : goal.returns-in-Ok-clause-written
returns-in-Ok-clause-written g c =
    always_ok c.put.result (c.in-Ok.ensures.ok
    ∙ ap (λ text. appended (g.O.Sink.written c.args.out.now) text) c.as_slice.ensures.value)

pub returns-in-Ok-clause-no_write_fault : goal.returns-in-Ok-clause-no_write_fault
returns-in-Ok-clause-no_write_fault g c = always_ok c.put.result c.in-Ok.ensures.no_fault

pub returns-in-Ok-clause-fault : goal.returns-in-Ok-clause-fault
returns-in-Ok-clause-fault g c =
    fault_more c.put.result c.put.ensures.fault c.put.ensures.cut
    (λ rose cut. inr (
      rose,
      c.in-Ok.ensures.ok
          ∙ ap (λ text. appended (g.O.Sink.written c.args.out.now) text) c.as_slice.ensures.value,
      cut,
    ))

pub returns-in-Err-clause-fault : goal.returns-in-Err-clause-fault
returns-in-Err-clause-fault g c =
    let front = c.in-Err.ensures.prefix in
    inl (
      c.in-Err.ensures.fault,
      record {
        count = front.0;
        within = subst (λ text. front.0 ≤ length text) c.as_slice.ensures.value front.1;
        written =
            front.2 ∙ ap (λ text. appended (g.O.Sink.written c.args.out.now) (take front.0 text))
            c.as_slice.ensures.value;
        files = refl;
      },
    )
