-- A plan that is not refused is searched, and its frames are the search's.
use Rattle.std.proofs.Common.{◌≡◌, Bool, Some, None, Ok, Err, refl, sym, ap, ◌∙◌}
use Rattle.nj_plan.specs.Outcomes.{frames_most}
use Rattle.nj_search.specs.Ends.{ended_of}
use Rattle.nj_plan.specs.Plans.{Planned, refusal_of}
use Rattle.nj_plan.specs.declared.planning.PlanRefused.{PlanRefused}
use Rattle.nj_search.specs.declared.searching.Ended.{Ended}
use Rattle.nj_tasks.specs.Work.{frames_for}
use Rattle.nj_app.specs.Refusals.{plan_refusal}
use Rattle.nj_app.specs.Search.{search_reading}

module _ (planned : Planned) (keep : Bool) where
  pub is_found : (p : Planned) (ended : Ended) → refusal_of planned.plan planned.limits planned.saved ≡ None →
      p ≡ planned → ended ≡ ended_of p keep → search_reading planned keep ≡ Ok ended
  unfolding search_reading
  is_found p ended none is found = rw none (ap Ok (ap (λ (q : Planned). ended_of q keep) (sym is) ∙ sym found))

  pub is_refused : (refused : PlanRefused) → refusal_of planned.plan planned.limits planned.saved ≡ Some refused →
      search_reading planned keep ≡ Err (plan_refusal refused)
  unfolding search_reading
  is_refused refused some = rw some refl

  pub found_frames : (p : Planned) → refusal_of planned.plan planned.limits planned.saved ≡ None → p ≡ planned →
      frames_for (search_reading planned keep) (frames_most planned) ≡ frames_most p
  unfolding search_reading
  found_frames p none is = rw none (ap frames_most (sym is))
