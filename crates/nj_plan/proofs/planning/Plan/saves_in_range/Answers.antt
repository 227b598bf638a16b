use Rattle.std.proofs.Common.{◌≤◌, ℕ, Bool, subst, refl}
use Rattle.std.specs.Prelude.{IfSome}
use Rattle.nj_saved.specs.Ranges.{IsInRange}
use Rattle.nj_game.specs.Plan.{plan_of}
use Rattle.nj_plan.specs.Plans.{Planned}
use Rattle.nj_plan.specs.Outcomes.{outcome_of, saved_in}
use Rattle.nj_plan.proofs.Sound.{RulesTell, SearchesKeep, CanRun, saves_in_range}
use Rattle.nj_plan.proofs.planning.Plan.saves_in_range.Goals as goal

pub returns : goal.returns
returns c =
    let s = c.self.inside in
    let planned : Planned = record { plan = plan_of s.cart s.script s.start; limits = s.limits; saved = s.saved } in
    let tell : RulesTell = record {
      named = c.allowed_pads_come_once.ensures.named;
      never_zero = c.keys_tell_bytes_and_status.ensures.never_zero;
      fit = c.keys_tell_bytes_and_status.ensures.fit;
      levels = c.levels_are_few.ensures;
    } in
    let keep : SearchesKeep = record {
      opening = c.limits_are_sound.ensures.opening;
      goes_on = c.limits_are_sound.ensures.goes_on;
      forgets = c.limits_are_sound.ensures.forgets;
      some_seen = c.limits_are_sound.ensures.some_seen;
      fronts = c.limits_have_fronts.ensures;
      fronts_from = c.limits_have_fronts_from.ensures;
    } in
    let can : CanRun planned = record {
      limits = c.self.invariant.0;
      hold = subst (λ (n : ℕ). 1 ≤ n) c.hold-hold.ensures.value c.hold-hold.ensures.low;
      tolerance =
          subst (λ (n : ℕ). n ≤ 1048576) c.tolerance-tolerance.ensures.value c.tolerance-tolerance.ensures.within;
      rules = subst (λ (n : ℕ). n ≤ 128) c.rule_count-rules.ensures.value c.rule_count-rules.ensures.within;
      pads = subst (λ (n : ℕ). n ≤ 256) c.input_count-inputs.ensures.value c.input_count-inputs.ensures.within;
      saved = c.self.invariant.1;
      fits = c.self.invariant.2;
      accepted = c.self.invariant.3;
    } in
    subst (λ (p : Planned). (keep : Bool) → IfSome (saved_in keep (outcome_of p)) IsInRange) c.self.view_is
    (saves_in_range tell keep c.generations_come_once.ensures.once c.generations_come_once.ensures.all planned can
    (outcome_of planned) refl)
