use Rattle.nj_plan.proofs.Sound.{RulesTell, SearchesKeep}
use Rattle.nj_plan.proofs.Resumed.{resumed_is_unbroken}
use Rattle.nj_plan.proofs.laws.resumed_is_unbroken.Goals as goal

pub returns : goal.returns
returns c =
    let tell : RulesTell = record {
      named = c.allowed_pads_come_once.ensures.named;
      never_zero = c.keys_tell_bytes_and_status.ensures.never_zero;
      fit = c.keys_tell_bytes_and_status.ensures.fit;
      levels = c.levels_are_few.ensures;
    } in
    let keep : SearchesKeep = record {
      opening = c.limits_are_sound.ensures.opening;
      goes_on = c.limits_are_sound.ensures.goes_on;
      forgets = c.limits_are_sound.ensures.forgets;
      some_seen = c.limits_are_sound.ensures.some_seen;
      fronts = c.limits_have_fronts.ensures;
      fronts_from = c.limits_have_fronts_from.ensures;
    } in
    resumed_is_unbroken tell keep c.generations_come_once.ensures.once c.generations_come_once.ensures.all
    c.what_was_written_is_read.ensures.second c.states_are_saved_whole.ensures c.a_forgotten_state_goes_on_alike.ensures
    c.limits_add.ensures
