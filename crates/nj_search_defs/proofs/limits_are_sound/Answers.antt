use Rattle.nj_search_defs.proofs.Going.{openings_are_sound, limits_are_sound, forgetting_is_sound, limits_have_seen}
use Rattle.nj_search_defs.proofs.limits_are_sound.Goals as goal

pub returns-clause-opening : goal.returns-clause-opening
returns-clause-opening c = openings_are_sound

pub returns-clause-goes_on : goal.returns-clause-goes_on
returns-clause-goes_on c = limits_are_sound

pub returns-clause-forgets : goal.returns-clause-forgets
returns-clause-forgets c = forgetting_is_sound

pub returns-clause-some_seen : goal.returns-clause-some_seen
returns-clause-some_seen c = limits_have_seen
