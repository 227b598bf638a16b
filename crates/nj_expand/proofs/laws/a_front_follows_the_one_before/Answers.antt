use Rattle.nj_game.specs.Words.{game_of}
use Rattle.nj_expand.specs.Held.{next_in}
use Rattle.nj_expand.proofs.laws.a_front_follows_the_one_before.Goals as goal

pub returns-clause-few : goal.returns-clause-few
unfolding next_in
returns-clause-few c held state = c.front_is_bounded.ensures (game_of held.plan) held.bounds held.state state

pub returns-clause-long : goal.returns-clause-long
unfolding next_in
returns-clause-long c held state = c.words_are_equally_long.ensures (game_of held.plan) held.bounds held.state state

pub returns-clause-parents : goal.returns-clause-parents
unfolding next_in
returns-clause-parents c held state = c.parents_stood_before.ensures (game_of held.plan) held.bounds held.state state
