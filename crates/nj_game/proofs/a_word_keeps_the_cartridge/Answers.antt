use Rattle.nj_game.specs.Plan.{movie_of}
use Rattle.nj_game.specs.Words.{state_of}
use Rattle.nj_game.proofs.a_word_keeps_the_cartridge.Goals as goal

pub returns-clause-ready : goal.returns-clause-ready
unfolding state_of
returns-clause-ready c plan word h = c.frames_keep_the_cartridge.ensures.played plan.cartridge (movie_of plan word) h

pub returns-clause-cartridge : goal.returns-clause-cartridge
unfolding state_of
returns-clause-cartridge c plan word h =
    c.frames_keep_the_cartridge.ensures.played_kept plan.cartridge (movie_of plan word) h
