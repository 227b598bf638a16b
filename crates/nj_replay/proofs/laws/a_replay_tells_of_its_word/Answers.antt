use Rattle.std.proofs.Common.{refl, ap}
use Rattle.nj_game.specs.Plan.{movie_of}
use Rattle.nj_replay.specs.Replay.{told_of, replay_of}
use Rattle.nj_replay.proofs.WordLemmas.{played_is_read}
use Rattle.nj_replay.proofs.laws.a_replay_tells_of_its_word.Goals as goal

pub returns : goal.returns
unfolding replay_of movie_of
returns c plan word some =
    ap (told_of plan) (played_is_read plan.script.hold plan.start (movie_of plan word) word some refl)
