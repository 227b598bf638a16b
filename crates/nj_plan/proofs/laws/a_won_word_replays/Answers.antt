use Rattle.nj_plan.proofs.WonWords.{won_replays}
use Rattle.nj_plan.proofs.laws.a_won_word_replays.Goals as goal

pub returns : goal.returns
returns c =
    won_replays c.won_words_are_as_long.ensures c.won_wins.ensures c.won_words_are_as_long_from.ensures
    c.won_wins_from.ensures
    c.a_movie_is_read_as_its_word.ensures.read c.a_replay_tells_of_its_word.ensures
