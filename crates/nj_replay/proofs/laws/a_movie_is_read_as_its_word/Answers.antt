use Rattle.nj_replay.proofs.WordLemmas.{read_is_played, played_is_read, refused_first}
use Rattle.nj_replay.proofs.laws.a_movie_is_read_as_its_word.Goals as goal

pub returns-clause-read : goal.returns-clause-read
returns-clause-read c hold start movie word some =
    (read_is_played hold start movie word some, played_is_read hold start movie word some)

pub returns-clause-refused : goal.returns-clause-refused
returns-clause-refused c = refused_first
