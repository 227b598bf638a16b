-- Each clause is a lemma on the reading, from what is known of a pad's characters.
use Rattle.nj_movie.proofs.ReadingLemmas.{movie_of-says, says-movie_of, movie_of-refused}
use Rattle.nj_movie.proofs.a_text_says_its_pads.Goals as goal

pub returns-clause-said : goal.returns-clause-said
returns-clause-said c =
    let known = c.a_text_shows_its_pad.ensures in
    movie_of-says (record { shown = known.shown; only = known.only_its_text; byte = known.byte })

pub returns-clause-read : goal.returns-clause-read
returns-clause-read c =
    let known = c.a_text_shows_its_pad.ensures in
    says-movie_of (record { shown = known.shown; only = known.only_its_text; byte = known.byte })

pub returns-clause-refused : goal.returns-clause-refused
returns-clause-refused c =
    let known = c.a_text_shows_its_pad.ensures in
    movie_of-refused (record { shown = known.shown; only = known.only_its_text; byte = known.byte })
