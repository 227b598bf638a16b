use Rattle.std.proofs.Common.{Ok, sym, ◌∙◌, ap}
use Rattle.nj_game.specs.Plan.{held_pads}
use Rattle.nj_replay.specs.Reading.{first_left, first_pads}
use Rattle.nj_replay.proofs.WordLemmas.{not_start, not_held, is_read, whole_steps}
use Rattle.nj_replay.proofs.reading.read_word.Goals as goal

pub returns-in-Some-clause-word : goal.returns-in-Some-clause-word
returns-in-Some-clause-word c =
    not_start c.args.hold c.args.start.now c.args.movie.now c.in-Some.frame
    (sym c.first_left.ensures.frame ∙ c.in-Some.is)

pub returns-in-Some-first_unheld-clause-word : goal.returns-in-Some-first_unheld-clause-word
returns-in-Some-first_unheld-clause-word c =
    not_held c.args.hold c.args.start.now c.args.movie.now c.in-Some-first_unheld.frame
    (sym c.first_left.ensures.frame ∙ c.in_default.is)
    (ap (λ rest. first_left (held_pads c.args.hold (first_pads c.args.hold rest)) rest) (sym c.split_at.ensures.back)
    ∙ sym c.first_unheld.ensures.frame ∙ c.in-Some-first_unheld.is)

pub returns-clause-word : goal.returns-clause-word
returns-clause-word c =
    is_read c.args.hold c.args.start.now c.args.movie.now (sym c.first_left.ensures.frame ∙ c.in_default.is)
    (ap (λ rest. first_left (held_pads c.args.hold (first_pads c.args.hold rest)) rest) (sym c.split_at.ensures.back)
    ∙ sym c.first_unheld.ensures.frame ∙ c.in_default-first_unheld.is)
    ∙ ap (λ rest. Ok (first_pads c.args.hold rest)) (sym c.split_at.ensures.back)

pub returns-clause-whole : goal.returns-clause-whole
returns-clause-whole c =
    whole_steps c.args.hold c.split_at.result.1.now c.requires.hold
    (sym c.first_unheld.ensures.frame ∙ c.in_default-first_unheld.is)
