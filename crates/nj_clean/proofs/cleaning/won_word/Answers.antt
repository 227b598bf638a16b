use Rattle.std.proofs.Common.{◌≡◌, ◌≤◌, Ok, length, drop, ap, ap₂, sym, ◌∙◌, subst, arith, length-append}
use Rattle.nj_game.specs.Plan.{held_pads}
use Rattle.nj_replay.specs.Reading.{first_pads}
use Rattle.nj_clean.specs.Bench.{plan_in}
use Rattle.nj_clean.proofs.Words.{AreBytes}
use Rattle.nj_clean.proofs.Told.{told_word, read_first, first_bytes, drop_bytes, is_won, read_few}
use Rattle.nj_clean.proofs.cleaning.won_word.Goals as goal

pub split_at-requires : goal.split_at-requires
split_at-requires c =
    let plan = plan_in c.args.setting in
    let found = told_word plan c.args.movie.now c.args.replayed c.requires.told in
    let is = c.a_read_movie_is_its_words.ensures plan.start c.args.movie.now found.0 found.1 in
    omega (
      arith,
      ap length c.pads.ensures.pads,
      ap length c.pads-pads.ensures.pads,
      ap length is,
      length-append plan.start (held_pads plan.script.hold found.0),
    )

pub returns-clause-word : goal.returns-clause-word
returns-clause-word c =
    let plan = plan_in c.args.setting in
    let found = told_word plan c.args.movie.now c.args.replayed c.requires.told in
    let behind = c.split_at.ensures.back ∙ ap₂ drop (ap length c.pads.ensures.pads) c.pads-pads.ensures.pads in
    let items : c.in_ok-word.word.items ≡ found.0 =
    c.in_ok-word.ensures ∙ ap₂ first_pads c.hold.ensures.value behind
    ∙ read_first plan.script.hold plan.start c.args.movie.now found.0 found.1 in
    found.1 ∙ ap Ok (sym (ap (λ w. w.word.items) c.won_of.ensures ∙ items))

pub returns-clause-won : goal.returns-clause-won
returns-clause-won c =
    let plan = plan_in c.args.setting in
    let found = told_word plan c.args.movie.now c.args.replayed c.requires.told in
    let behind = c.split_at.ensures.back ∙ ap₂ drop (ap length c.pads.ensures.pads) c.pads-pads.ensures.pads in
    let items : c.in_ok-word.word.items ≡ found.0 =
    c.in_ok-word.ensures ∙ ap₂ first_pads c.hold.ensures.value behind
    ∙ read_first plan.script.hold plan.start c.args.movie.now found.0 found.1 in
    is_won plan found.0 c.won_of.result c.args.replayed (ap (λ w. w.word.items) c.won_of.ensures ∙ items)
    (ap (λ w. w.reward) c.won_of.ensures) found.2 c.requires.won

pub returns-clause-bytes : goal.returns-clause-bytes
returns-clause-bytes c =
    let n = length c.pads.result.now in
    let items : c.won_of.result.word.items ≡ first_pads c.hold.result (drop n c.args.movie.now) =
    ap (λ w. w.word.items) c.won_of.ensures ∙ c.in_ok-word.ensures
    ∙ ap (first_pads c.hold.result) (c.split_at.ensures.back ∙ ap (drop n) c.pads-pads.ensures.pads) in
    subst AreBytes (sym items)
    (first_bytes c.hold.result 0 (drop n c.args.movie.now) (drop_bytes n c.args.movie.now c.pads-pads.ensures.bytes))

pub returns-clause-few : goal.returns-clause-few
returns-clause-few c =
    let plan = plan_in c.args.setting in
    let found = told_word plan c.args.movie.now c.args.replayed c.requires.told in
    let is = c.a_read_movie_is_its_words.ensures plan.start c.args.movie.now found.0 found.1 in
    let behind = c.split_at.ensures.back ∙ ap₂ drop (ap length c.pads.ensures.pads) c.pads-pads.ensures.pads in
    let items : c.in_ok-word.word.items ≡ found.0 =
    c.in_ok-word.ensures ∙ ap₂ first_pads c.hold.ensures.value behind
    ∙ read_first plan.script.hold plan.start c.args.movie.now found.0 found.1 in
    omega (
      arith,
      ap (λ w. length w.word.items) c.won_of.ensures,
      ap length items,
      read_few plan c.args.movie.now
          found.0 (omega (arith, c.hold.ensures.value, c.hold.ensures.low)) is,
      c.requires.few,
    )
