use Rattle.std.proofs.Common.{◌≡◌, ◌-◌, ◌++◌, length, ap, ap₂, ◌∙◌}
use Rattle.nj_game.specs.Plan.{held_pads, movie_of}
use Rattle.nj_clean.specs.declared.CleanEnd.TheVariants.{Cleaned}
use Rattle.nj_clean.specs.Presses.{presses}
use Rattle.nj_clean.specs.Bench.{plan_in}
use Rattle.nj_clean.proofs.cleaning.told_clean.Goals as goal

pub returns : goal.returns
unfolding movie_of
returns c =
    let word = c.as_slice-word.ensures.value in
    let movie : c.in_ok-movie.movie ≡ movie_of (plan_in c.args.setting) c.args.won.now.word.items =
    c.in_ok-movie.ensures
    ∙ ap₂ (λ s h. s ++ held_pads h c.as_slice-word.result.now) c.pads.ensures.pads c.hold.ensures.value
    ∙ ap (λ w. c.args.setting.start.now ++ held_pads c.args.setting.script.now.hold w) word in
    let count : c.press_count.result ≡ length (presses c.args.won.now.word.items) =
    c.press_count.ensures ∙ ap (λ w. length (presses w)) word in
    ap₂ (λ m n. Cleaned m (c.args.given - n) c.told_of.result) movie count
    ∙ ap (λ r. Cleaned (movie_of (plan_in c.args.setting) c.args.won.now.word.items)
    (c.args.given - length (presses c.args.won.now.word.items)) r) c.told_of.ensures
