use Rattle.std.proofs.Common.{◌≡◌, [], get_or, subst, ◌∙◌}
use Rattle.nj_game.specs.Plan.{plan_of, movie_of}
use Rattle.nj_expand.specs.Held.{Held}
use Rattle.nj_expand.proofs.Played.{played}
use Rattle.nj_expand.proofs.search.Search.movie.Goals as goal

pub returns : goal.returns
returns c =
    let s = c.self.inside in
    let plan = plan_of s.cart s.script s.start in
    subst (λ (h : Held). c.push_word.new.movie ≡ movie_of h.plan (get_or h.state.front c.args.place [])) c.self.view_is
    (played plan (get_or s.pool.words c.args.place []) c.as_slice.result.now c.hold.result
    c.from_pads-movie.result c.push_word.new.movie
    (c.from_pads-movie.ensures ∙ c.in_ok-pads.ensures.items ∙ c.pads.ensures.pads)
    c.hold.ensures.value (c.as_slice.ensures.value ∙ c.in_ok-word.ensures) c.in_ok-push_word.ensures)
