-- The sum of the needs, and its bound.
use Rattle.std.proofs.Common.{◌≡◌, ◌+◌, ◌*◌, ◌≤◌, [], length, sym, subst, ◌∙◌}
use Rattle.std.specs.Prelude.{sum_by}
use Rattle.nj_search_defs.specs.Game.{Word}
use Rattle.nj_game.specs.Plan.{plan_of}
use Rattle.nj_candidate.specs.Front.{size_in, image_at, need_at}
use Rattle.nj_expand.specs.Held.{Held}
use Rattle.nj_expand.proofs.Images.{front_needs, needs_bound, image_size}
use Rattle.nj_expand.proofs.search.Search.bytes.Goals as goal

needs : (c : goal.After-bytes) → c.bytes.result
    ≡ sum_by (need_at (plan_of c.self.inside.cart c.self.inside.script c.self.inside.start)) c.self.inside.pool.words
needs c =
    let s = c.self.inside in
    let front = c.self.invariant.1 in
    c.bytes.ensures.sum ∙ front_needs (plan_of s.cart s.script s.start) s.pool.base s.pool.images
    s.pool.words front.images front.base

pub returns-clause-sum : goal.returns-clause-sum
returns-clause-sum c =
    subst (λ (h : Held). c.bytes.result ≡ sum_by (need_at h.plan) h.state.front) c.self.view_is (needs c)

pub returns-clause-few : goal.returns-clause-few
returns-clause-few c =
    let s = c.self.inside in
    let plan = plan_of s.cart s.script s.start in
    let front = c.self.invariant.1 in
    let long : (word : Word) → length (image_at plan word) ≡ size_in plan =
    λ word. c.an_image_stands_for_its_word.ensures.len plan word front.nrom in
    subst (λ (h : Held). c.bytes.result ≤ length h.state.front * (size_in h.plan + 16)) c.self.view_is
    (subst (λ n. n ≤ length s.pool.words * (size_in plan + 16)) (sym (needs c))
    (needs_bound plan s.pool.words (image_size plan (image_at plan []) (long [])) long c.a_need_is_bounded.ensures))
