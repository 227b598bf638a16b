-- The start's image is the pool's base.
use Rattle.std.proofs.Common.{◌≡◌, [], length, ap, sym, subst, ◌∙◌}
use Rattle.nj_candidate.specs.Front.{size_in, image_at}
use Rattle.nj_expand.specs.Held.{Held}
use Rattle.nj_expand.proofs.search.Search.images_are_long.Goals as goal

pub returns : goal.returns
returns c =
    subst (λ (h : Held). length (image_at h.plan []) ≡ size_in h.plan) c.self.view_is
    (sym (ap length c.self.invariant.1.base) ∙ c.self.invariant.1.size)
