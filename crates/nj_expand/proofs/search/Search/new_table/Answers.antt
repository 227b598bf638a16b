-- Where nothing is forgotten the keys are new to the search's own table.
use Rattle.std.proofs.Common.{◌≡◌, subst}
use Rattle.nj_seen.specs.Held.{oldest_step}
use Rattle.nj_expand.specs.Held.{Held}
use Rattle.nj_expand.proofs.Filed.{own_keys}
use Rattle.nj_expand.proofs.search.Search.new_table.Goals as goal

pub returns-then-left-self : goal.returns-then-left-self
returns-then-left-self c =
    let s = c.self.inside in
    own_keys c.args.self.now c.args.left s.keys.oldest c.args.keys.items c.requires.left
    (subst (λ (h : Held). s.keys.oldest ≡ oldest_step h.state.step h.state.seen) c.self.view_is
    c.self.invariant.2.oldest)
    c.if-left-self.true (λ words holds. c.may_add.ensures.can words c.args.keys.items holds c.requires.keys)
    (λ before after holds added. c.may_add.ensures.adds before c.args.keys.items after holds c.requires.keys added)
