-- The key's entry becomes the lesser, or stands behind the others.
use Rattle.std.proofs.Common.{◌≡◌, rules, sym, ◌∙◌}
use Rattle.std.specs.Prelude.{position}
use Rattle.nj_core.specs.Owners.{of_key}
use Rattle.nj_core.proofs.Seen.{claim_new, claim_old}
use Rattle.nj_core.proofs.machine.make.Goals as goal

pub returns-in_ok-push-in-None : goal.returns-in_ok-push-in-None
returns-in_ok-push-in-None c =
    let found : c.place_of.result ≡ position (of_key c.args.claim.key) c.args.owners.now.items = search rules in
    c.in_ok-push-in-None.ensures.items ∙ claim_new c.args.claim c.args.owners.now.items (sym found ∙ c.in-None.is)

pub returns-in-Some : goal.returns-in-Some
returns-in-Some c =
    let found : c.place_of.result ≡ position (of_key c.args.claim.key) c.args.owners.now.items = search rules in
    claim_old c.args.claim c.args.owners.now.items c.in-Some.place c.index_mut-owner.result.now _
    (sym found ∙ c.in-Some.is) c.index_mut-owner.ensures.value (search rules)
