use Rattle.std.proofs.Common.{◌∙◌, refl, map}
use Rattle.serde_json.specs.View.{view, members_view}
use Rattle.nj_fields.specs.declared.refusal.ScriptRefused.TheVariants.{UnknownKey}
use Rattle.nj_fields.specs.Fields.{opened}
use Rattle.nj_fields.proofs.Keys.{opened-members, unknown_key-view}
use Rattle.nj_fields.proofs.Refused.{refused_with}
use Rattle.nj_fields.proofs.fields.open.Goals as goal

pub returns-in-Some-unknown_among : goal.returns-in-Some-unknown_among
returns-in-Some-unknown_among c =
    let known = map (λ s. s.now) c.args.known.now in
    let entries = c.in-Some.members.now.entries in
    refused_with (opened c.args.list.now known (view c.args.value.now))
    (UnknownKey c.in-Some-unknown_among.key.now) c.unknown_key.result
    (opened-members c.args.list.now known (view c.args.value.now) (members_view entries) c.in-Some.ensures
    ∙ rw (unknown_key-view c.args.known.now entries, ← c.in-Some-unknown_among.ensures) refl)
    c.unknown_key.ensures

pub returns-in-None : goal.returns-in-None
returns-in-None c =
    let known = map (λ s. s.now) c.args.known.now in
    let entries = c.in-Some.members.now.entries in
    opened-members c.args.list.now known (view c.args.value.now) (members_view entries) c.in-Some.ensures
    ∙ rw (unknown_key-view c.args.known.now entries, ← c.in-None.ensures) refl
