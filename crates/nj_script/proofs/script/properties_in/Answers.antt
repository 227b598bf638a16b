use Rattle.std.proofs.Common.{length, ◌≤◌}
use Rattle.serde_json.specs.View.{view}
use Rattle.nj_script.specs.Script.{properties_in}
use Rattle.nj_fields.proofs.Accepted.{holds_of}
use Rattle.nj_fields.proofs.Placed.{ArePlaced}
use Rattle.nj_script.proofs.InRange.{ok_properties_in}
use Rattle.nj_script.proofs.script.properties_in.Goals as goal

pub returns-clause-placed : goal.returns-clause-placed
returns-clause-placed c =
    (holds_of (properties_in (view c.args.object.now))
    (λ ps. ArePlaced ps × (length ps ≤ 64)) c.in_ok-properties.properties.items
    (ok_properties_in (view c.args.object.now)) c.in_ok-properties.ensures.value).0
