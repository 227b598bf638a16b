use Rattle.std.proofs.Common.{◌≡◌, Ok, rules}
use Rattle.serde_json.specs.View.{view}
use Rattle.nj_script.specs.Script.{Record, IsInRange, script_in}
use Rattle.nj_fields.proofs.Accepted.{holds_of}
use Rattle.nj_script.proofs.InRange.{ok_script_in}
use Rattle.nj_script.proofs.script.script_in.Goals as goal

-- an accepted script is in range
pub invariant_of-result : goal.invariant_of-result
unfolding script_in
invariant_of-result c =
    let script : Record =
    record {
      properties = c.in_ok-properties.properties;
      hash = record { items = c.from_vec.result };
      hold = c.in_ok-hold.hold;
      tolerance = c.in_ok-tolerance.tolerance;
      inputs = record { sets = c.from_vec-2.result };
      rules = record { rules = c.from_vec-3.result };
      bucket = c.from_vec-4.result;
      quota = c.in_ok-quota.quota;
    } in
    let accepted : script_in (view c.args.value.now) ≡ Ok script = search rules in
    holds_of (script_in (view c.args.value.now)) IsInRange script (ok_script_in (view c.args.value.now)) accepted
