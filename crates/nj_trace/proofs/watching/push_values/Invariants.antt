use Rattle.std.proofs.Common.{◌≡◌, ◌++◌, drop}
use Rattle.std.specs.List.{flat_map}
use Rattle.nj_trace.specs.Watch.{value_text}
use Rattle.nj_trace.proofs.watching.push_values.Given as goal

-- the values that are left bring what is missing
abbrev pub invariant-loop-property : goal.invariant-loop-property
invariant-loop-property l =
    l.text.items ++ flat_map (value_text l.ram) (drop l.property-index l.properties)
    ≡ l.fn.text.items ++ flat_map (value_text l.ram) l.properties
