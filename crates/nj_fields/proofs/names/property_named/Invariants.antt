use Rattle.std.proofs.Common.{◌≡◌, drop, find, bytes_eq}
use Rattle.nj_fields.proofs.names.property_named.Given as goal

-- the property of that name is among those that are left
abbrev pub invariant-loop-named : goal.invariant-loop-named
invariant-loop-named l =
    find (λ n. bytes_eq n.name l.name) (drop l.named-index l.properties)
    ≡ find (λ n. bytes_eq n.name l.name) l.properties
