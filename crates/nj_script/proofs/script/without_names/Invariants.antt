use Rattle.std.proofs.Common.{◌≡◌, ◌++◌, map, drop}
use Rattle.nj_script.proofs.script.without_names.Given as goal

-- the properties that are left bring what is missing
abbrev pub invariant-loop-named : goal.invariant-loop-named
invariant-loop-named l =
    l.bare ++ map (λ n. n.property) (drop l.named-index l.properties) ≡ map (λ n. n.property) l.properties
