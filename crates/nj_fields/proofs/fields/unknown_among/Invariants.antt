use Rattle.std.proofs.Common.{◌≡◌, map, find, not, bytes_eq, string_bytes}
use Rattle.std.specs.List.{list_any}
use Rattle.std.specs.BTreeMap.{keys}
use Rattle.nj_fields.proofs.fields.unknown_among.Given as goal

-- the first unknown key is among those that are left
abbrev pub invariant-loop-key : goal.invariant-loop-key
invariant-loop-key l =
    (goal.iterator-loop-key).can_next l.key-iterator × (goal.iterator-loop-key).is_finite l.key-iterator
    × (find (λ key. not (list_any (λ word. bytes_eq key word.now) l.known)) (map string_bytes l.key-iterator)
    ≡ find (λ key. not (list_any (λ word. bytes_eq key word.now) l.known)) (map string_bytes (keys l.members)))
