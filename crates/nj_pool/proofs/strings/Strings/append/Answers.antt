-- All strings of another list behind.
use Rattle.std.proofs.Common.{◌+◌, ◌<◌, List, ℕ, ◌++◌, map, length, ap, ap₂, sym, subst, ◌∙◌, arith, length-append}
use Rattle.std.specs.List.{All}
use Rattle.nj_pool.proofs.Behind.{ends_small, AreJoined, are_joined}
use Rattle.nj_pool.proofs.strings.Strings.append.Goals as goal

pub push_ends-requires-clause-small : goal.push_ends-requires-clause-small
push_ends-requires-clause-small c =
    let small : c.len-start.result + length c.other.inside.bytes.items < 18446744073709551616 =
    omega (
      arith,
      c.len-start.ensures,
      c.self.inside.bytes.ok.0,
      ap length c.in_ok-extend_from_slice.ensures.items,
      length-append c.self.inside.bytes.items c.as_slice.result.now,
      ap length c.as_slice.ensures.value,
      c.extend_from_slice.new.self.ok.0,
      c.extend_from_slice.new.self.small,
    ) in
    subst (All (λ end. c.len-start.result + end < 18446744073709551616)) (sym c.as_slice-2.ensures.value)
    (ends_small c.other.inside.ends.items c.len-start.result (length c.other.inside.bytes.items) c.other.invariant
    small)

joined : (c : goal.After-drop-bytes-2) → AreJoined c.self.inside.ends.items c.self.inside.bytes.items
    c.other.inside.ends.items c.other.inside.bytes.items c.push_ends.new.ends.items c.extend_from_slice.new.self.items
joined c =
    are_joined c.self.inside.ends.items c.self.inside.bytes.items c.other.inside.ends.items
    c.other.inside.bytes.items c.push_ends.new.ends.items c.extend_from_slice.new.self.items c.len-start.result
    (omega (arith, c.len-start.ensures, c.self.inside.bytes.ok.0))
    (c.in_ok-extend_from_slice.ensures.items ∙ ap (λ more. c.self.inside.bytes.items ++ more) c.as_slice.ensures.value)
    (c.push_ends.ensures
    ∙ ap₂ (λ (old more : List ℕ). old ++ map (λ end. c.len-start.result + end) more) c.in_ok-reserve.ensures.items
    c.as_slice-2.ensures.value)
    c.self.invariant c.other.invariant

pub invariant_of-self-2 : goal.invariant_of-self-2
invariant_of-self-2 c = (joined c).are_ends

pub returns : goal.returns
returns c = (joined c).joined ∙ ap₂ (λ strings more. strings ++ more) c.self.view_is c.other.view_is
