-- The values at the four places.
use Rattle.std.proofs.Common.{◌≡◌, ◌≤◌, pos, List, length, get_or, subst, to_z, of_z, w32, arith}
use Rattle.std.proofs.lemmas.Int.{to_z-of_z}
use Rattle.nj_property.specs.declared.Property.{Property}
use Rattle.nj_candidate.specs.Rows.{values_at}
use Rattle.nj_candidate.proofs.Buckets.{bucket_is}
use Rattle.nj_candidate.proofs.candidate.bucket_in.Goals as goal

pub returns : goal.returns
returns c =
    let first : to_z w32 (of_z w32 c.value_at.result)
    ≡ get_or (values_at c.args.script.now c.args.machine.now) 0 (pos 0) = grind (arith, to_z-of_z) in
    let second : to_z w32 (of_z w32 c.value_at-2.result)
    ≡ get_or (values_at c.args.script.now c.args.machine.now) 1 (pos 0) = grind (arith, to_z-of_z) in
    let third : to_z w32 (of_z w32 c.value_at-3.result)
    ≡ get_or (values_at c.args.script.now c.args.machine.now) 2 (pos 0) = grind (arith, to_z-of_z) in
    let fourth : to_z w32 (of_z w32 c.value_at-4.result)
    ≡ get_or (values_at c.args.script.now c.args.machine.now) 3 (pos 0) = grind (arith, to_z-of_z) in
    bucket_is c.args.script.now c.args.machine.now
    _ _ _ _ (subst (λ (ps : List Property). length ps ≤ 4) c.bucket-few.ensures.value c.bucket-few.ensures.few)
    first second third fourth
