use Rattle.std.proofs.Common.{[], subst}
use Rattle.nj_property.specs.Property.{IsPlaced}
use Rattle.nj_fields.specs.declared.names.Named.{Named}
use Rattle.nj_script.proofs.items.item_named.Goals as goal

-- the property is one of the list
pub range_of-requires : goal.range_of-requires
range_of-requires c =
    let property = c.in_ok-property.property in
    let found = c.in_ok-property.ensures.among in
    let some : Named = record { name = []; property = property } in
    subst IsPlaced (found.2 some) (c.requires found.0 some found.1)
