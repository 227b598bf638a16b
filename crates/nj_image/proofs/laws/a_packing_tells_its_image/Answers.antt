use Rattle.nj_image.proofs.Tells.{one-image, image-told, packed-short, packed-is}
use Rattle.nj_image.proofs.laws.a_packing_tells_its_image.Goals as goal

pub returns-clause-one : goal.returns-clause-one
returns-clause-one c = one-image

pub returns-clause-told : goal.returns-clause-told
returns-clause-told c = image-told

pub returns-clause-short : goal.returns-clause-short
returns-clause-short c = packed-short

pub returns-clause-packed : goal.returns-clause-packed
returns-clause-packed c = packed-is
