use Rattle.nj_dots.proofs.Images.{same-bytes, part-with_picture, take-with_picture, drop-with_picture, length-with_picture}
use Rattle.nj_dots.proofs.laws.images_hold_pictures.Goals as goal

pub returns-clause-same : goal.returns-clause-same
returns-clause-same c s e fits_s fits_e unmarked_s unmarked_e mirroring same =
    same-bytes s e fits_s fits_e unmarked_s unmarked_e mirroring same

pub returns-clause-stored : goal.returns-clause-stored
returns-clause-stored c s image fits unmarked long =
    record { fits = fits; unmarked = unmarked; bytes = part-with_picture s image fits long }

pub returns-clause-before : goal.returns-clause-before
returns-clause-before c s image long = take-with_picture s image long

pub returns-clause-behind : goal.returns-clause-behind
returns-clause-behind c s image fits long = drop-with_picture s image fits long

pub returns-clause-size : goal.returns-clause-size
returns-clause-size c s image fits long = length-with_picture s image fits long
