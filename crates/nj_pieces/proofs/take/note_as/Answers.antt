use Rattle.nj_pieces.proofs.Steps.{notes}
use Rattle.nj_pieces.proofs.take.note_as.Goals as goal

pub another-pass-requires : goal.another-pass-requires
another-pass-requires g c = notes _ _ _ c.requires.port
