use Rattle.nj_pieces.proofs.take.note.Given as goal

abbrev pub ghosts-note_as : goal.ghosts-note_as
ghosts-note_as a = record { piece = a.piece }
