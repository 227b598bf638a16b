use Rattle.std.proofs.lemmas.Bool.{and_from, and_left, and_right}
use Rattle.nj_dots.specs.Screen.{is_rendering}
use Rattle.nj_dots.proofs.Frames.{frame-follows, no-start, frame_length-odd, frame_length-whole}
use Rattle.nj_dots.proofs.laws.frames_have_their_dots.Goals as goal

pub returns-clause-ends : goal.returns-clause-ends
returns-clause-ends c p s fits start = (frame-follows p s fits start).start

pub returns-clause-first : goal.returns-clause-first
returns-clause-first c p s k fits start some below = no-start k p s fits start some below

pub returns-clause-parity : goal.returns-clause-parity
returns-clause-parity c p s fits start = (frame-follows p s fits start).odd_frame

pub returns-clause-skipped : goal.returns-clause-skipped
returns-clause-skipped c s odd on = frame_length-odd s (and_from s.odd_frame (is_rendering s.mask) odd on)

pub returns-clause-even : goal.returns-clause-even
returns-clause-even c s even = frame_length-whole s (and_left s.odd_frame (is_rendering s.mask) even)

pub returns-clause-off : goal.returns-clause-off
returns-clause-off c s off = frame_length-whole s (and_right s.odd_frame (is_rendering s.mask) off)
