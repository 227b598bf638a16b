-- The place of the first line feed.
use Rattle.std.proofs.Common.{refl, sym}
use Rattle.nj_lines.proofs.LineLemmas.{place_found, no_place}
use Rattle.nj_lines.proofs.line_len.Goals as goal

pub returns-in-Some : goal.returns-in-Some
returns-in-Some c = place_found _ _ c.in-Some.at _ refl (sym c.in-Some.ensures)

pub returns-in-None : goal.returns-in-None
returns-in-None c = no_place _ _ _ refl (sym c.in-None.ensures)
