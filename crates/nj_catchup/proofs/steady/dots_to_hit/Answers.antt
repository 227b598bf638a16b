-- With a row and with none.
use Rattle.std.proofs.Common.{sym, subst}
use Rattle.nj_catchup.specs.Steady.{IsAside}
use Rattle.nj_catchup.proofs.steady.dots_to_hit.Goals as goal

pub returns-in-None : goal.returns-in-None
returns-in-None c =
    λ n d within along. subst (λ r. IsAside r d) (sym c.in-None.is) (c.dots_to_latch.ensures n d within along)

pub returns-in-Some : goal.returns-in-Some
returns-in-Some c =
    λ n d within along. subst (λ r. IsAside r d) (sym c.in-Some.is) (c.dots_to_row.ensures n d within along)
