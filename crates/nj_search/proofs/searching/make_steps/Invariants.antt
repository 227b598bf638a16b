use Rattle.nj_search.proofs.Going.{AreMade}
use Rattle.nj_search.proofs.searching.make_steps.Given as goal

-- so many steps were made, and what is left gives the whole outcome
abbrev pub invariant-loop-made : goal.invariant-loop-made
invariant-loop-made g l = AreMade l.fn.search l.search l.limit l._made l.fn.steps l.steps
