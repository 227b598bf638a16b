-- The picture's window.
use Rattle.std.proofs.Common.{arith, ◌+◌, ◌∙◌, ap}
use Rattle.std.specs.Prelude.{slice_range}
use Rattle.nj_banked.specs.Banked.{pattern_of}
use Rattle.nj_banked.proofs.Fits.{pattern-view}
use Rattle.nj_banked.proofs.banked.BankedBoard.pattern.Goals as goal

pub overflow_add-result : goal.overflow_add-result
overflow_add-result c = let view = pattern-view _ _ _ _ c.self.invariant in omega (arith, view.few)

pub slice_bounds-result-end : goal.slice_bounds-result-end
slice_bounds-result-end c = let view = pattern-view _ _ _ _ c.self.invariant in omega (arith, view.inside)

pub returns-clause-bytes : goal.returns-clause-bytes
returns-clause-bytes c = let view =
    pattern-view _ _ _ _ c.self.invariant in
    ap (λ l. slice_range l c.self.inside.pattern (c.self.inside.pattern + 8192)) c.deref.ensures.value
    ∙ (view.bytes ∙ ap pattern_of c.self.view_is)
