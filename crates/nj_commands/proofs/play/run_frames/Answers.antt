-- One more pad is one more frame.
use Rattle.std.proofs.Common.{◌≡◌, ◌+◌, ◌<◌, ℕ, List, length, take, get_or, fold, ap, sym, ◌∙◌, arith}
use Rattle.std.proofs.lemmas.List.Sums.{fold_more}
use Rattle.nj_machine.specs.State.{State}
use Rattle.nj_machine.specs.Frame.{frame}
use Rattle.nj_machine.specs.declared.FrameEnd.{FrameEnd}
use Rattle.nj_commands.proofs.play.run_frames.Goals as goal

one_more_frame : (start m next : State) (pads : List ℕ) (i pad : ℕ) (end : FrameEnd) → i < length pads →
    pad ≡ get_or pads i pad →
    m ≡ fold (λ s pad. (frame s pad).0) start (take i pads) → frame m pad ≡ (next, end) →
    next ≡ fold (λ s pad. (frame s pad).0) start (take (i + 1) pads)
one_more_frame start m next pads i pad end h item so_far after =
    sym (ap (λ p. p.0) after)
    ∙ ap (λ n. (frame n pad).0) so_far
    ∙ ap (λ p. (frame (fold (λ s pad. (frame s pad).0) start (take i pads)) p).0) item
    ∙ sym (fold_more (λ s pad. (frame s pad).0) start pads i pad h)

pub loop-pad-preserved : goal.loop-pad-preserved
loop-pad-preserved g c = record {
  state =
      one_more_frame _ _ _ c.args.pads.now c.loop-pad.pad-index c.pad-item.result _ c.loop-pad-test.true c.pad-item.is
      c.loop-pad.invariant.state c.frame.ensures.after;
  frames = omega arith;
  never_falls = omega arith;
}
