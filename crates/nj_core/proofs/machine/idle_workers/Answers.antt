-- One worker more.
use Rattle.std.proofs.Common.{◌≡◌, ℕ, map, [], ◌∷◌, ◌++◌, arith, sym, ap, ◌∙◌}
use Rattle.std.specs.List.{range_with_len}
use Rattle.std.proofs.lemmas.List.FromFn.{map-range_with_len_more}
use Rattle.nj_core.specs.Machine.{beginning}
use Rattle.nj_core.proofs.machine.idle_workers.Goals as goal

pub loop-preserved : goal.loop-preserved
loop-preserved c =
    c.in_ok-push.ensures.items
    ∙ (λ i. c.loop.invariant i ++ c.new.ensures i ∷ [])
    ∙ sym (map-range_with_len_more (λ (w : ℕ). beginning []) 0 c.loop.counter c.loop.counter (omega arith))

pub returns : goal.returns
returns c =
    let all : c.loop.counter ≡ c.args.count = omega (arith, c.loop-test.false, c.loop.auto.counter-end) in
    c.loop.invariant ∙ ap (λ n. map (λ (w : ℕ). beginning []) (range_with_len 0 n)) all
