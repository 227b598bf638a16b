-- By the pads that the script names, and the words of the front.
use Rattle.std.proofs.Common.{subst, ◌≤◌, ℕ}
use Rattle.nj_single.proofs.Frames.{few_runs}
use Rattle.nj_single.proofs.step.runs_are_bounded.Goals as goal

pub returns : goal.returns
returns c =
    few_runs c.a_step_is_bounded.ensures.both c.args.search.now c.bounds-bounds.result c.bounds-bounds.ensures.bounds
    c.bounds-bounds.ensures.inputs
    (subst (λ (n : ℕ). n ≤ c.args.search.now.bounds.most) c.front_len-words.ensures.len
    c.front_len-words.ensures.within)
