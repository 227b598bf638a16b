-- By the pads that the script names, and the words of the front.
use Rattle.std.proofs.Common.{subst, ◌≤◌, ℕ, sym, ◌∙◌}
use Rattle.std.proofs.Math.Nat.{mul-le-mul_left}
use Rattle.nj_search.proofs.Counters.{inputs_are}
use Rattle.nj_search.proofs.sharing.frames_are_bounded.Goals as goal

pub returns : goal.returns
returns c =
    let held = c.args.search.now in
    mul-le-mul_left held.plan.script.hold
    (c.a_step_is_bounded.ensures.both held
    (sym (inputs_are c.bounds-bounds.result held.plan.script held.bounds c.bounds-bounds.ensures.bounds)
    ∙ c.bounds-bounds.ensures.inputs)
    (subst (λ (n : ℕ). n ≤ held.bounds.most) c.front_len-words.ensures.len c.front_len-words.ensures.within))
