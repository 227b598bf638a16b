-- How many candidates a step runs, and how many of them again.
use Rattle.std.proofs.Common.{◌≡◌, ℕ, ◌+◌, ◌*◌, ◌≤◌, length, sym, ap, ◌∙◌, arith}
use Rattle.std.proofs.Math.Nat.{mul-add, mul-le-mul_left}
use Rattle.nj_search_defs.specs.Game.{Bounds}
use Rattle.nj_rules.specs.Pads.{named_pads}
use Rattle.nj_script.specs.Script.{Record}
use Rattle.nj_expand.specs.declared.Bounds.{Bounds as Given}
use Rattle.nj_expand.specs.Held.{Held, candidates_in, kept_in, bounds_of}

-- a step of a front within its bounds is bounded
abbrev pub StepsAreBounded : Type 0
StepsAreBounded = (held : Held) → held.bounds.inputs ≡ length (named_pads held.plan.script.inputs.sets)
    → length held.state.front ≤ held.bounds.most
    → length (candidates_in held) + length (kept_in held) ≤ held.bounds.most * (held.bounds.inputs + 1)

-- the inputs of the bounds are those of what they were given as
pub inputs_are : (given : Given) (script : Record) (bounds : Bounds) → bounds_of given script ≡ bounds
    → given.inputs ≡ bounds.inputs
inputs_are given script bounds is = ap (λ (b : Bounds). b.inputs) is

-- so a step runs at most so many steps of a word
pub few_runs : StepsAreBounded → (held : Held) (given : Given) → bounds_of given held.plan.script ≡ held.bounds
    → given.inputs ≡ length (named_pads held.plan.script.inputs.sets) → length held.state.front ≤ held.bounds.most
    → length (candidates_in held) + length (kept_in held) ≤ held.bounds.most * (held.bounds.inputs + 1)
few_runs bounded held given is inputs words =
    bounded held (sym (inputs_are given held.plan.script held.bounds is) ∙ inputs) words

-- the frames of both
pub both : (hold candidates kept since between after : ℕ) → between ≤ since + hold * candidates
    → after ≤ between + hold * kept → after ≤ since + hold * (candidates + kept)
both hold candidates kept since between after first second = let product =
    mul-add hold candidates kept in omega (arith, first, second, product)

-- and of so many runs at most
pub at_most : (hold runs most since after : ℕ) → after ≤ since + hold * runs → runs ≤ most → after ≤ since + hold * most
at_most hold runs most since after frames few = let more = mul-le-mul_left hold few in omega (arith, frames, more)
