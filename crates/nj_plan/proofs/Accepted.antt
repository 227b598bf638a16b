-- What holds of a plan of which nothing is refused.
use Rattle.std.proofs.Common.{◌≡◌, ℕ, ◌*◌, ◌/◌, ◌^◌, ◌<◌, ◌≤◌, ◌+◌, Bool, true, false, cond, length, refl, ap, ap₂, arith, ◌∙◌}
use Rattle.std.specs.Prelude.{Option, Some, None}
use Rattle.std.proofs.lemmas.Bool.{ltb-false, le-ltb}
use Rattle.std.proofs.Math.Nat.{mul-le-mul_right}
use Rattle.std.proofs.lemmas.Nat.{le-div}
use Rattle.nj_ines.specs.Cartridge.{Cartridge}
use Rattle.nj_rules.specs.Pads.{named_pads}
use Rattle.nj_game.specs.Plan.{Plan}
use Rattle.nj_saved.specs.declared.saved.Saved.{Saved}
use Rattle.nj_plan.specs.declared.planning.Limits.{Limits}
use Rattle.nj_plan.specs.declared.planning.PlanRefused.{PlanRefused}
use Rattle.nj_plan.specs.Plans.{cost_of, most_of, slots_of, need_of, words_before, total_steps, rows_of, frames_of, refusals, refusal_of}

-- where the first of a list is not refused the rest decides
unrefused_by :
    (b : Bool) (x : PlanRefused) (rest : Option PlanRefused) → cond b (Some x) rest ≡ None → (b ≡ false) × (rest ≡ None)
unrefused_by true x rest h = absurd (cc)
unrefused_by false x rest h = (refl, h)

-- what holds of a plan of which nothing is refused
pub record IsAccepted (plan : Plan) (limits : Limits) (saved : Option Saved) : Type 0 where
  pub budget : cost_of plan.cartridge ≤ limits.budget
  pub seen : need_of plan limits ≤ slots_of limits
  pub trail : rows_of plan limits saved ≤ 2 ^ 26
  pub movie : frames_of plan limits saved ≤ 2 ^ 20
  pub front : words_before saved ≤ most_of limits plan.cartridge

pub accepted :
    (plan : Plan) (limits : Limits) (saved : Option Saved) → refusal_of plan limits saved ≡ None
    → IsAccepted plan limits saved
unfolding refusal_of refusals
accepted plan limits saved none =
    let first = unrefused_by _ _ _ none in
    let second = unrefused_by _ _ _ first.1 in
    let third = unrefused_by _ _ _ second.1 in
    let fourth = unrefused_by _ _ _ third.1 in
    let fifth = unrefused_by _ _ _ fourth.1 in
    record {
      budget = ltb-false _ _ first.0;
      seen = ltb-false _ _ second.0;
      trail = ltb-false _ _ third.0;
      movie = ltb-false _ _ fourth.0;
      front = ltb-false _ _ fifth.0;
    }

passed :
    (b : Bool) (x : PlanRefused) (rest : Option PlanRefused) → b ≡ false → rest ≡ None → cond b (Some x) rest ≡ None
passed b x rest is none = ap (λ c. cond c (Some x) rest) is ∙ none

-- of a plan of which this holds nothing is refused
pub unrefused :
    (plan : Plan) (limits : Limits) (saved : Option Saved) → IsAccepted plan limits saved
    → refusal_of plan limits saved ≡ None
unfolding refusal_of refusals
unrefused plan limits saved is =
    passed _ _ _ (le-ltb limits.budget (cost_of plan.cartridge) is.budget)
    (passed _ _ _ (le-ltb (slots_of limits) (need_of plan limits) is.seen)
    (passed _ _ _ (le-ltb (2 ^ 26) (rows_of plan limits saved) is.trail)
    (passed _ _ _ (le-ltb (2 ^ 20) (frames_of plan limits saved) is.movie)
    (passed _ _ _ (le-ltb (most_of limits plan.cartridge) (words_before saved) is.front) refl))))

-- a word costs something
some_cost : (cartridge : Cartridge) → 0 < cost_of cartridge
unfolding cost_of
some_cost cartridge = omega arith

-- the budget pays for a word
one_paid :
    (plan : Plan) (limits : Limits) (saved : Option Saved) → refusal_of plan limits saved ≡ None
    → 1 ≤ limits.budget / cost_of plan.cartridge
one_paid plan limits saved none =
    let budget : cost_of plan.cartridge ≤ limits.budget = (accepted plan limits saved none).budget in
    le-div 1 limits.budget (cost_of plan.cartridge) (some_cost plan.cartridge) (omega arith)

-- a front has room for a word
pub some_word :
    (plan : Plan) (limits : Limits) (saved : Option Saved) (most : ℕ) → refusal_of plan limits saved ≡ None
    → most ≡ most_of limits plan.cartridge → 1 ≤ most
unfolding most_of
some_word plan limits saved most none is = omega (arith, one_paid plan limits saved none)

-- the candidates of a step fit in the slots
pub fits_slots :
    (plan : Plan) (limits : Limits) (saved : Option Saved) (most inputs : ℕ) → refusal_of plan limits saved ≡ None
    → most ≡ most_of limits plan.cartridge
    → inputs ≡ length (named_pads plan.script.inputs.sets) → most * inputs ≤ 2 ^ limits.exponent
fits_slots plan limits saved most inputs none is counted =
    let seen : most_of limits plan.cartridge * length (named_pads plan.script.inputs.sets) ≤ 2 ^ limits.exponent =
    (accepted plan limits saved none).seen in
    let e : most * inputs ≡ most_of limits plan.cartridge * length (named_pads plan.script.inputs.sets) =
    ap₂ (λ m n. m * n) is counted in
    omega (arith, seen, e)

-- as each step has a frame, all steps are within the frames of a movie
pub few_steps :
    (plan : Plan) (limits : Limits) (saved : Option Saved) → 1 ≤ plan.script.hold → refusal_of plan limits saved ≡ None
    → total_steps limits saved ≤ 2 ^ 20
few_steps plan limits saved hold none =
    let movie : length plan.start + plan.script.hold * total_steps limits saved ≤ 2 ^ 20 =
    (accepted plan limits saved none).movie in
    let each : 1 * total_steps limits saved ≤ plan.script.hold * total_steps limits saved =
    mul-le-mul_right (total_steps limits saved) hold in
    omega (arith, movie, each)

-- a saved front fits
pub front_fits :
    (plan : Plan) (limits : Limits) (saved : Option Saved) (most words : ℕ) → refusal_of plan limits saved ≡ None
    → most ≡ most_of limits plan.cartridge → words ≡ words_before saved → words ≤ most
front_fits plan limits saved most words none is counted =
    omega (arith, (accepted plan limits saved none).front, is, counted)
