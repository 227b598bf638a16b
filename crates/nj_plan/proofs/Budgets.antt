-- What the states of a front take of the budget.
use Rattle.std.proofs.Common.{◌≡◌, ◌≤◌, ◌+◌, ◌*◌, ◌/◌, ℕ, Bool, true, false, if◌then◌else◌, length, refl, ap, sym, arith, ◌∙◌}
use Rattle.std.proofs.Math.Nat.{mul-div-le, mul-le-mul_left, mul-le-mul_right, mul_comm, mul_assoc}
use Rattle.nj_search_defs.specs.Game.{Bounds}
use Rattle.nj_ines.specs.Cartridge.{Cartridge}
use Rattle.nj_machine.specs.State.{Rom, rom_in as rom_with, rom_of, memory_of, power_on}
use Rattle.nj_machine.specs.Image.{image_len}
use Rattle.nj_game.specs.Plan.{Plan}
use Rattle.nj_expand.specs.Front.{rom_in, size_in}
use Rattle.nj_expand.specs.Held.{Held, kept_in}
use Rattle.nj_plan.specs.declared.planning.Limits.{Limits}
use Rattle.nj_plan.specs.Plans.{cost_of, most_of, bounds_in}
use Rattle.nj_plan.specs.Budget.{FullFrontsTakeHalf, BothFrontsFit}

-- what power-on keeps of a cartridge
abbrev Begins : Type 0
Begins = (cart : Cartridge) → rom_of (power_on cart) ≡ rom_with (memory_of cart) cart.vertical

-- half of a word's cost, by whether the pattern memory is RAM
half_cost : (ram : Bool) → 2 * ((if ram then 12672 else 4480) + 16) ≡ 2 * (16 + 64 * (if ram then 198 else 70))
half_cost true = refl
half_cost false = refl

-- a word costs twice its image and 16 bytes
word_cost : Begins → (plan : Plan) → 2 * (size_in plan + 16) ≡ cost_of plan.cartridge
unfolding size_in rom_in image_len cost_of
word_cost begins plan =
    ap (λ (rom : Rom). 2 * ((if rom.chr_ram then 12672 else 4480) + 16)) (begins plan.cartridge)
    ∙ half_cost plan.cartridge.chr_ram

-- as many words as the budget pays for cost no more than it
paid : (budget cost bytes most : ℕ) → 2 * bytes ≡ cost → most ≤ budget / cost → 2 * (most * bytes) ≤ budget
paid budget cost bytes most is few =
    let same : 2 * (most * bytes) ≡ cost * most =
    ap (λ (n : ℕ). 2 * n) (mul_comm most bytes) ∙ sym (mul_assoc 2 bytes most) ∙ ap (λ (c : ℕ). c * most) is in
    let cheap : cost * most ≤ cost * (budget / cost) = mul-le-mul_left cost few in
    let within : cost * (budget / cost) ≤ budget = mul-div-le budget cost in
    omega (arith, same, cheap, within)

paid_words :
    (limits : Limits) (cartridge : Cartridge) (bytes most : ℕ) → 2 * bytes ≡ cost_of cartridge
    → most ≤ most_of limits cartridge
    → 2 * (most * bytes) ≤ limits.budget
unfolding most_of
paid_words limits cartridge bytes most cost few =
    let most_paid : most ≤ limits.budget / cost_of cartridge = omega (arith, few) in
    paid limits.budget (cost_of cartridge) bytes most cost most_paid

-- two fronts of no more than so many words take at most twice as much as one of so many
two_fronts :
    (old new most bytes budget : ℕ) → old ≤ most → new ≤ most → 2 * (most * bytes) ≤ budget
    → old * bytes + new * bytes ≤ budget
two_fronts old new most bytes budget few fewer paid =
    let first : old * bytes ≤ most * bytes = mul-le-mul_right bytes few in
    let second : new * bytes ≤ most * bytes = mul-le-mul_right bytes fewer in
    omega (arith, first, second, paid)

pub half : Begins → FullFrontsTakeHalf
unfolding bounds_in
half begins planned =
    paid_words planned.limits planned.plan.cartridge (size_in planned.plan + 16)
    (most_of planned.limits planned.plan.cartridge)
    (word_cost begins planned.plan) (omega arith)

pub both : Begins → ((held : Held) → length (kept_in held) ≤ held.bounds.most) → BothFrontsFit
unfolding bounds_in
both begins kept planned held plan bounds front =
    let cost : 2 * (size_in held.plan + 16) ≡ cost_of planned.plan.cartridge =
    word_cost begins held.plan ∙ ap (λ (p : Plan). cost_of p.cartridge) plan in
    let most : held.bounds.most ≡ most_of planned.limits planned.plan.cartridge = ap (λ (b : Bounds). b.most) bounds in
    let few : held.bounds.most ≤ most_of planned.limits planned.plan.cartridge = omega (arith, most) in
    two_fronts _ _ held.bounds.most (size_in held.plan + 16) planned.limits.budget front (kept held)
    (paid_words planned.limits planned.plan.cartridge (size_in held.plan + 16) held.bounds.most cost few)
