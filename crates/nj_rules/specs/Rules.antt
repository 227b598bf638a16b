-- Which rules are satisfied, and what they come to. All of it is this project's own.
use Rattle.std.specs.Prelude.{ℕ, zero, suc, ◌+◌, ◌^◌, ◌==◌, ◌&&◌, ◌||◌, Bool, false, List, [], ◌∷◌, count_by, map, ℤ, pos, ◌+ℤ◌, ◌*ℤ◌, bit_or, if◌then◌else◌}
use Rattle.std.specs.List.{list_any}
use Rattle.std.specs.Int.{bit_at}
use Rattle.nj_property.specs.Property.{value_of}
use Rattle.nj_property.specs.Condition.{all_hold_in}
use Rattle.nj_rules.specs.declared.record.Rule.{Rule}
use Rattle.nj_rules.specs.declared.record.Weight.{Weight}
use Rattle.nj_rules.specs.declared.record.Verdict.{Verdict}
use Rattle.nj_rules.specs.declared.record.Verdict.TheVariants.{Go, Win, Fail}
use Rattle.nj_rules.specs.declared.record.Judged.{Judged}

-- ---- sets of rules

-- whether number k is in a set of numbers, kept as the bits of a number
unfoldable pub is_in : ℕ → ℕ → Bool
is_in set k = bit_at set k == 1

-- the set of the numbers below n that pass the test
unfoldable pub set_below : ℕ → (ℕ → Bool) → ℕ
set_below zero passes = 0
set_below (suc n) passes = if passes n then bit_or (set_below n passes) (2 ^ n) else set_below n passes

-- those of the rules whose numbers are in the set, where the first rule of the list has number k
abbrev pub members_from : ℕ → ℕ → List Rule → List Rule
members_from k set [] = []
members_from k set (rule ∷ rules) =
    if is_in set k then rule ∷ members_from (k + 1) set rules else members_from (k + 1) set rules

-- ---- satisfied rules

-- whether the conditions of rule k hold
abbrev pub own_hold : List Rule → List ℕ → ℕ → Bool
own_hold [] ram k = false
own_hold (rule ∷ rules) ram zero = all_hold_in ram rule.when
own_hold (rule ∷ rules) ram (suc k) = own_hold rules ram k

-- whether a rule whose conditions hold names rule k in `also`
abbrev pub is_named : List Rule → List ℕ → ℕ → Bool
is_named rules ram k = list_any (λ rule. all_hold_in ram rule.when && list_any (λ n. n == k) rule.also) rules

-- whether memory satisfies rule k by itself: its conditions hold, or a rule whose conditions hold names it
unfoldable pub is_met : List Rule → List ℕ → ℕ → Bool
is_met rules ram k = own_hold rules ram k || is_named rules ram k

-- the status after a state: the rules that were satisfied before, and those that its memory satisfies
unfoldable pub status_after : List Rule → List ℕ → ℕ → ℕ
status_after rules ram old = set_below 128 (λ k. is_in old k || is_met rules ram k)

-- the satisfied rules, in order
unfoldable pub satisfied_rules : List Rule → ℕ → List Rule
satisfied_rules rules status = members_from 0 status rules

-- ---- what they come to

-- the sum of integers
abbrev pub int_sum : List ℤ → ℤ
int_sum [] = pos 0
int_sum (z ∷ zs) = z +ℤ int_sum zs

-- the weight times the value of its property
unfoldable pub worth_of : List ℕ → Weight → ℤ
worth_of ram weight = weight.weight *ℤ value_of weight.property ram

-- what a satisfied rule gives: its fixed reward and its weights' worth
unfoldable pub gain_of : List ℕ → Rule → ℤ
gain_of ram rule = rule.reward +ℤ int_sum (map (worth_of ram) rule.weights)

-- Fail where the machine is jammed or a satisfied rule has `fail`; else Win where one has `win`; else Go
unfoldable pub verdict_of : List Rule → ℕ → Bool → Verdict
verdict_of rules status jammed =
    if jammed || list_any (λ rule. rule.fail) (satisfied_rules rules status) then Fail
    else if list_any (λ rule. rule.win) (satisfied_rules rules status) then Win
    else Go

-- the sum of what the satisfied rules give
unfoldable pub reward_of : List Rule → List ℕ → ℕ → ℤ
reward_of rules ram status = int_sum (map (gain_of ram) (satisfied_rules rules status))

-- how many satisfied rules have `checkpoint`
unfoldable pub level_of : List Rule → ℕ → ℕ
level_of rules status = count_by (λ rule. rule.checkpoint) (satisfied_rules rules status)

-- how the rules judge a state whose parent has this status
unfoldable pub judged_of : List Rule → List ℕ → ℕ → Bool → Judged
judged_of rules ram old jammed =
    let status : ℕ = status_after rules ram old in
    record {
      status = record { 0 = status };
      verdict = verdict_of rules status jammed;
      reward = reward_of rules ram status;
      level = level_of rules status;
    }
