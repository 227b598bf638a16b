-- A write of $2007 that is left to the board is one to pattern memory.
use Rattle.std.proofs.Common.{◌≡◌, ℕ, ◌<◌, Bool, true, false, if◌then◌else◌, nat_lt, Some, None, refl, subst, arith}
use Rattle.std.proofs.lemmas.Bool.Decides.{nat_tests}
use Rattle.nj_dots.specs.declared.screen.Screen.{Screen}
use Rattle.nj_dots.specs.Registers.{to_pattern, data_address}

-- by the two tests
inner-below : (b : Bool) (a v : ℕ) → (b ≡ true → a < 0x2000) → (p : ℕ × ℕ) → (if b then Some (a, v) else None) ≡ Some p
    → p.0 < 0x2000
inner-below true a v h p e = let same : (a, v) ≡ p = cc in subst (λ q. q.0 < 0x2000) same (h refl)
inner-below false a v h p e = cc

outer-below : (b : Bool) (a v : ℕ) (p : ℕ × ℕ)
    → (if b then (if nat_lt a 0x2000 then Some (a, v) else None) else None) ≡ Some p → p.0 < 0x2000
outer-below true a v p e = inner-below (nat_lt a 0x2000) a v (λ t. grind (arith, nat_tests)) p e
outer-below false a v p e = cc

pub pattern_place : (reg value : ℕ) (s : Screen) (p : ℕ × ℕ) → to_pattern reg value s ≡ Some p → p.0 < 0x2000
unfolding to_pattern
pattern_place reg value s p e = outer-below _ (data_address s) value p e
