-- Lemmas on the look-ups of opcodes.
use Rattle.std.proofs.Common.{ℕ, suc, ◌≡◌, ◌≤◌, ◌<◌, ◌+◌, ◌-◌, Bool, true, false, cond, List, length, drop, get_or, ap, ◌∙◌, arith, Some, None, drop-cons, add-one}
use Rattle.nj_isa.specs.declared.modes.Mode.{Mode}
use Rattle.nj_asm_lines.specs.Grammar.{first_code, coded, coded_or, opcode_of}

-- a search among the codes, one code on
pub first_code_step : (test : ℕ → Bool) (at : ℕ) → at < 256
    → first_code test at (256 - at) ≡ cond (test at) (Some at) (first_code test (at + 1) (256 - (at + 1)))
unfolding first_code
first_code_step test at within = let left : 256 - at ≡ suc (256 - (at + 1)) = omega arith in rw left

pub first_code_found : (test : ℕ → Bool) (at : ℕ) → at < 256 → test at ≡ true → first_code test at (256 - at) ≡ Some at
first_code_found test at within here =
    first_code_step test at within ∙ ap (λ b. cond b (Some at) (first_code test (at + 1) (256 - (at + 1)))) here

pub first_code_next : (test : ℕ → Bool) (at : ℕ) → at < 256 → test at ≡ false
    → first_code test at (256 - at) ≡ first_code test (at + 1) (256 - (at + 1))
first_code_next test at within not_here =
    first_code_step test at within ∙ ap (λ b. cond b (Some at) (first_code test (at + 1) (256 - (at + 1)))) not_here

pub first_code_none : (test : ℕ → Bool) (at : ℕ) → 256 ≤ at → first_code test at (256 - at) ≡ None
unfolding first_code
first_code_none test at over = let none : 256 - at ≡ 0 = omega arith in rw none

-- the modes from a place on
pub coded-drop : (word : List ℕ) (modes : List Mode) (i : ℕ) (d : Mode) → i < length modes →
    coded word (drop i modes)
    ≡ coded_or (get_or modes i d) (opcode_of word (Some (get_or modes i d))) (coded word (drop (i + 1) modes))
coded-drop word modes i d within = rw (add-one, drop-cons modes i d within)
