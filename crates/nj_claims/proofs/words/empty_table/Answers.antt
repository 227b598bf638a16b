-- All slots are empty.
use Rattle.std.proofs.Common.{◌≡◌, ◌≤◌, ◌^◌, ◌*◌, ◌%◌, ◌∙◌, arith, subst, ℕ}
use Rattle.nj_claims.proofs.Testing.{AreEmpty, empty_is_table, empty_count, empty_has_none, shifted}
use Rattle.nj_claims.proofs.Entries.{none_entered}
use Rattle.nj_claims.proofs.words.empty_table.Goals as goal

done : (c : goal.After-loop-slot) → AreEmpty ((1 * 2 ^ c.args.exponent) % 18446744073709551616)
    ((1 * 2 ^ c.args.exponent) % 18446744073709551616) c.loop-slot.words.items
done c = let n : ℕ = (1 * 2 ^ c.args.exponent) % 18446744073709551616 in
    let same : c.loop-slot.slot ≡ n = let a : c.loop-slot.slot ≤ n = c.loop-slot.auto.slot-end in
    let b : n ≤ c.loop-slot.slot = c.loop-slot-test.false in omega arith in
    subst (λ (k : ℕ). AreEmpty n k c.loop-slot.words.items) same c.loop-slot.invariant

pub returns-clause-table : goal.returns-clause-table
returns-clause-table c =
    empty_is_table _ c.args.exponent c.loop-slot.words.items (shifted c.args.exponent c.requires.1) (done c)

pub returns-clause-slots : goal.returns-clause-slots
returns-clause-slots c = empty_count _ c.loop-slot.words.items (done c) ∙ shifted c.args.exponent c.requires.1

pub returns-clause-empty : goal.returns-clause-empty
returns-clause-empty c = let a = done c in none_entered _ c.loop-slot.words.items a.wide a.empty

pub returns-clause-owners : goal.returns-clause-owners
returns-clause-owners c = λ key. empty_has_none _ c.loop-slot.words.items key (done c)
