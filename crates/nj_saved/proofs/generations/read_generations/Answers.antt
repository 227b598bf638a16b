-- One generation more.
use Rattle.std.proofs.Common.{◌≡◌, ◌⊎◌, inl, inr, ◌+◌, ◌*◌, ◌<◌, ℕ, List, ap, arith}
use Rattle.std.specs.Prelude.{Some}
use Rattle.std.proofs.lemmas.Result.{err_from_is_err_and}
use Rattle.nj_saved.specs.declared.refusal.SavedRefused.{SavedRefused}
use Rattle.nj_saved.specs.declared.refusal.SavedRefused.TheVariants.{NoMemory}
use Rattle.nj_saved.specs.Fields.{count_of}
use Rattle.nj_saved.specs.Reading.{first_refusal, generation_tests, generations_tests}
use Rattle.nj_saved.proofs.Loops.{AreGenerationsBelow, one_generation, generation_refused}
use Rattle.nj_saved.proofs.generations.read_generations.Goals as goal

refused_so :
    (file : List ℕ) (g : ℕ) (older : List (List ℕ)) (at : ℕ) (refused : SavedRefused) →
    AreGenerationsBelow file g older at → g < count_of file →
    (refused ≡ NoMemory) ⊎ (first_refusal (generation_tests file older at) ≡ Some refused) →
    (refused ≡ NoMemory) ⊎ (first_refusal (generations_tests file) ≡ Some refused)
refused_so file g older at refused are below (inl memory) = inl memory
refused_so file g older at refused are below (inr first) =
    inr (generation_refused file g older at refused are below first)

pub returns-in_err-keys : goal.returns-in_err-keys
returns-in_err-keys c =
    let p = err_from_is_err_and c.from_residual.result c.from_residual.ensures.1 in
    let below : c.loop-g.g < count_of c.args.file.now = omega (arith, c.loop-g-test.true, c.u32_at-g-end.ensures) in
    rw (p.1, p.2)
    (refused_so c.args.file.now c.loop-g.g _ _ c.in_err-keys.field-0.0 c.loop-g.invariant below c.in_err-keys.ensures)

pub loop-g-preserved : goal.loop-g-preserved
loop-g-preserved c =
    one_generation c.args.file.now c.loop-g.g _ _ c.in_ok-keys.keys _ _ c.loop-g.invariant c.in_ok-keys.ensures
    c.in_ok-older.ensures (ap (λ n. c.loop-g.at + (4 + 8 * n)) c.len.ensures)
