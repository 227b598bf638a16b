-- A jammed machine stays as it is.
use Rattle.std.proofs.Common.{◌≡◌, ℕ, zero, suc, ◌+◌, ◌-◌, ◌≤◌, true, refl, ap, ◌∙◌, arith}
use Rattle.nj_machine.specs.State.{State, is_jammed}
use Rattle.nj_machine.specs.Frame.{frame, IsReady}
use Rattle.nj_machine.specs.declared.FrameEnd.TheVariants.{Jammed}
use Rattle.nj_game.specs.Words.{held}
use Rattle.nj_game.proofs.Plays.{held-add}

-- the law of the machine: a frame of a jammed machine changes nothing
abbrev pub JamStays : Type 0
JamStays = (s : State) (pad : ℕ) → IsReady s → is_jammed s ≡ true → frame s pad ≡ (s, Jammed)

held_stays : JamStays → (n pad : ℕ) (s : State) → IsReady s → is_jammed s ≡ true → held n pad s ≡ s
held_stays law zero pad s h e = refl
held_stays law (suc n) pad s h e = ap (λ f. held n pad f.0) (law s pad h e) ∙ held_stays law n pad s h e

-- the frames of a step behind a jam change nothing
pub held_to :
    JamStays → (s : State) (pad i n : ℕ) → IsReady (held i pad s) → i ≤ n → is_jammed (held i pad s) ≡ true →
    held n pad s ≡ held i pad s
held_to law s pad i n h below e =
    let whole : n ≡ i + (n - i) = omega (arith, below) in
    ap (λ m. held m pad s) whole ∙ held-add i (n - i) pad s ∙ held_stays law (n - i) pad (held i pad s) h e
