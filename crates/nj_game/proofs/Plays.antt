-- A pad that is held is as many frames with it.
use Rattle.std.proofs.Common.{◌≡◌, ℕ, zero, suc, ◌+◌, replicate, refl, ap, zero-add, suc-add, ◌∙◌}
use Rattle.nj_machine.specs.State.{State}
use Rattle.nj_machine.specs.Frame.{frame, frames}
use Rattle.nj_game.specs.Words.{held}

pub held_frames : (n pad : ℕ) (s : State) → frames s (replicate n pad) ≡ held n pad s
held_frames zero pad s = refl
held_frames (suc n) pad s = held_frames n pad (frame s pad).0

-- frames before frames
pub held-add : (i k pad : ℕ) (s : State) → held (i + k) pad s ≡ held k pad (held i pad s)
held-add zero k pad s = ap (λ n. held n pad s) (zero-add k)
held-add (suc i) k pad s = ap (λ n. held n pad s) (suc-add i k) ∙ held-add i k pad (frame s pad).0

-- one more frame
pub held_more : (n pad : ℕ) (s : State) → held (n + 1) pad s ≡ (frame (held n pad s) pad).0
held_more n pad s = held-add n 1 pad s
