-- A status that stays: flags that stand after some dots stood before them, and a read changes nothing.
use Rattle.std.proofs.Common.{◌≡◌, ℕ, ◌+◌, ◌-◌, ◌<◌, ◌≤◌, Bool, true, false, true≢false, List, refl, ap, sym, ◌∙◌, subst, arith, inl, inr}
use Rattle.std.proofs.lemmas.Bool.{cases_Bool}
use Rattle.nj_dots.specs.declared.screen.Screen.{Screen}
use Rattle.nj_dots.specs.Screen.{IsScreen, is_next}
use Rattle.nj_dots.specs.Dots.{after_dots, to_event}
use Rattle.nj_dots.specs.Registers.{status_byte, after_status, read_byte, after_read}
use Rattle.nj_dots.specs.Laws.{IsEvent}
use Rattle.nj_dots.proofs.Kept.{after_dots-fits}
use Rattle.nj_dots.proofs.Moving.{not-next}
use Rattle.nj_dots.proofs.Events.{event-one, to_event-after}
use Rattle.nj_catchup.specs.Steady.{IsSteady}
use Rattle.nj_catchup.specs.Fixed.{IsFixed, IsRead}
use Rattle.nj_catchup.proofs.Sums.{dots-sum}
use Rattle.nj_catchup.proofs.Calm.{Calm, calm-after}
use Rattle.nj_catchup.proofs.Status.{status_taken, status-taken, status_byte-after, hit-after, read-two, byte-two}
use Rattle.nj_catchup.proofs.Overflows.{IsFallen, overflow-up}

-- a flag that no dot lowers, and that is the same at the end, is the same between
same-flag : (a b c : Bool) → (a ≡ true → b ≡ true) → (b ≡ true → c ≡ true) → c ≡ a → b ≡ a
same-flag true b c up on same = up refl
same-flag false true c up on same = absurd (true≢false (sym (on refl) ∙ same))
same-flag false false c up on same = refl

-- steadiness holds of fewer dots
pub steady-less : IsFallen → (d n : ℕ) (p : List ℕ) (s : Screen) → IsScreen s → d ≤ n → IsSteady n p s → IsSteady d p s
steady-less fallen d n p s fits less h =
    let e : Screen = after_dots d p s in
    let there : IsScreen e = after_dots-fits d p s fits in
    let left : to_event e + d ≡ to_event s = to_event-after d p s fits (omega (arith, h.apart, less)) in
    let rest : after_dots (n - d) p e ≡ after_dots n p s = dots-sum n (n - d) d p s (omega (arith, less)) in
    record {
      apart = omega (arith, h.apart, less);
      hit =
          same-flag s.sprite_zero_hit e.sprite_zero_hit (after_dots n p s).sprite_zero_hit
          (λ up. hit-after d p s fits (omega (arith, h.apart, less)) up)
          (λ up. ap (λ x. x.sprite_zero_hit) (sym rest)
          ∙ hit-after (n - d) p e there (omega (arith, left, h.apart, less)) up) h.hit;
      overflow =
          same-flag s.sprite_overflow e.sprite_overflow (after_dots n p s).sprite_overflow
          (λ up. overflow-up fallen d p s fits (omega (arith, h.apart, less)) up)
          (λ up. ap (λ x. x.sprite_overflow) (sym rest)
          ∙ overflow-up fallen (n - d) p e there (omega (arith, left, h.apart, less)) up) h.overflow;
    }

-- what was read stays read
read-after : (d : ℕ) (p : List ℕ) (s : Screen) → IsScreen s → IsSteady d p s → IsRead s → IsRead (after_dots d p s)
read-after d p s fits steady h =
    let e : Screen = after_dots d p s in
    let calm : Calm s e = calm-after d p s fits (omega (arith, steady.apart)) in
    record {
      latch = ap (λ x. x.latch) calm.same ∙ h.latch ∙ sym (status_byte-after d p s fits steady);
      vertical_blank = ap (λ x. x.vertical_blank) calm.same ∙ h.vertical_blank;
      w = ap (λ x. x.scroll.w) calm.same ∙ h.w;
    }

-- a read of it changes nothing
read-again : (s : Screen) → is_next 241 1 s ≡ false → IsRead s → after_status s ≡ s
read-again s apart h =
    status-taken s apart
    ∙ (λ i. record s {
      latch = sym h.latch i;
      vertical_blank = sym h.vertical_blank i;
      scroll = (let c = s.scroll in record c { w = sym h.w i });
    })

-- the status is fixed
pub fixed : IsFallen → (pending dots : ℕ) (p : List ℕ) (s : Screen) → IsScreen s → IsRead s
    → (0 < dots → IsSteady dots p s) →
    IsFixed s.latch (dots - pending) p (after_dots pending p s)
fixed fallen pending dots p s fits was steady = record { byte = byte; same = same }
  where
    at : (d : ℕ) → d < dots - pending → after_dots d p (after_dots pending p s) ≡ after_dots (d + pending) p s
    at d below = dots-sum (d + pending) d pending p s refl

    here : (d : ℕ) → d < dots - pending → IsSteady (d + pending) p s
    here d below = steady-less fallen (d + pending) dots p s fits (omega (arith, below)) (steady (omega (arith, below)))

    byte : (d : ℕ) → d < dots - pending → read_byte 2 (after_dots d p (after_dots pending p s)) ≡ s.latch
    byte d below =
        ap (read_byte 2) (at d below) ∙ byte-two 2 (after_dots (d + pending) p s) refl
        ∙ status_byte-after (d + pending) p s fits (here d below) ∙ sym was.latch

    same : (d : ℕ) → d < dots - pending
        → after_read 2 p (after_dots d p (after_dots pending p s)) ≡ after_dots d p (after_dots pending p s)
    same d below =
        let e : Screen = after_dots (d + pending) p s in
        let steady_here : IsSteady (d + pending) p s = here d below in
        let left : to_event e + (d + pending) ≡ to_event s =
        to_event-after (d + pending) p s fits (omega (arith, steady_here.apart)) in
        let apart : is_next 241 1 e ≡ false =
        not-next 241 1 e
        (λ next. (let one : to_event e ≡ 1 =
        event-one e (inl next) in absurd (omega (arith, one, left, steady_here.apart)))) in
        ap (after_read 2 p) (at d below) ∙ read-two 2 p e refl
        ∙ read-again e apart (read-after (d + pending) p s fits steady_here was) ∙ sym (at d below)
