-- Where a dot leads, by its place in the frame.
use Rattle.std.proofs.Common.{◌≡◌, ℕ, ◌+◌, ◌<◌, ◌≤◌, Bool, true, false, not, ◌||◌, ◌&&◌, ◌==◌, if◌then◌else◌, List, refl, ap, sym, ◌∙◌, arith, inl, inr}
use Rattle.std.proofs.lemmas.Bool.{cases_Bool, true≢false}
use Rattle.std.proofs.lemmas.Bool.Decides.{nat_tests}
use Rattle.nj_dots.specs.declared.position.Position.{Position}
use Rattle.nj_dots.specs.declared.screen.Screen.{Screen}
use Rattle.nj_dots.specs.Screen.{place_of, IsPlaced, is_next, is_rendering}
use Rattle.nj_dots.specs.Dots.{is_last_dot, after_position, frame_begun, advanced, moved, dot_of}
use Rattle.nj_dots.specs.Laws.{IsNext, IsStart}
use Rattle.nj_dots.proofs.Timing.{before_move, dot_of-moved, Stands, before_move-stands}

-- a choice, told which way it goes
pub if-true : {X : Type 0} (b : Bool) (x y : X) → b ≡ true → (if b then x else y) ≡ x
if-true true x y h = refl
if-true false x y h = absurd (true≢false (sym h))

pub if-false : {X : Type 0} (b : Bool) (x y : X) → b ≡ false → (if b then x else y) ≡ y
if-false true x y h = absurd (true≢false h)
if-false false x y h = refl

-- a test of the next dot, both ways
pub next-is : (l d : ℕ) (s : Screen) → is_next l d s ≡ true → IsNext l d s
unfolding is_next
next-is l d s h = record { line = grind (arith, nat_tests, h); dot = grind (arith, nat_tests, h) }

pub is-next : (l d : ℕ) (s : Screen) → IsNext l d s → is_next l d s ≡ true
unfolding is_next
is-next l d s h = grind (arith, nat_tests, h.line, h.dot)

pub not-next : (l d : ℕ) (s : Screen) → (IsNext l d s → ⊥) → is_next l d s ≡ false
not-next l d s apart = elim (cases_Bool (is_next l d s)) [
  | inl does ↦ absurd (apart (next-is l d s does))
  | inr does_not ↦ does_not
]

-- which place is the last of the frame
pub record IsLastPlace (s : Screen) : Type 0 where
  pub late : 89340 ≤ place_of s.position
  pub line : s.position.line ≡ 261
  pub skips : place_of s.position ≡ 89340 → (s.odd_frame && is_rendering s.mask) ≡ true

pub last-place : (s : Screen) → is_last_dot s ≡ true → IsLastPlace s
unfolding is_last_dot is_next
last-place s h = record {
  late = grind (arith, nat_tests, h);
  line = grind (arith, nat_tests, h);
  skips = λ at. grind (arith, nat_tests, h, at);
}

-- a place before the last two is not the last, nor is the last but one in a whole frame
pub not-last : (s : Screen) → place_of s.position < 89340 → is_last_dot s ≡ false
not-last s early = elim (cases_Bool (is_last_dot s)) [
  | inl last ↦ (let l : IsLastPlace s = last-place s last in absurd (omega (arith, l.late)))
  | inr does_not ↦ does_not
]

pub not-last-whole : (s : Screen) → place_of s.position < 89341 → (s.odd_frame && is_rendering s.mask) ≡ false
    → is_last_dot s ≡ false
not-last-whole s early whole = elim (cases_Bool (is_last_dot s)) [
  | inl last ↦ (let l : IsLastPlace s = last-place s last in
      let at : place_of s.position ≡ 89340 = omega (arith, l.late) in
      absurd (true≢false (sym (l.skips at) ∙ whole)))
  | inr does_not ↦ does_not
]

-- the last place is the last
pub is-last : (s : Screen) → IsPlaced s.position → place_of s.position ≡ 89341 → is_last_dot s ≡ true
unfolding is_last_dot is_next
is-last s placed at = grind (arith, nat_tests, placed.line, placed.dot, at)

pub is-last-odd : (s : Screen) → IsPlaced s.position → place_of s.position ≡ 89340
    → (s.odd_frame && is_rendering s.mask) ≡ true → is_last_dot s ≡ true
unfolding is_last_dot is_next
is-last-odd s placed at odd = grind (arith, nat_tests, placed.line, placed.dot, at, odd)

-- the next dot is one place further
pub place_of-after : (p : Position) → p.dot < 341 → place_of (after_position p) ≡ place_of p + 1
unfolding after_position
place_of-after p within = grind (arith, nat_tests, within)

-- the picture after a dot that is not its frame's last
pub record GoesOn (s e : Screen) : Type 0 where
  pub position : e.position ≡ after_position s.position
  pub odd_frame : e.odd_frame ≡ s.odd_frame
  pub mask : e.mask ≡ s.mask

pub goes-on : (p : List ℕ) (s : Screen) → is_last_dot s ≡ false → GoesOn s (dot_of p s)
unfolding moved advanced is_last_dot is_next
goes-on p s does_not =
    let b : Screen = before_move p s in
    let st : Stands s b = before_move-stands p s in
    let same : is_last_dot b ≡ is_last_dot s =
    ap (λ (q : Position). (q.line == 261 && q.dot == 340)
    || ((q.line == 261 && q.dot == 339) && b.odd_frame && is_rendering b.mask)) st.position
    ∙ ap (λ (o : Bool). (s.position.line == 261 && s.position.dot == 340)
    || ((s.position.line == 261 && s.position.dot == 339) && o && is_rendering b.mask)) st.odd_frame
    ∙ ap (λ (m : ℕ). (s.position.line == 261 && s.position.dot == 340)
    || ((s.position.line == 261 && s.position.dot == 339) && s.odd_frame && is_rendering m)) st.mask in
    let is : dot_of p s ≡ advanced b = dot_of-moved p s ∙ if-false (is_last_dot b) _ _ (same ∙ does_not) in
    record {
      position = ap (λ e. e.position) is ∙ ap after_position st.position;
      odd_frame = ap (λ e. e.odd_frame) is ∙ st.odd_frame;
      mask = ap (λ e. e.mask) is ∙ st.mask;
    }

-- the picture after its frame's last dot
pub record Restarts (s e : Screen) : Type 0 where
  pub start : IsStart e
  pub odd_frame : e.odd_frame ≡ not s.odd_frame
  pub mask : e.mask ≡ s.mask

pub restarts : (p : List ℕ) (s : Screen) → is_last_dot s ≡ true → Restarts s (dot_of p s)
unfolding moved frame_begun is_last_dot is_next
restarts p s does =
    let b : Screen = before_move p s in
    let st : Stands s b = before_move-stands p s in
    let same : is_last_dot b ≡ is_last_dot s =
    ap (λ (q : Position). (q.line == 261 && q.dot == 340)
    || ((q.line == 261 && q.dot == 339) && b.odd_frame && is_rendering b.mask)) st.position
    ∙ ap (λ (o : Bool). (s.position.line == 261 && s.position.dot == 340)
    || ((s.position.line == 261 && s.position.dot == 339) && o && is_rendering b.mask)) st.odd_frame
    ∙ ap (λ (m : ℕ). (s.position.line == 261 && s.position.dot == 340)
    || ((s.position.line == 261 && s.position.dot == 339) && s.odd_frame && is_rendering m)) st.mask in
    let is : dot_of p s ≡ frame_begun b = dot_of-moved p s ∙ if-true (is_last_dot b) _ _ (same ∙ does) in
    record {
      start = record { line = ap (λ e. e.position.line) is; dot = ap (λ e. e.position.dot) is };
      odd_frame = ap (λ e. e.odd_frame) is ∙ ap not st.odd_frame;
      mask = ap (λ e. e.mask) is ∙ st.mask;
    }
