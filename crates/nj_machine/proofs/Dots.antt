-- The number of dots up to dot (241,1) falls with each dot, and no dot changes the mirroring.
use Rattle.std.proofs.Common.{◌≡◌, ℕ, zero, suc, ◌+◌, ◌-◌, ◌<◌, ◌≤◌, Bool, true, false, ◌||◌, ◌&&◌, ◌==◌, if◌then◌else◌, List, refl, sym, ap, ◌∙◌, arith}
use Rattle.std.proofs.lemmas.Bool.Decides.{nat_tests}
use Rattle.nj_dots.specs.declared.position.Position.{Position}
use Rattle.nj_dots.specs.declared.screen.Screen.{Screen}
use Rattle.nj_dots.specs.Screen.{IsPlaced, IsScreen, is_next, is_rendering}
use Rattle.nj_dots.specs.Dots.{raised, blank_begun, blank_ended, flagged, drawn, is_last_dot, after_position, frame_begun, advanced, moved, dot_of, after_dots}
use Rattle.nj_dots.proofs.Stays.{Stays, stays-drawn}
use Rattle.nj_dots.proofs.Kept.{dot_of-fits}
use Rattle.nj_machine.specs.Frame.{left_at}

-- the dots left up to dot (241,1), and none once it was run
abbrev pub still : ℕ → ℕ → Bool → ℕ
still line dot ended = if ended then 0 else left_at line dot

abbrev pub still_left : Screen → ℕ
still_left s = still s.position.line s.position.dot s.ended

-- one of two by a test
choice : {A : Type 0} (P : A → Type 0) (b : Bool) (x y : A) → (b ≡ true → P x) → (b ≡ false → P y)
    → P (if b then x else y)
choice P true x y p q = p refl
choice P false x y p q = q refl

-- what the flags of a dot leave: the place, the memory, and a mark where vertical blank begins
record Marked (b : Bool) (s e : Screen) : Type 0 where
  place : e.position ≡ s.position
  memory : e.vram ≡ s.vram
  mark : e.ended ≡ (b || s.ended)

marked-flagged : (s : Screen) → Marked (is_next 241 1 s) s (flagged (raised s))
unfolding flagged raised blank_begun blank_ended is_next
marked-flagged s = by (s.position.line == 241 && s.position.dot == 1) (s.position.line == 261 && s.position.dot == 1)
  where
    by : (b c : Bool)
        → Marked b s (if b then blank_begun (raised s) else (if c then blank_ended (raised s) else raised s))
    by true c = record { place = refl; memory = refl; mark = refl }
    by false true = record { place = refl; memory = refl; mark = refl }
    by false false = record { place = refl; memory = refl; mark = refl }

marked-drawn : (b : Bool) (p : List ℕ) (s e : Screen) → Marked b s e → Marked b s (drawn p e)
marked-drawn b p s e m =
    let stays : Stays e (drawn p e) = stays-drawn p e in
    record {
      place = ap (λ d. d.position) stays.same ∙ m.place;
      memory = ap (λ d. d.vram) stays.same ∙ m.memory;
      mark = ap (λ d. d.ended) stays.same ∙ m.mark;
    }

-- the next place has one dot less, or none after dot (241,1)
turned : (line dot : ℕ) (ended : Bool) → line < 262 → dot ≡ 340
    → still (line + 1) 0 ((line == 241 && dot == 1) || ended) ≤ still line dot ended - 1
unfolding left_at
turned line dot ended h k = grind (arith, nat_tests)

onward : (line dot : ℕ) (ended : Bool) → line < 262 → dot < 340
    → still line (dot + 1) ((line == 241 && dot == 1) || ended) ≤ still line dot ended - 1
unfolding left_at
onward line dot ended h k = grind (arith, nat_tests)

restarted : (line dot : ℕ) (ended : Bool) → line ≡ 261 → 339 ≤ dot → dot < 341
    → still 0 0 ((line == 241 && dot == 1) || ended) ≤ still line dot ended - 1
unfolding left_at
restarted line dot ended h k l = grind (arith, nat_tests)

-- where the last dot is
record AtLast (line dot : ℕ) : Type 0 where
  at_line : line ≡ 261
  at_dot : 339 ≤ dot

last_place : (line dot : ℕ) (odd on : Bool)
    → ((line == 261 && dot == 340) || ((line == 261 && dot == 339) && odd && on)) ≡ true → AtLast line dot
last_place line dot odd on e = record { at_line = grind (arith, nat_tests); at_dot = grind (arith, nat_tests) }

-- a picture's dots are fewer than another's by n at least, and the mirroring is the same
pub record Falls (n : ℕ) (s e : Screen) : Type 0 where
  pub fewer : still_left e ≤ still_left s - n
  pub vertical : e.vram.vertical ≡ s.vram.vertical

-- the move of the place, from a picture at the place of s whose mark was set by the dot's flags
move_restarts : (s t : Screen) → IsPlaced s.position → Marked (is_next 241 1 s) s t → is_last_dot t ≡ true
    → Falls 1 s (frame_begun t)
unfolding frame_begun is_last_dot is_next
move_restarts s t h m last =
    let moved_last : ((s.position.line == 261 && s.position.dot == 340)
    || ((s.position.line == 261 && s.position.dot == 339) && t.odd_frame && is_rendering t.mask)) ≡ true =
    ap (λ (p : Position). (p.line == 261 && p.dot == 340)
    || ((p.line == 261 && p.dot == 339) && t.odd_frame && is_rendering t.mask)) (sym m.place) ∙ last in
    let place : AtLast s.position.line s.position.dot =
    last_place s.position.line s.position.dot t.odd_frame (is_rendering t.mask) moved_last in
    record {
      fewer = rw m.mark (restarted s.position.line s.position.dot s.ended place.at_line place.at_dot h.dot);
      vertical = ap (λ v. v.vertical) m.memory;
    }

move_advances : (s t : Screen) → IsPlaced s.position → Marked (is_next 241 1 s) s t → Falls 1 s (advanced t)
unfolding advanced after_position is_next
move_advances s t h m =
    record {
      fewer =
          rw (m.mark, m.place)
          (choice (λ (p : Position). still p.line p.dot ((s.position.line == 241 && s.position.dot == 1) || s.ended)
          ≤ still_left s - 1) (s.position.dot == 340) _ _
          (λ e. let at : s.position.dot ≡ 340 =
          grind (arith, nat_tests) in turned s.position.line s.position.dot s.ended h.line at)
          (λ e. let below : s.position.dot < 340 =
          grind (arith, nat_tests, h.dot) in onward s.position.line s.position.dot s.ended h.line below));
      vertical = ap (λ v. v.vertical) m.memory;
    }

dot-falls : (p : List ℕ) (s : Screen) → IsScreen s → Falls 1 s (dot_of p s)
unfolding dot_of moved
dot-falls p s h =
    let marked = marked-drawn _ p s _ (marked-flagged s) in
    choice (Falls 1 s) (is_last_dot (drawn p (flagged (raised s)))) _ _ (move_restarts s _ h.placed marked)
    (λ _. move_advances s _ h.placed marked)

-- n dots lower the number by n
pub dots-fall : (n : ℕ) (p : List ℕ) (s : Screen) → IsScreen s
    → IsScreen (after_dots n p s) × Falls n s (after_dots n p s)
unfolding after_dots
dots-fall zero p s h = (h, record { fewer = omega arith; vertical = refl })
dots-fall (suc n) p s h =
    let before = dots-fall n p s h in
    let last = dot-falls p (after_dots n p s) before.0 in (
      dot_of-fits p _ before.0,
      record { fewer = omega (arith, last.fewer, before.1.fewer); vertical = last.vertical ∙ before.1.vertical },
    )
