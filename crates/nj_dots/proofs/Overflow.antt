-- Which dots change the overflow flag; no access does.
use Rattle.std.proofs.Common.{◌≡◌, ℕ, Bool, true, false, ◌||◌, ◌&&◌, ◌==◌, if◌then◌else◌, nat_le, List, refl, ap, sym, ◌∙◌, arith, inl, inr}
use Rattle.std.proofs.lemmas.Bool.{cases_Bool, true≢false}
use Rattle.std.proofs.lemmas.Bool.Decides.{nat_tests}
use Rattle.nj_dots.specs.declared.screen.Screen.{Screen}
use Rattle.nj_dots.specs.Screen.{is_next, is_rendering}
use Rattle.nj_dots.specs.Dots.{raised, blank_begun, blank_ended, flagged, pixel, tile_fetched, line_ended, tile_ended, overflows, latched, sprites_fetched, prefetched, shown, emptied, hidden, is_drawn_line, drawn, moved, dot_of}
use Rattle.nj_dots.specs.Registers.{after_status, after_oam_read, after_data_read, after_read, put_control, put_mask, put_nothing, put_oam_address, put_oam, put_scroll, put_address, put_data, after_write}
use Rattle.nj_dots.specs.Laws.{IsNext, IsOverflow}
use Rattle.nj_dots.proofs.Timing.{before_move, dot_of-moved, Moves, moves-moved, Flags, flags-flagged_raised}
use Rattle.nj_dots.proofs.Moving.{if-true, if-false, next-is, is-next}

-- the flag stays
pub record SameOverflow (s e : Screen) : Type 0 where
  pub overflow : e.sprite_overflow ≡ s.sprite_overflow

overflow-if : (b : Bool) (s x y : Screen) → SameOverflow s x → SameOverflow s y → SameOverflow s (if b then x else y)
overflow-if true s x y h k = h
overflow-if false s x y h k = k

overflow-else : (b : Bool) (s x y : Screen) → b ≡ false → SameOverflow s y → SameOverflow s (if b then x else y)
overflow-else true s x y no_then k = absurd (true≢false no_then)
overflow-else false s x y no_then k = k

overflow-refl : (s : Screen) → SameOverflow s s
overflow-refl s = record { overflow = refl }

overflow-pixel : (s : Screen) → (pixel s).sprite_overflow ≡ s.sprite_overflow
unfolding pixel
overflow-pixel s = refl

overflow-tile_fetched : (p : List ℕ) (s : Screen) → SameOverflow s (tile_fetched p s)
unfolding tile_fetched
overflow-tile_fetched p s = record { overflow = refl }

overflow-line_ended : (p : List ℕ) (s : Screen) → SameOverflow s (line_ended p s)
unfolding line_ended tile_fetched
overflow-line_ended p s = record { overflow = refl }

overflow-tile_ended : (p : List ℕ) (s : Screen) → SameOverflow s (tile_ended p s)
unfolding tile_ended
overflow-tile_ended p s =
    overflow-if _ s _ _ (overflow-line_ended p s) (overflow-if _ s _ _ (overflow-tile_fetched p s) (overflow-refl s))

overflow-tile : (p : List ℕ) (s : Screen) → SameOverflow s (tile_ended p (pixel s))
overflow-tile p s =
    let same : SameOverflow (pixel s) (tile_ended p (pixel s)) = overflow-tile_ended p (pixel s) in
    record { overflow = same.overflow ∙ overflow-pixel s }

overflow-sprites_fetched : (s : Screen) → SameOverflow s (sprites_fetched s)
unfolding sprites_fetched
overflow-sprites_fetched s = record { overflow = refl }

overflow-prefetched : (p : List ℕ) (s : Screen) → SameOverflow s (prefetched p s)
unfolding prefetched
overflow-prefetched p s = record { overflow = refl }

overflow-emptied : (s : Screen) → SameOverflow s (emptied s)
unfolding emptied
overflow-emptied s = record { overflow = refl }

overflow-hidden : (s : Screen) → SameOverflow s (hidden s)
unfolding hidden
overflow-hidden s = overflow-if _ s _ _ (overflow-emptied s) (overflow-refl s)

overflow-latched : (p : List ℕ) (s : Screen)
    → (latched p s).sprite_overflow ≡ (s.sprite_overflow || overflows s.oam s.control s.position.line)
unfolding latched
overflow-latched p s = refl

-- away from dot 257 the work of a line leaves it
overflow-aside : (p : List ℕ) (s : Screen) → (s.position.dot == 257) ≡ false → SameOverflow s (shown p s)
unfolding shown
overflow-aside p s aside =
    overflow-if _ s _ _ (overflow-tile p s) (overflow-else _ s _ _ aside
    (overflow-if _ s _ _ (overflow-sprites_fetched s)
    (overflow-if _ s _ _ (overflow-prefetched p s) (overflow-refl s))))

no-pixel : (dot : ℕ) → (dot == 257) ≡ true → (nat_le 1 dot && nat_le dot 256) ≡ false
no-pixel dot at = grind (arith, nat_tests, at)

overflow-there : (p : List ℕ) (s : Screen) → (s.position.dot == 257) ≡ true → shown p s ≡ latched p s
unfolding shown
overflow-there p s at = if-false _ _ _ (no-pixel s.position.dot at) ∙ if-true _ _ _ at

-- the dot raises the flag
unfoldable pub raises_overflow : Screen → Bool
raises_overflow s = is_rendering s.mask && (s.position.dot == 257 && overflows s.oam s.control s.position.line)

or-none : (b c : Bool) → c ≡ false → b ≡ (b || c)
or-none true c none = refl
or-none false c none = sym none

and-none : (b c : Bool) → c ≡ false → (b && c) ≡ false
and-none true c none = none
and-none false c none = refl

overflow-shown : (p : List ℕ) (s : Screen)
    → (shown p s).sprite_overflow
    ≡ (s.sprite_overflow || (s.position.dot == 257 && overflows s.oam s.control s.position.line))
overflow-shown p s = elim (cases_Bool (s.position.dot == 257)) [
  | inl at ↦
      ap (λ e. e.sprite_overflow) (overflow-there p s at) ∙ overflow-latched p s
      ∙ sym (ap (λ b. s.sprite_overflow || (b && overflows s.oam s.control s.position.line)) at)
  | inr aside ↦ (
      let same : SameOverflow s (shown p s) = overflow-aside p s aside in
      same.overflow
      ∙ or-none s.sprite_overflow (s.position.dot == 257 && overflows s.oam s.control s.position.line)
      (ap (λ b. b && overflows s.oam s.control s.position.line) aside))
]

no-overflow-below : (oam : List ℕ) (control line : ℕ) → is_drawn_line line ≡ false → overflows oam control line ≡ false
unfolding is_drawn_line overflows
no-overflow-below oam control line below = grind (arith, nat_tests, below)

overflow-drawn : (p : List ℕ) (s : Screen) → (drawn p s).sprite_overflow ≡ (s.sprite_overflow || raises_overflow s)
unfolding drawn raises_overflow
overflow-drawn p s = elim (cases_Bool (is_drawn_line s.position.line)) [
  | inl draws ↦ (elim (cases_Bool (is_rendering s.mask)) [
    | inl on ↦
        ap (λ e. e.sprite_overflow) (if-true (is_drawn_line s.position.line) _ s draws
        ∙ if-true (is_rendering s.mask) (shown p s) (hidden s) on)
        ∙ overflow-shown p s
        ∙ sym (ap
        (λ b. s.sprite_overflow || (b && (s.position.dot == 257 && overflows s.oam s.control s.position.line))) on)
    | inr off ↦ (
        let same : SameOverflow s (hidden s) = overflow-hidden s in
        ap (λ e. e.sprite_overflow) (if-true (is_drawn_line s.position.line) _ s draws
        ∙ if-false (is_rendering s.mask) (shown p s) (hidden s) off)
        ∙ same.overflow
        ∙ or-none s.sprite_overflow
        (is_rendering s.mask && (s.position.dot == 257 && overflows s.oam s.control s.position.line))
        (ap (λ b. b && (s.position.dot == 257 && overflows s.oam s.control s.position.line)) off))
  ])
  | inr below ↦
      ap (λ e. e.sprite_overflow) (if-false (is_drawn_line s.position.line) _ s below)
      ∙ or-none s.sprite_overflow
      (is_rendering s.mask && (s.position.dot == 257 && overflows s.oam s.control s.position.line))
      (and-none (is_rendering s.mask) _
      (and-none (s.position.dot == 257) _ (no-overflow-below s.oam s.control s.position.line below)))
]

-- a dot: its flag step, and then dot 257
raises-same : (s e : Screen) → Flags s e → raises_overflow e ≡ raises_overflow s
unfolding raises_overflow
raises-same s e h =
    ap (λ x. is_rendering x.mask && (x.position.dot == 257 && overflows x.oam x.control x.position.line)) h.same

pub overflow-dot : (p : List ℕ) (s : Screen)
    → (dot_of p s).sprite_overflow ≡ ((flagged (raised s)).sprite_overflow || raises_overflow s)
unfolding before_move
overflow-dot p s =
    let moves : Moves (before_move p s) (moved (before_move p s)) = moves-moved (before_move p s) in
    ap (λ e. e.sprite_overflow) (dot_of-moved p s ∙ moves.same)
    ∙ overflow-drawn p (flagged (raised s))
    ∙ ap (λ b. (flagged (raised s)).sprite_overflow || b) (raises-same s (flagged (raised s)) (flags-flagged_raised s))

-- the flag step: it falls at (261,1)
overflow-begun : (s : Screen) → SameOverflow s (blank_begun s)
unfolding blank_begun
overflow-begun s = record { overflow = refl }

overflow-raised : (s : Screen) → (raised s).sprite_overflow ≡ s.sprite_overflow
unfolding raised
overflow-raised s = refl

raised-next : (l d : ℕ) (s : Screen) → is_next l d (raised s) ≡ is_next l d s
unfolding raised is_next
raised-next l d s = refl

overflow-flagged : (s : Screen) → is_next 261 1 s ≡ false → SameOverflow s (flagged s)
unfolding flagged
overflow-flagged s apart = overflow-if _ s _ _ (overflow-begun s) (overflow-else _ s _ _ apart (overflow-refl s))

pub overflow-apart : (p : List ℕ) (s : Screen) → is_next 261 1 s ≡ false
    → (dot_of p s).sprite_overflow ≡ (s.sprite_overflow || raises_overflow s)
overflow-apart p s apart =
    let same : SameOverflow (raised s) (flagged (raised s)) =
    overflow-flagged (raised s) (raised-next 261 1 s ∙ apart) in
    overflow-dot p s ∙ ap (λ b. b || raises_overflow s) (same.overflow ∙ overflow-raised s)

-- the places of the two
raises-where : (s : Screen) → raises_overflow s ≡ true → IsOverflow s
unfolding raises_overflow overflows
raises-where s h = record {
  line = grind (arith, nat_tests, h);
  dot = grind (arith, nat_tests, h);
  renders = grind (arith, nat_tests, h);
  sprites = grind (arith, nat_tests, h);
}

where-raises : (s : Screen) → IsOverflow s → raises_overflow s ≡ true
unfolding raises_overflow overflows
where-raises s h = grind (arith, nat_tests, h.line, h.dot, h.renders, h.sprites)

pub raises-not : (s : Screen) → (IsOverflow s → ⊥) → raises_overflow s ≡ false
raises-not s apart = elim (cases_Bool (raises_overflow s)) [
  | inl does ↦ absurd (apart (raises-where s does))
  | inr does_not ↦ does_not
]

two-dots : (s : Screen) → IsOverflow s → is_next 261 1 s ≡ false
unfolding is_next
two-dots s h = grind (arith, nat_tests, h.line)

or-true : (b c : Bool) → c ≡ true → (b || c) ≡ true
or-true true c h = refl
or-true false c h = h

pub overflow-rises : (p : List ℕ) (s : Screen) → IsOverflow s → (dot_of p s).sprite_overflow ≡ true
overflow-rises p s h = overflow-apart p s (two-dots s h) ∙ or-true s.sprite_overflow _ (where-raises s h)

flagged-falls : (s : Screen) → IsNext 261 1 s → (flagged s).sprite_overflow ≡ false
unfolding flagged blank_ended is_next
flagged-falls s at =
    let first : (s.position.line == 241 && s.position.dot == 1) ≡ false = grind (arith, nat_tests, at.line) in
    ap (λ e. e.sprite_overflow) (if-false _ _ _ first
    ∙ if-true (is_next 261 1 s) (blank_ended s) s (is-next 261 1 s at))

next-raised : (s : Screen) → IsNext 261 1 s → IsNext 261 1 (raised s)
unfolding raised
next-raised s at = record { line = at.line; dot = at.dot }

pub overflow-falls : (p : List ℕ) (s : Screen) → IsNext 261 1 s → (dot_of p s).sprite_overflow ≡ false
overflow-falls p s at =
    let none : raises_overflow s ≡ false = raises-not s (λ h. true≢false (sym (is-next 261 1 s at) ∙ two-dots s h)) in
    overflow-dot p s
    ∙ ap (λ b. b || raises_overflow s) (flagged-falls (raised s) (next-raised s at)) ∙ none

pub overflow-risen : (p : List ℕ) (s : Screen) → s.sprite_overflow ≡ false → (dot_of p s).sprite_overflow ≡ true
    → IsOverflow s
overflow-risen p s low high = elim (cases_Bool (is_next 261 1 s)) [
  | inl at ↦ absurd (true≢false (sym high ∙ overflow-falls p s (next-is 261 1 s at)))
  | inr apart ↦ raises-where s (ap (λ b. b || raises_overflow s) (sym low) ∙ sym (overflow-apart p s apart) ∙ high)
]

pub overflow-fallen : (p : List ℕ) (s : Screen) → s.sprite_overflow ≡ true → (dot_of p s).sprite_overflow ≡ false
    → IsNext 261 1 s
overflow-fallen p s high low = elim (cases_Bool (is_next 261 1 s)) [
  | inl at ↦ next-is 261 1 s at
  | inr apart ↦ absurd (true≢false (ap (λ b. b || raises_overflow s) (sym high) ∙ sym (overflow-apart p s apart) ∙ low))
]

-- accesses
overflow-after_status : (s : Screen) → SameOverflow s (after_status s)
unfolding after_status
overflow-after_status s = record { overflow = refl }

overflow-after_oam_read : (s : Screen) → SameOverflow s (after_oam_read s)
unfolding after_oam_read
overflow-after_oam_read s = record { overflow = refl }

overflow-after_data_read : (p : List ℕ) (s : Screen) → SameOverflow s (after_data_read p s)
unfolding after_data_read
overflow-after_data_read p s = record { overflow = refl }

pub overflow-read : (reg : ℕ) (p : List ℕ) (s : Screen) → SameOverflow s (after_read reg p s)
unfolding after_read
overflow-read reg p s =
    overflow-if _ s _ _ (overflow-after_status s)
    (overflow-if _ s _ _ (overflow-after_oam_read s)
    (overflow-if _ s _ _ (overflow-after_data_read p s) (overflow-refl s)))

overflow-put_control : (value : ℕ) (s : Screen) → SameOverflow s (put_control value s)
unfolding put_control
overflow-put_control value s = record { overflow = refl }

overflow-put_mask : (value : ℕ) (s : Screen) → SameOverflow s (put_mask value s)
unfolding put_mask
overflow-put_mask value s = record { overflow = refl }

overflow-put_nothing : (value : ℕ) (s : Screen) → SameOverflow s (put_nothing value s)
unfolding put_nothing
overflow-put_nothing value s = record { overflow = refl }

overflow-put_oam_address : (value : ℕ) (s : Screen) → SameOverflow s (put_oam_address value s)
unfolding put_oam_address
overflow-put_oam_address value s = record { overflow = refl }

overflow-put_oam : (value : ℕ) (s : Screen) → SameOverflow s (put_oam value s)
unfolding put_oam
overflow-put_oam value s = record { overflow = refl }

overflow-put_scroll : (value : ℕ) (s : Screen) → SameOverflow s (put_scroll value s)
unfolding put_scroll
overflow-put_scroll value s = record { overflow = refl }

overflow-put_address : (value : ℕ) (s : Screen) → SameOverflow s (put_address value s)
unfolding put_address
overflow-put_address value s = record { overflow = refl }

overflow-put_data : (value : ℕ) (s : Screen) → SameOverflow s (put_data value s)
unfolding put_data
overflow-put_data value s = record { overflow = refl }

pub overflow-write : (reg value : ℕ) (s : Screen) → SameOverflow s (after_write reg value s)
unfolding after_write
overflow-write reg value s =
    overflow-if _ s _ _ (overflow-put_control value s)
    (overflow-if _ s _ _ (overflow-put_mask value s)
    (overflow-if _ s _ _ (overflow-put_nothing value s)
    (overflow-if _ s _ _ (overflow-put_oam_address value s)
    (overflow-if _ s _ _ (overflow-put_oam value s)
    (overflow-if _ s _ _ (overflow-put_scroll value s)
    (overflow-if _ s _ _ (overflow-put_address value s)
    (overflow-put_data value s)))))))
