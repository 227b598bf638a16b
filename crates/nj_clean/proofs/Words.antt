-- A word without a press: how many presses it has, and which.
use Rattle.std.proofs.Common.{◌≡◌, ℕ, zero, suc, ◌+◌, ◌-◌, ◌*◌, ◌^◌, ◌<◌, ◌≤◌, ◌⊎◌, inl, inr, Bool, true, false, nat_lt, if◌then◌else◌, List, [], ◌∷◌, ◌++◌, length, map, filter, set, get_or, drop, count_ones, All, refl, ap, ap₂, sym, ◌∙◌, subst, arith, length-append}
use Rattle.std.proofs.lemmas.List.{length-map, length-set, set-get_or, get_or_past}
use Rattle.std.proofs.lemmas.List.Elements.{All-set, All-get_or}
use Rattle.std.proofs.lemmas.Bool.Decides.{nat_tests}
use Rattle.nj_pad.specs.declared.Button.{Button}
use Rattle.nj_pad.specs.Pad.{buttons_in_turn}
use Rattle.nj_search_defs.specs.Game.{Word}
use Rattle.nj_clean.specs.Presses.{Press, holds, is_pressed, buttons_of, press_at, presses_from, presses, without, released}
use Rattle.nj_clean.proofs.Pads.{Member, a_button, fewer, among, unheld, without_unheld, counted, few_buttons}
use Rattle.nj_clean.proofs.Firsts.{drop_next}

abbrev pub AreBytes : Word → Type 0
AreBytes word = All (λ pad. pad < 256) word

-- ---- how many presses

-- how many buttons the pads hold
abbrev pub buttons_in : Word → ℕ
buttons_in [] = 0
buttons_in (pad ∷ word) = length (buttons_of pad) + buttons_in word

pub presses_count : (step : ℕ) (word : Word) → length (presses_from step word) ≡ buttons_in word
presses_count step [] = refl
presses_count step (pad ∷ word) =
    length-append (map (press_at step) (buttons_of pad)) (presses_from (step + 1) word)
    ∙ ap₂ (λ n m. n + m) (length-map (buttons_of pad) (press_at step)) (presses_count (step + 1) word)

-- one more pad of a word is counted
pub counts_on : (word : Word) (i byte item count whole : ℕ) → byte < 256 → i < length word → byte ≡ item →
    item ≡ get_or word i item →
    (count ≤ 8 * i) × (count + buttons_in (drop i word) ≡ whole) →
    (count + count_ones byte ≤ 8 * (i + 1)) × (count + count_ones byte + buttons_in (drop (i + 1) word) ≡ whole)
counts_on word i byte item count whole below within same is so_far =
    let next : buttons_in (drop i word) ≡ length (buttons_of byte) + buttons_in (drop (i + 1) word) =
    ap buttons_in (drop_next word i item within is)
    ∙ ap (λ x. length (buttons_of x) + buttons_in (drop (i + 1) word)) (sym same) in (
      omega (arith, so_far.0, few_buttons byte below, counted byte below),
      omega (arith, so_far.1, next, counted byte below),
    )

-- the pads behind the first are bytes
tail_bytes : (pad : ℕ) (word : Word) → AreBytes (pad ∷ word) → AreBytes word
tail_bytes pad word bytes k d h = bytes (suc k) d (omega (arith, h))

head_byte : (pad : ℕ) (word : Word) → AreBytes (pad ∷ word) → pad < 256
head_byte pad word bytes = bytes 0 0 (omega arith)

-- without a press that it has a word has fewer
released_fewer : (word : Word) (step : ℕ) (b : Button) → AreBytes word → is_pressed word (press_at step b) ≡ true
    → buttons_in (released word (press_at step b)) < buttons_in word
released_fewer [] step b bytes held = let e : holds 0 b ≡ true = held in absurd (let f = unheld b in cc)
released_fewer (pad ∷ word) zero b bytes held = omega (arith, fewer pad b (head_byte pad word bytes) held)
released_fewer (pad ∷ word) (suc step) b bytes held =
    omega (arith, released_fewer word step b (tail_bytes pad word bytes) held)

-- without a press that it has not a word is the same
released_same : (word : Word) (p : Press) → is_pressed word p ≡ false → released word p ≡ word
released_same word p e =
    ap (set word p.step) (without_unheld (get_or word p.step 0) p.button e) ∙ set-get_or word p.step 0

pub released_or : (word : Word) (p : Press) → AreBytes word
    → (released word p ≡ word) ⊎ (buttons_in (released word p) < buttons_in word)
released_or word p bytes = by_test (is_pressed word p) refl
  where
    by_test : (t : Bool) → is_pressed word p ≡ t
        → (released word p ≡ word) ⊎ (buttons_in (released word p) < buttons_in word)
    by_test true e = inr (released_fewer word p.step p.button bytes e)
    by_test false e = inl (released_same word p e)

-- a press that a word has is one that its release takes away
pub pressed_fewer : (word : Word) (p : Press) → AreBytes word → is_pressed word p ≡ true
    → buttons_in (released word p) < buttons_in word
pressed_fewer word p bytes e = released_fewer word p.step p.button bytes e

-- ---- what is kept

pub released_long : (word : Word) (p : Press) → length (released word p) ≡ length word
released_long word p = length-set word p.step (without p.button (get_or word p.step 0))

pub released_bytes : (word : Word) (p : Press) → AreBytes word → AreBytes (released word p)
released_bytes [] p bytes = bytes
released_bytes (x ∷ xs) p bytes =
    All-set (λ pad. pad < 256) (x ∷ xs) p.step _ (omega (arith, byte_at (x ∷ xs) p.step bytes)) bytes
  where
    byte_by : (t : Bool) (word : Word) (k : ℕ) → nat_lt k (length word) ≡ t → AreBytes word → get_or word k 0 < 256
    byte_by true word k e bytes = All-get_or (λ pad. pad < 256) word k 0 (grind (arith, nat_tests)) bytes
    byte_by false word k e bytes = let past : get_or word k 0 ≡ 0 =
        get_or_past word k 0 (grind (arith, nat_tests)) in omega (arith, past)

    byte_at : (word : Word) (k : ℕ) → AreBytes word → get_or word k 0 < 256
    byte_at word k bytes = byte_by (nat_lt k (length word)) word k refl bytes

-- the presses that are left are presses of the word
among_at : (word : Word) (k i : ℕ) (b c : Button) → AreBytes word →
    holds (get_or (set word k (without b (get_or word k 0))) i 0) c ≡ true → holds (get_or word i 0) c ≡ true
among_at [] k i b c bytes e = e
among_at (pad ∷ word) zero zero b c bytes e = among pad b c (head_byte pad word bytes) e
among_at (pad ∷ word) zero (suc i) b c bytes e = e
among_at (pad ∷ word) (suc k) zero b c bytes e = e
among_at (pad ∷ word) (suc k) (suc i) b c bytes e = among_at word k i b c (tail_bytes pad word bytes) e

pub released_among : (word : Word) (p q : Press) → AreBytes word → is_pressed (released word p) q ≡ true
    → is_pressed word q ≡ true
released_among word p q bytes e = among_at word p.step q.step p.button q.button bytes e

-- ---- a press of a word is among its presses

member_left : {X : Type 0} (x : X) (xs ys : List X) → Member x xs → Member x (xs ++ ys)
member_left x [] ys m = absurd m
member_left x (y ∷ xs) ys (inl e) = inl e
member_left x (y ∷ xs) ys (inr m) = inr (member_left x xs ys m)

member_right : {X : Type 0} (x : X) (xs ys : List X) → Member x ys → Member x (xs ++ ys)
member_right x [] ys m = m
member_right x (y ∷ xs) ys m = inr (member_right x xs ys m)

member_map : {X Y : Type 0} (f : X → Y) (x : X) (xs : List X) → Member x xs → Member (f x) (map f xs)
member_map f x [] m = absurd m
member_map f x (y ∷ xs) (inl e) = inl (ap f e)
member_map f x (y ∷ xs) (inr m) = inr (member_map f x xs m)

member_filter : {X : Type 0} (p : X → Bool) (x : X) (xs : List X) → p x ≡ true → Member x xs → Member x (filter p xs)
member_filter p x [] e m = absurd m
member_filter p x (y ∷ xs) e (inl same) = rw (ap p same ∙ e) (inl same)
member_filter p x (y ∷ xs) e (inr m) = by_test (p y) (member_filter p x xs e m)
  where
    by_test : (t : Bool) → Member x (filter p xs) → Member x (if t then y ∷ filter p xs else filter p xs)
    by_test true m = inr m
    by_test false m = m

pressed_from : (first step : ℕ) (word : Word) (b : Button) → is_pressed word (press_at step b) ≡ true
    → Member (press_at (first + step) b) (presses_from first word)
pressed_from first step [] b e = absurd (let f = unheld b in cc)
pressed_from first zero (pad ∷ word) b e =
    let here : Member (press_at first b) (map (press_at first) (buttons_of pad)) =
    member_map (press_at first) b (buttons_of pad) (member_filter (holds pad) b buttons_in_turn e (a_button b)) in
    let P : ℕ → Type 0 = λ n. Member (press_at n b) (presses_from first (pad ∷ word)) in
    subst P (let same : first ≡ first + 0 = omega arith in same)
    (member_left (press_at first b) (map (press_at first) (buttons_of pad)) (presses_from (first + 1) word) here)
pressed_from first (suc step) (pad ∷ word) b e =
    let there : Member (press_at (first + 1 + step) b) (presses_from (first + 1) word) =
    pressed_from (first + 1) step word b e in
    let P : ℕ → Type 0 = λ n. Member (press_at n b) (presses_from first (pad ∷ word)) in
    subst P (let same : first + 1 + step ≡ first + suc step = omega arith in same)
    (member_right (press_at (first + 1 + step) b) (map (press_at first) (buttons_of pad))
    (presses_from (first + 1) word) there)

pub pressed_is_member : (word : Word) (p : Press) → is_pressed word p ≡ true → Member p (presses word)
pressed_is_member word p e =
    let P : ℕ → Type 0 = λ n. Member (press_at n p.button) (presses word) in
    subst P (let same : 0 + p.step ≡ p.step = omega arith in same) (pressed_from 0 p.step word p.button e)
