-- Sweeps: what they keep, and that they end.
use Rattle.std.proofs.Common.{◌≡◌, ◌≢◌, ℕ, zero, suc, ◌+◌, ◌-◌, ◌<◌, ◌≤◌, ◌⊎◌, inl, inr, Bool, true, false, List, [], ◌∷◌, length, fold, nat_le, refl, ap, sym, ◌∙◌, subst, arith, if◌then◌else◌}
use Rattle.std.proofs.lemmas.Bool.Decides.{nat_tests}
use Rattle.nj_search_defs.specs.Game.{Word}
use Rattle.nj_game.specs.Plan.{Plan}
use Rattle.nj_clean.specs.Presses.{Press, is_pressed, presses, released}
use Rattle.nj_clean.specs.Sweeps.{wins, tried, swept, sweeps, cleaned}
use Rattle.nj_clean.proofs.Words.{AreBytes, buttons_in, presses_count, released_or, pressed_fewer, released_long, released_bytes, released_among, pressed_is_member}
use Rattle.nj_clean.proofs.Pads.{Member}

-- ---- what a try keeps, sweeps keep

tried_keeps : (plan : Plan) (P : Word → Type 0) (word : Word) (p : Press) → P word
    → (wins plan (released word p) ≡ true → P (released word p)) → P (tried plan word p)
tried_keeps plan P word p h kept = by_test (wins plan (released word p)) kept
  where
    by_test : (t : Bool) → (t ≡ true → P (released word p)) → P (if t then released word p else word)
    by_test true kept = kept refl
    by_test false kept = h

Keeps : Plan → (Word → Type 0) → Type 0
Keeps plan P = (word : Word) (p : Press) → P word → P (tried plan word p)

folded : (plan : Plan) (P : Word → Type 0) → Keeps plan P → (ps : List Press) (word : Word) → P word
    → P (fold (tried plan) word ps)
unfolding Keeps
folded plan P keeps [] word h = h
folded plan P keeps (p ∷ ps) word h = folded plan P keeps ps (tried plan word p) (keeps word p h)

swept_keeps : (plan : Plan) (P : Word → Type 0) → Keeps plan P → (word : Word) → P word → P (swept plan word)
unfolding swept
swept_keeps plan P keeps word h = folded plan P keeps (presses word) word h

sweeps_keep : (plan : Plan) (P : Word → Type 0) → Keeps plan P → (n : ℕ) (word : Word) → P word → P (sweeps n plan word)
sweeps_keep plan P keeps zero word h = h
sweeps_keep plan P keeps (suc n) word h = sweeps_keep plan P keeps n (swept plan word) (swept_keeps plan P keeps word h)

-- the length
keeps_long : (plan : Plan) (n : ℕ) → Keeps plan (λ w. length w ≡ n)
unfolding Keeps
keeps_long plan n word p h = tried_keeps plan (λ w. length w ≡ n) word p h (λ _. released_long word p ∙ h)

-- bytes
keeps_bytes : (plan : Plan) → Keeps plan AreBytes
unfolding Keeps
keeps_bytes plan word p h = tried_keeps plan AreBytes word p h (λ _. released_bytes word p h)

-- a win
keeps_wins : (plan : Plan) → Keeps plan (λ w. wins plan w ≡ true)
unfolding Keeps
keeps_wins plan word p h = tried_keeps plan (λ w. wins plan w ≡ true) word p h (λ won. won)

-- bytes, and presses of the given word
abbrev IsPartOf : Word → Word → Type 0
IsPartOf given word = AreBytes word × ((q : Press) → is_pressed word q ≡ true → is_pressed given q ≡ true)

keeps_part : (plan : Plan) (given : Word) → Keeps plan (IsPartOf given)
unfolding Keeps
keeps_part plan given word p h =
    tried_keeps plan (IsPartOf given) word p h
    (λ _. (released_bytes word p h.0, λ q e. h.1 q (released_among word p q h.0 e)))

pub tries_long : (plan : Plan) (ps : List Press) (word : Word) → length (fold (tried plan) word ps) ≡ length word
tries_long plan ps word = folded plan (λ w. length w ≡ length word) (keeps_long plan (length word)) ps word refl

pub swept_long : (plan : Plan) (word : Word) → length (swept plan word) ≡ length word
swept_long plan word = swept_keeps plan (λ w. length w ≡ length word) (keeps_long plan (length word)) word refl

pub swept_bytes : (plan : Plan) (word : Word) → AreBytes word → AreBytes (swept plan word)
swept_bytes plan word h = swept_keeps plan AreBytes (keeps_bytes plan) word h

pub cleaned_long : (plan : Plan) (word : Word) → length (cleaned plan word) ≡ length word
unfolding cleaned
cleaned_long plan word =
    sweeps_keep plan (λ w. length w ≡ length word) (keeps_long plan (length word)) (length (presses word)) word refl

pub cleaned_bytes : (plan : Plan) (word : Word) → AreBytes word → AreBytes (cleaned plan word)
unfolding cleaned
cleaned_bytes plan word h = sweeps_keep plan AreBytes (keeps_bytes plan) (length (presses word)) word h

pub cleaned_wins : (plan : Plan) (word : Word) → wins plan word ≡ true → wins plan (cleaned plan word) ≡ true
unfolding cleaned
cleaned_wins plan word h = sweeps_keep plan (λ w. wins plan w ≡ true) (keeps_wins plan) (length (presses word)) word h

pub cleaned_among : (plan : Plan) (word : Word) (p : Press) → AreBytes word → is_pressed (cleaned plan word) p ≡ true
    → is_pressed word p ≡ true
unfolding cleaned
cleaned_among plan word p bytes e =
    (sweeps_keep plan (IsPartOf word) (keeps_part plan word) (length (presses word)) word (bytes, λ q h. h)).1 p e

-- ---- a sweep releases nothing or leaves fewer presses

Fewer : Word → Word → Type 0
Fewer word new = (new ≡ word) ⊎ (buttons_in new < buttons_in word)

fewer_on : (word mid new : Word) → Fewer word mid → Fewer mid new → Fewer word new
unfolding Fewer
fewer_on word mid new (inl e) (inl f) = inl (f ∙ e)
fewer_on word mid new (inl e) (inr h) = inr (omega (arith, h, ap buttons_in e))
fewer_on word mid new (inr h) (inl f) = inr (omega (arith, h, ap buttons_in f))
fewer_on word mid new (inr h) (inr k) = inr (omega (arith, h, k))

tried_fewer : (plan : Plan) (word : Word) (p : Press) → AreBytes word → Fewer word (tried plan word p)
unfolding Fewer
tried_fewer plan word p bytes = tried_keeps plan (Fewer word) word p (inl refl) (λ _. released_or word p bytes)

folded_fewer : (plan : Plan) (ps : List Press) (word : Word) → AreBytes word → Fewer word (fold (tried plan) word ps)
unfolding Fewer Keeps
folded_fewer plan [] word bytes = inl refl
folded_fewer plan (p ∷ ps) word bytes =
    fewer_on word (tried plan word p) (fold (tried plan) (tried plan word p) ps) (tried_fewer plan word p bytes)
    (folded_fewer plan ps (tried plan word p) (keeps_bytes plan word p bytes))

swept_fewer : (plan : Plan) (word : Word) → AreBytes word → Fewer word (swept plan word)
unfolding swept
swept_fewer plan word bytes = folded_fewer plan (presses word) word bytes

pub swept_or : (plan : Plan) (word : Word) → AreBytes word
    → (swept plan word ≡ word) ⊎ (length (presses (swept plan word)) < length (presses word))
unfolding Fewer
swept_or plan word bytes = counted (swept_fewer plan word bytes)
  where
    counted : (swept plan word ≡ word) ⊎ (buttons_in (swept plan word) < buttons_in word)
        → (swept plan word ≡ word) ⊎ (length (presses (swept plan word)) < length (presses word))
    counted (inl e) = inl e
    counted (inr h) = inr (omega (arith, h, presses_count 0 (swept plan word), presses_count 0 word))

-- ---- where a sweep releases nothing, each press is needed

-- the first press of such a sweep is not released
first_stays : (plan : Plan) (p : Press) (ps : List Press) (word : Word) → AreBytes word
    → fold (tried plan) word (p ∷ ps) ≡ word → tried plan word p ≡ word
unfolding Fewer Keeps
first_stays plan p ps word bytes same =
    by_cases (tried_fewer plan word p bytes) (folded_fewer plan ps (tried plan word p) (keeps_bytes plan word p bytes))
  where
    by_cases : (tried plan word p ≡ word) ⊎ (buttons_in (tried plan word p) < buttons_in word)
        → (fold (tried plan) word (p ∷ ps) ≡ tried plan word p)
        ⊎ (buttons_in (fold (tried plan) word (p ∷ ps)) < buttons_in (tried plan word p))
        → tried plan word p ≡ word
    by_cases (inl e) _ = e
    by_cases (inr h) (inl f) = sym f ∙ same
    by_cases (inr h) (inr k) = absurd (omega (arith, h, k, ap buttons_in same))

each_stays : (plan : Plan) (ps : List Press) (word : Word) (p : Press) → AreBytes word
    → fold (tried plan) word ps ≡ word → Member p ps → tried plan word p ≡ word
each_stays plan [] word p bytes same m = absurd m
each_stays plan (q ∷ ps) word p bytes same (inl e) =
    ap (tried plan word) (sym e) ∙ first_stays plan q ps word bytes same
each_stays plan (q ∷ ps) word p bytes same (inr m) =
    each_stays plan ps word p bytes
    (ap (λ w. fold (tried plan) w ps) (sym (first_stays plan q ps word bytes same)) ∙ same) m

-- a press that stays is needed
stays_needed : (plan : Plan) (word : Word) (p : Press) → AreBytes word → is_pressed word p ≡ true
    → tried plan word p ≡ word → wins plan (released word p) ≡ false
stays_needed plan word p bytes held stays = by_test (wins plan (released word p)) stays
  where
    by_test : (t : Bool) → (if t then released word p else word) ≡ word → t ≡ false
    by_test true e = absurd (omega (arith, pressed_fewer word p bytes held, ap buttons_in e))
    by_test false e = refl

pub needed : (plan : Plan) (word : Word) (p : Press) → AreBytes word → swept plan word ≡ word → is_pressed word p ≡ true
    → wins plan (released word p) ≡ false
unfolding swept
needed plan word p bytes same held = stays_needed plan word p bytes held
    (each_stays plan (presses word) word p bytes same (pressed_is_member word p held))

-- ---- sweeps end

sweeps_same : (plan : Plan) (n : ℕ) (word : Word) → swept plan word ≡ word → sweeps n plan word ≡ word
sweeps_same plan zero word e = refl
sweeps_same plan (suc n) word e = ap (sweeps n plan) e ∙ sweeps_same plan n word e

sweeps-add : (plan : Plan) (n k : ℕ) (word : Word) → sweeps (n + k) plan word ≡ sweeps k plan (sweeps n plan word)
sweeps-add plan zero k word = ap (λ m. sweeps m plan word) (let e : 0 + k ≡ k = omega arith in e)
sweeps-add plan (suc n) k word =
    ap (λ m. sweeps m plan word) (let e : suc n + k ≡ suc (n + k) = omega arith in e)
    ∙ sweeps-add plan n k (swept plan word)

-- a word of which a sweep releases nothing stays so
stays_swept : (plan : Plan) (n : ℕ) (word : Word) → swept plan word ≡ word
    → swept plan (sweeps n plan word) ≡ sweeps n plan word
stays_swept plan n word e = ap (swept plan) (sweeps_same plan n word e) ∙ e ∙ sym (sweeps_same plan n word e)

-- so many sweeps as there are presses are enough
enough : (plan : Plan) (n : ℕ) (word : Word) → AreBytes word → length (presses word) ≤ n
    → swept plan (sweeps n plan word) ≡ sweeps n plan word
enough plan zero word bytes few = by_cases (swept_or plan word bytes)
  where
    by_cases : (swept plan word ≡ word) ⊎ (length (presses (swept plan word)) < length (presses word))
        → swept plan word ≡ word
    by_cases (inl e) = e
    by_cases (inr h) = absurd (omega (arith, few, h))
enough plan (suc n) word bytes few =
    by_cases (swept_or plan word bytes) (λ h. enough plan n (swept plan word) (swept_bytes plan word bytes) h)
  where
    by_cases : (swept plan word ≡ word) ⊎ (length (presses (swept plan word)) < length (presses word))
        → (length (presses (swept plan word)) ≤ n
        → swept plan (sweeps n plan (swept plan word)) ≡ sweeps n plan (swept plan word))
        → swept plan (sweeps (suc n) plan word) ≡ sweeps (suc n) plan word
    by_cases (inl e) rest = stays_swept plan (suc n) word e
    by_cases (inr h) rest = rest (omega (arith, few, h))

pub cleaned_ends : (plan : Plan) (word : Word) → AreBytes word → swept plan (cleaned plan word) ≡ cleaned plan word
unfolding cleaned
cleaned_ends plan word bytes = enough plan (length (presses word)) word bytes (omega arith)

-- two numbers of sweeps behind which nothing is released leave the same word
same_end : (plan : Plan) (n m : ℕ) (word : Word) → n ≤ m → swept plan (sweeps n plan word) ≡ sweeps n plan word
    → sweeps m plan word ≡ sweeps n plan word
same_end plan n m word h e =
    ap (λ k. sweeps k plan word) (let whole : m ≡ n + (m - n) = omega (arith, h) in whole)
    ∙ sweeps-add plan n (m - n) word
    ∙ sweeps_same plan (m - n) (sweeps n plan word) e

pub only_end : (plan : Plan) (word : Word) (n : ℕ) → AreBytes word
    → swept plan (sweeps n plan word) ≡ sweeps n plan word → cleaned plan word ≡ sweeps n plan word
unfolding cleaned
only_end plan word n bytes e = by_test (nat_le n (length (presses word))) refl
  where
    by_test : (t : Bool) → nat_le n (length (presses word)) ≡ t
        → sweeps (length (presses word)) plan word ≡ sweeps n plan word
    by_test true h = same_end plan n (length (presses word)) word (grind (arith, nat_tests)) e
    by_test false h =
        sym (same_end plan (length (presses word)) n word (grind (arith, nat_tests))
        (enough plan (length (presses word)) word bytes (omega arith)))

-- a word and the word that a sweep leaves of it are cleaned to the same
pub cleaned_swept : (plan : Plan) (word : Word) → AreBytes word → cleaned plan (swept plan word) ≡ cleaned plan word
unfolding cleaned
cleaned_swept plan word bytes =
    sym (only_end plan word (suc (length (presses (swept plan word)))) bytes
    (enough plan (length (presses (swept plan word))) (swept plan word) (swept_bytes plan word bytes) (omega arith)))

-- a word of which a sweep releases nothing is cleaned
pub cleaned_is_same : (plan : Plan) (word : Word) → AreBytes word → swept plan word ≡ word → cleaned plan word ≡ word
cleaned_is_same plan word bytes e = only_end plan word 0 bytes e

-- ---- a loop over sweeps

-- a sweep that leaves as many presses is the last
pub last_sweep : (plan : Plan) (given word new : Word) (left before : ℕ) → AreBytes word → new ≡ swept plan word →
    left ≡ length (presses new) →
    before ≡ length (presses word) → left ≡ before → cleaned plan word ≡ cleaned plan given → new ≡ cleaned plan given
last_sweep plan given word new left before bytes is counted had same whole = by_cases (swept_or plan word bytes)
  where
    by_cases : (swept plan word ≡ word) ⊎ (length (presses (swept plan word)) < length (presses word))
        → new ≡ cleaned plan given
    by_cases (inl e) = is ∙ e ∙ sym (cleaned_is_same plan word bytes e) ∙ whole
    by_cases (inr h) = absurd (omega (arith, h, counted, had, same, ap (λ w. length (presses w)) is))

-- each other sweep leaves fewer
pub fewer_left : (plan : Plan) (word new : Word) (left before : ℕ) → AreBytes word → new ≡ swept plan word →
    left ≡ length (presses new) →
    before ≡ length (presses word) → left ≢ before → left < before
fewer_left plan word new left before bytes is counted had other = by_cases (swept_or plan word bytes)
  where
    by_cases : (swept plan word ≡ word) ⊎ (length (presses (swept plan word)) < length (presses word)) → left < before
    by_cases (inl e) = absurd (other (counted ∙ ap (λ w. length (presses w)) (is ∙ e) ∙ sym had))
    by_cases (inr h) = omega (arith, h, counted, had, ap (λ w. length (presses w)) is)

-- without presses a word is cleaned
pub none_cleaned : (plan : Plan) (word : Word) → length (presses word) ≡ 0 → word ≡ cleaned plan word
unfolding cleaned
none_cleaned plan word e = ap (λ n. sweeps n plan word) (sym e)

-- as many presses as another word, or fewer
abbrev IsWithin : Word → Word → Type 0
IsWithin given word = AreBytes word × (length (presses word) ≤ length (presses given))

released_within : (given word : Word) (p : Press) → IsWithin given word
    → (released word p ≡ word) ⊎ (buttons_in (released word p) < buttons_in word)
    → length (presses (released word p)) ≤ length (presses given)
released_within given word p h (inl e) = omega (arith, h.1, ap (λ v. length (presses v)) e)
released_within given word p h (inr less) =
    omega (arith, h.1, less, presses_count 0 word, presses_count 0 (released word p))

keeps_within : (plan : Plan) (given : Word) → Keeps plan (IsWithin given)
unfolding Keeps
keeps_within plan given word p h =
    tried_keeps plan (IsWithin given) word p h
    (λ _. (released_bytes word p h.0, released_within given word p h (released_or word p h.0)))

-- a cleaned word has no more presses
pub cleaned_fewer : (plan : Plan) (word : Word) → AreBytes word
    → length (presses (cleaned plan word)) ≤ length (presses word)
unfolding cleaned
cleaned_fewer plan word bytes =
    (sweeps_keep plan (IsWithin word) (keeps_within plan word) (length (presses word)) word (bytes, omega arith)).1
