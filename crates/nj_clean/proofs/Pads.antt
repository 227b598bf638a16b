-- A pad and its buttons.
use Rattle.std.proofs.Common.{◌≡◌, ℕ, ◌+◌, ◌-◌, ◌*◌, ◌^◌, ◌<◌, ◌≤◌, ◌==◌, ◌⊎◌, inl, inr, Bool, true, false, not, ◌||◌, ◌&&◌, nat_lt, count_ones, List, [], ◌∷◌, length, refl, ap, sym, ◌∙◌, arith}
use Rattle.std.specs.List.{list_all}
use Rattle.std.specs.Int.Count.{ones}
use Rattle.std.proofs.lemmas.Nat.Bits.{bit_at-lt}
use Rattle.std.proofs.lemmas.Bool.{agree_below, agree_below_at}
use Rattle.std.proofs.lemmas.Bool.Decides.{nat_tests}
use Rattle.nj_pad.specs.declared.Button.{Button}
use Rattle.nj_pad.specs.declared.Button.TheVariants.{A, B, Select, Start, Up, Down, Left, Right}
use Rattle.nj_pad.specs.Pad.{pressed_bit, turn_of, buttons_in_turn}
use Rattle.nj_clean.specs.Presses.{holds, buttons_of, without}

-- an element of a list
abbrev pub Member : {X : Type 0} → X → List X → Type 0
Member x [] = ⊥
Member x (y ∷ ys) = (y ≡ x) ⊎ Member x ys

pub a_button : (b : Button) → Member b buttons_in_turn
a_button A = inl refl
a_button B = inr (inl refl)
a_button Select = inr (inr (inl refl))
a_button Start = inr (inr (inr (inl refl)))
a_button Up = inr (inr (inr (inr (inl refl))))
a_button Down = inr (inr (inr (inr (inr (inl refl)))))
a_button Left = inr (inr (inr (inr (inr (inr (inl refl))))))
a_button Right = inr (inr (inr (inr (inr (inr (inr (inl refl)))))))

split_and : (a b : Bool) → (a && b) ≡ true → (a ≡ true) × (b ≡ true)
split_and true b e = (refl, e)
split_and false b e = cc

all_member : {X : Type 0} (p : X → Bool) (x : X) (xs : List X) → list_all p xs ≡ true → Member x xs → p x ≡ true
all_member p x [] e m = absurd m
all_member p x (y ∷ ys) e (inl same) = ap p (sym same) ∙ (split_and (p y) (list_all p ys) e).0
all_member p x (y ∷ ys) e (inr m) = all_member p x ys (split_and (p y) (list_all p ys) e).1 m

-- what holds of each button in turn holds of every button
each_button : (p : Button → Bool) → list_all p buttons_in_turn ≡ true → (b : Button) → p b ≡ true
each_button p e b = all_member p b buttons_in_turn e (a_button b)

-- a test and an implication
implied : (a b : Bool) → (not a || b) ≡ true → a ≡ true → b ≡ true
implied true b e h = e
implied false b e h = cc

-- ---- what each of the 256 pads says

-- without a button that it holds a pad has fewer
abbrev is_fewer : ℕ → Button → Bool
is_fewer pad b = not (holds pad b) || nat_lt (length (buttons_of (without b pad))) (length (buttons_of pad))

fewer_below : agree_below (λ pad. list_all (is_fewer pad) buttons_in_turn) (λ _. true) 256 ≡ true
fewer_below = refl

pub fewer : (pad : ℕ) (b : Button) → pad < 256 → holds pad b ≡ true
    → length (buttons_of (without b pad)) < length (buttons_of pad)
fewer pad b below held =
    let test : nat_lt (length (buttons_of (without b pad))) (length (buttons_of pad)) ≡ true =
    implied (holds pad b) _ (each_button (is_fewer pad)
    (agree_below_at (λ pad. list_all (is_fewer pad) buttons_in_turn) (λ _. true) 256 pad fewer_below below) b) held in
    grind (arith, nat_tests)

-- a button that it holds without another it held before
abbrev is_among : ℕ → Button → Button → Bool
is_among pad b c = not (holds (without b pad) c) || holds pad c

among_below : agree_below (λ pad. list_all (λ b. list_all (is_among pad b) buttons_in_turn) buttons_in_turn)
    (λ _. true) 256 ≡ true
among_below = refl

pub among : (pad : ℕ) (b c : Button) → pad < 256 → holds (without b pad) c ≡ true → holds pad c ≡ true
among pad b c below held =
    implied (holds (without b pad) c) (holds pad c)
    (each_button (is_among pad b)
    (each_button (λ b. list_all (is_among pad b) buttons_in_turn)
    (agree_below_at (λ pad. list_all (λ b. list_all (is_among pad b) buttons_in_turn) buttons_in_turn)
    (λ _. true) 256 pad among_below below) b) c) held

-- the buttons are as many as the bits that are set
counted_below : agree_below (λ pad. length (buttons_of pad) == count_ones pad) (λ _. true) 256 ≡ true
unfolding ones
counted_below = refl

pub counted : (pad : ℕ) → pad < 256 → length (buttons_of pad) ≡ count_ones pad
counted pad below =
    let test : (length (buttons_of pad) == count_ones pad) ≡ true =
    agree_below_at (λ pad. length (buttons_of pad) == count_ones pad) (λ _. true) 256 pad counted_below below in
    grind (arith, nat_tests)

-- a pad that is not 0 has a button
some_below : agree_below (λ pad. pad == 0 || nat_lt 0 (length (buttons_of pad))) (λ _. true) 256 ≡ true
some_below = refl

pub some_button : (pad : ℕ) → pad < 256 → 0 < pad → 0 < length (buttons_of pad)
some_button pad below some =
    let test : (pad == 0 || nat_lt 0 (length (buttons_of pad))) ≡ true =
    agree_below_at (λ pad. pad == 0 || nat_lt 0 (length (buttons_of pad))) (λ _. true) 256 pad some_below below in
    grind (arith, nat_tests)

-- a pad has at most eight
few_below : agree_below (λ pad. nat_lt (length (buttons_of pad)) 9) (λ _. true) 256 ≡ true
few_below = refl

pub few_buttons : (pad : ℕ) → pad < 256 → length (buttons_of pad) ≤ 8
few_buttons pad below =
    let test : nat_lt (length (buttons_of pad)) 9 ≡ true =
    agree_below_at (λ pad. nat_lt (length (buttons_of pad)) 9) (λ _. true) 256 pad few_below below in
    grind (arith, nat_tests)

-- ---- what holds of every number

-- no button is held in 0
none_held : list_all (λ b. not (holds 0 b)) buttons_in_turn ≡ true
none_held = refl

pub unheld : (b : Button) → holds 0 b ≡ false
unheld b = by_not (holds 0 b) (each_button (λ b. not (holds 0 b)) none_held b)
  where
    by_not : (t : Bool) → not t ≡ true → t ≡ false
    by_not true e = cc
    by_not false e = refl

-- a pad without a button that it does not hold
pub without_unheld : (pad : ℕ) (b : Button) → holds pad b ≡ false → without b pad ≡ pad
without_unheld pad b e =
    let low : pressed_bit pad b < 2 = bit_at-lt pad (turn_of b) in
    let bit : pressed_bit pad b ≡ 0 = grind (arith, nat_tests) in
    let none : pressed_bit pad b * 2 ^ turn_of b ≡ 0 =
    ap (λ n. n * 2 ^ turn_of b) bit ∙ (let zero_times : 0 * 2 ^ turn_of b ≡ 0 = omega arith in zero_times) in
    omega (arith, none)
