-- The presses of a word, and the word without one of them. Our own; a button's bit in a pad is that of NESdev Wiki,
-- "Standard controller".
use Rattle.std.specs.Prelude.{ℕ, ◌+◌, ◌-◌, ◌*◌, ◌^◌, ◌==◌, Bool, List, [], ◌∷◌, ◌++◌, map, filter, set, get_or}
use Rattle.nj_pad.specs.declared.Button.{Button}
use Rattle.nj_pad.specs.Pad.{turn_of, pressed_bit, buttons_in_turn}
use Rattle.nj_search_defs.specs.Game.{Word}

-- a press: a button that is held in a step; step 0 is the first behind the start
pub record Press : Type 0 where
  pub step : ℕ
  pub button : Button

-- the pad holds the button
abbrev pub holds : ℕ → Button → Bool
holds pad button = pressed_bit pad button == 1

-- the word has the press
abbrev pub is_pressed : Word → Press → Bool
is_pressed word press = holds (get_or word press.step 0) press.button

-- the buttons that a pad holds, from bit 0 to bit 7
abbrev pub buttons_of : ℕ → List Button
buttons_of pad = filter (holds pad) buttons_in_turn

-- a press of this step
abbrev pub press_at : ℕ → Button → Press
press_at step button = record { step = step; button = button }

-- the presses of a word whose first step is this one, by step and within a step from bit 0 to bit 7
abbrev pub presses_from : ℕ → Word → List Press
presses_from step [] = []
presses_from step (pad ∷ word) = map (press_at step) (buttons_of pad) ++ presses_from (step + 1) word

-- the presses of a word
abbrev pub presses : Word → List Press
presses word = presses_from 0 word

-- a pad without a button
abbrev pub without : Button → ℕ → ℕ
without button pad = pad - pressed_bit pad button * 2 ^ turn_of button

-- the word without a press: its button is held in no frame of its step
abbrev pub released : Word → Press → Word
released word press = set word press.step (without press.button (get_or word press.step 0))
