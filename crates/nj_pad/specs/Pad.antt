-- The standard controller's buttons and their eight characters in a movie line.
-- A pad is seen as its byte: a natural number below 256.
use Rattle.std.specs.Prelude.{ℕ, ◌+◌, ◌^◌, List, [], ◌∷◌, map, ◌==◌, if◌then◌else◌, Option, Some, None}
use Rattle.std.specs.Int.{bit_at}
use Rattle.nj_pad.specs.declared.Button.{Button}
use Rattle.nj_pad.specs.declared.Button.TheVariants.{A, B, Select, Start, Up, Down, Left, Right}

-- the button's turn among the reads of a port, which is its bit in a pad (NESdev Wiki, "Standard controller")
abbrev pub turn_of : Button → ℕ
turn_of A = 0
turn_of B = 1
turn_of Select = 2
turn_of Start = 3
turn_of Up = 4
turn_of Down = 5
turn_of Left = 6
turn_of Right = 7

-- 1 where the pad has the button pressed, else 0
abbrev pub pressed_bit : ℕ → Button → ℕ
pressed_bit pad button = bit_at pad (turn_of button)

-- every button, in the order in which a port gives them (NESdev Wiki, "Standard controller")
abbrev pub buttons_in_turn : List Button
buttons_in_turn = A ∷ B ∷ Select ∷ Start ∷ Up ∷ Down ∷ Left ∷ Right ∷ []

-- the eight places of a pad's text, each a button and its letter: U, D, L, R, S for Start, s for Select, B, A (our own,
-- after the movie lines that emulators print)
abbrev pub text_places : List (Button × ℕ)
text_places =
    (Up, 85) ∷ (Down, 68) ∷ (Left, 76) ∷ (Right, 82) ∷ (Start, 83) ∷ (Select, 115) ∷ (B, 66) ∷ (A, 65) ∷ []

-- what a pad shows at a place: the letter where the button is pressed, else a dot
abbrev pub place_shown : ℕ → Button × ℕ → ℕ
place_shown pad place = if pressed_bit pad place.0 == 1 then place.1 else 46

-- the text of a pad (our own)
unfoldable pub pad_text : ℕ → List ℕ
pad_text pad = map (place_shown pad) text_places

-- the sum of two values, if both are there
abbrev pub sum_if_both : Option ℕ → Option ℕ → Option ℕ
sum_if_both (Some x) (Some y) = Some (x + y)
sum_if_both _ _ = None

-- the value of a place whose text has this byte: the button's bit at its letter, nothing at a dot, and else none
abbrev pub place_value : Button × ℕ → ℕ → Option ℕ
place_value place byte =
    if byte == place.1 then Some (2 ^ turn_of place.0) else if byte == 46 then Some 0 else None

-- the sum of the places' values, where the text has one byte for each place
abbrev pub places_value : List (Button × ℕ) → List ℕ → Option ℕ
places_value [] [] = Some 0
places_value (place ∷ places) (byte ∷ bytes) = sum_if_both (place_value place byte) (places_value places bytes)
places_value _ _ = None

-- the pad that a text of eight characters shows, if it shows one (our own)
unfoldable pub pad_of_text : List ℕ → Option ℕ
pad_of_text text = places_value text_places text
