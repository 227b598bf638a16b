-- The generator of bytes from a number: the linear congruential generator with the constants of Knuth's MMIX
-- (D. E. Knuth, The Art of Computer Programming, volume 2, 3.3.4, table 1).
use Rattle.std.specs.Prelude.{ℕ, zero, suc, ◌+◌, ◌*◌, ◌/◌, ◌%◌, ◌^◌, List, map}
use Rattle.std.specs.List.{range_with_len}

-- the state after the next: multiplied and added to, modulo 2^64 (Knuth's MMIX)
unfoldable pub next_state : ℕ → ℕ
next_state state = (state * 6364136223846793005 + 1442695040888963407) % 2 ^ 64

-- the state after so many draws; a number is its own state before the first (the latter is ours)
unfoldable pub state_after : ℕ → ℕ → ℕ
state_after number zero = number
state_after number (suc n) = next_state (state_after number n)

-- the byte that a state gives: its top eight bits (the choice of these bits is ours)
abbrev pub byte_of : ℕ → ℕ
byte_of state = state / 2 ^ 56

-- the byte of a number at a place, counted from 0: that of the state after one draw more (ours)
unfoldable pub byte_at : ℕ → ℕ → ℕ
byte_at number place = byte_of (state_after number (place + 1))

-- so many bytes of a number from a place on (ours)
unfoldable pub bytes_from : ℕ → ℕ → ℕ → List ℕ
bytes_from number place count = map (byte_at number) (range_with_len place count)
