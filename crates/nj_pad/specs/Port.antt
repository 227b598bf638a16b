-- A controller port: NESdev Wiki, "Standard controller" and "Controller reading".
use Rattle.std.specs.Prelude.{ℕ, zero, suc, ◌+◌, ◌%◌, ◌==◌, nat_lt, true, false, if◌then◌else◌, List, [], ◌∷◌}
use Rattle.std.specs.Int.{bit_at}
use Rattle.nj_pad.specs.declared.Port.{Port}

-- the port before any write: the strobe low, nothing latched, nothing read
unfoldable pub port_at_power_on : Port
port_at_power_on = record { strobe = false; latch = 0; count = 0 }

-- the port after a write: bit 0 is the strobe, and where it falls the pad is latched (NESdev Wiki, "Controller
-- reading")
unfoldable pub port_after_write : Port → ℕ → ℕ → Port
port_after_write port value pad =
    if value % 2 == 1 then record port { strobe = true }
    else if port.strobe then record { strobe = false; latch = pad; count = 0 }
    else port

-- the bit that a read gives: button A while the strobe is high, then the latched bits in turn, then 1
unfoldable pub bit_read : Port → ℕ → ℕ
bit_read port pad =
    if port.strobe then pad % 2 else if nat_lt port.count 8 then bit_at port.latch port.count else 1

-- the port after a read: one more bit is read where the strobe is low, up to the eighth
unfoldable pub port_after_read : Port → Port
port_after_read port =
    if port.strobe then port else if nat_lt port.count 8 then record port { count = port.count + 1 } else port

-- the bits of the next n reads, while the pad is this
abbrev pub bits_read : ℕ → Port → ℕ → List ℕ
bits_read zero port pad = []
bits_read (suc n) port pad = bit_read port pad ∷ bits_read n (port_after_read port) pad
