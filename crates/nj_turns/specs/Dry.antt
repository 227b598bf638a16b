-- A bus that has working and program memory and perhaps a fixed status of the picture: the turn of a loop is tried on
-- it.
use Rattle.std.specs.Prelude.{ℕ, suc, ◌%◌, nat_lt, ◌&&◌, ◌==◌, Bool, true, false, if◌then◌else◌, List, slice_index, Option, Some, None, unwrap_or}
use Rattle.nj_banked.specs.Banks.{Banks}
use Rattle.nj_banked.specs.Banked.{byte_at}
use Rattle.nj_isa.specs.Bus.{Acts}
use Rattle.nj_turns.specs.declared.dry.TheConstants.{MOST_CYCLES}

-- the memories that it reads, and what was seen of it
pub record Dry : Type 0 where
  pub ram : List ℕ
  pub board : Banks
  -- what reads of $2002 answer, if they are known to answer one byte and to change nothing
  pub status : Option ℕ
  -- the level of the NMI line, which stays
  pub line : Bool
  -- the last byte that was read
  pub bus_byte : ℕ
  -- how many cycles were run
  pub cycles : ℕ
  -- something else than a read of memory was asked for, or more cycles than are tried
  pub lost : Bool

-- nothing was run yet
abbrev pub begun : List ℕ → Banks → Option ℕ → Bool → ℕ → Dry
begun ram board status line bus_byte =
    record { ram = ram; board = board; status = status; line = line; bus_byte = bus_byte; cycles = 0; lost = false }

-- an address of $2002 or of one of its mirrors (NESdev Wiki, "PPU registers")
abbrev pub is_status : ℕ → Bool
is_status at = nat_lt at 0x4000 && at % 8 == 2

-- a byte of working memory, repeated below $2000, of the cartridge's program memory, or the status; nothing else is
-- told (NESdev Wiki, "CPU memory map")
unfoldable pub told_byte : List ℕ → Banks → Option ℕ → ℕ → Option ℕ
told_byte ram board status at =
    if nat_lt at 0x2000 then Some (slice_index ram (at % 2048)) else if is_status at then status else byte_at board at

-- a cycle in which a byte was read
abbrev pub one_more : ℕ → Dry → Dry
one_more byte h =
    if nat_lt h.cycles MOST_CYCLES then record h { bus_byte = byte; cycles = suc h.cycles } else
    record h { lost = true }

-- the bus is lost where no byte is told
abbrev pub read_of : Option ℕ → Dry → Dry
read_of None h = record h { lost = true }
read_of (Some byte) h = one_more byte h

-- what it holds after a read
unfoldable pub after_read : Dry → ℕ → Dry
after_read h at = read_of (told_byte h.ram h.board h.status at) h

-- what the calls of the bus are; a write is none that it can do, and it has no sprite copies
abbrev pub dry : Acts Dry
dry = record {
  byte = λ h at. unwrap_or (told_byte h.ram h.board h.status at) 0;
  after_read = after_read;
  after_write = λ h at value. record h { lost = true };
  line = λ h. h.line;
  page = λ h. None;
  after_take = λ h. h;
  odd = λ h. false;
}
