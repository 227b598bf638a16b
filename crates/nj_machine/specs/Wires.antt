-- What the processor is wired to: the memory map, and one cycle (NESdev Wiki, "CPU memory map").
use Rattle.std.specs.Prelude.{ℕ, ◌+◌, ◌*◌, ◌/◌, ◌%◌, ◌==◌, nat_lt, not, if◌then◌else◌, slice_index, slice_set, nat_le, Option, Some, None, unwrap_or}
use Rattle.nj_banked.specs.Banks.{Banks}
use Rattle.nj_banked.specs.Banked.{byte_at, put_at, pattern_of, written as board_written}
use Rattle.nj_isa.specs.Bus.{Acts}
use Rattle.nj_dots.specs.Screen.{nmi_line_of}
use Rattle.nj_dots.specs.Dots.{after_dots}
use Rattle.nj_dots.specs.Registers.{read_byte, after_read as screen_after_read, after_write as screen_after_write, to_pattern}
use Rattle.nj_pad.specs.Port.{bit_read, port_after_read, port_after_write}
use Rattle.nj_machine.specs.State.{Cells}

-- what the machine holds beside its processor, and the pad of the frame
pub record Wired : Type 0 where
  pub cells : Cells
  pub pad : ℕ

-- the picture runs three dots in each cycle (NESdev Wiki, "Cycle reference chart")
unfoldable pub dots_run : Wired → Wired
dots_run w = record w { cells = (let c = w.cells in record c { screen = after_dots 3 (pattern_of c.board) c.screen }) }

-- a port gives bit 0, and bits 5 to 7 stay as they are on the data bus; the bits between are 0 (NESdev Wiki,
-- "Controller reading" and "Open bus behavior")
abbrev pub port_byte : ℕ → ℕ → ℕ
port_byte bus_byte bit = bus_byte / 32 * 32 + bit

-- the byte that a read answers: working memory, repeated below $2000; the picture's eight registers, repeated below
-- $4000; the ports; program memory; and where nothing answers the last byte on the data bus
unfoldable pub answer : Wired → ℕ → ℕ
answer w at =
    let c = w.cells in
    if nat_lt at 0x2000 then slice_index c.ram (at % 2048)
    else (if nat_lt at 0x4000 then read_byte (at % 8) c.screen
    else (if at == 0x4016 then port_byte c.bus_byte (bit_read c.port_one w.pad)
    else (if at == 0x4017 then port_byte c.bus_byte (bit_read c.port_two 0)
    else (if nat_lt at 0x4020 then c.bus_byte
    else unwrap_or (byte_at c.board at) c.bus_byte))))

-- a read of a picture's register
unfoldable pub register_read : ℕ → Wired → Wired
register_read reg w =
    record w { cells = (let c = w.cells in record c { screen = screen_after_read reg (pattern_of c.board) c.screen }) }

-- a read of port 1
unfoldable pub port_one_read : Wired → Wired
port_one_read w = record w { cells = (let c = w.cells in record c { port_one = port_after_read c.port_one }) }

-- a read of port 2
unfoldable pub port_two_read : Wired → Wired
port_two_read w = record w { cells = (let c = w.cells in record c { port_two = port_after_read c.port_two }) }

-- what a read changes: a register of the picture, or a port
unfoldable pub answered : Wired → ℕ → Wired
answered w at =
    if nat_lt at 0x2000 then w
    else (if nat_lt at 0x4000 then register_read (at % 8) w
    else (if at == 0x4016 then port_one_read w
    else (if at == 0x4017 then port_two_read w
    else w)))

-- a byte of working memory is written
unfoldable pub ram_put : ℕ → ℕ → Wired → Wired
ram_put place value w = record w { cells = (let c = w.cells in record c { ram = slice_set c.ram place value }) }

-- the board after a write of $2007 that goes to pattern memory, if it is one
abbrev pub pattern_put : Option (ℕ × ℕ) → Banks → Banks
pattern_put None board = board
pattern_put (Some put) board = put_at board put.0 put.1

-- a register of the picture is written
unfoldable pub register_put : ℕ → ℕ → Wired → Wired
register_put reg value w = record w {
  cells = (let c = w.cells in record c {
    screen = screen_after_write reg value c.screen;
    board = pattern_put (to_pattern reg value c.screen) c.board;
  });
}

-- a sprite copy of a page is asked for
unfoldable pub copy_asked : ℕ → Wired → Wired
copy_asked page w = record w { cells = (let c = w.cells in record c { page = Some page }) }

-- both ports are strobed; port 2's pad has nothing pressed
unfoldable pub ports_strobed : ℕ → Wired → Wired
ports_strobed value w = record w {
  cells = (let c = w.cells in record c {
    port_one = port_after_write c.port_one value w.pad;
    port_two = port_after_write c.port_two value 0;
  });
}

-- the board takes a byte, by which it may choose another bank
unfoldable pub board_put : ℕ → ℕ → Wired → Wired
board_put at value w = record w { cells = (let c = w.cells in record c { board = board_written c.board at value }) }

-- what a write changes: working memory, a register of the picture, the page of a sprite copy at $4014, the ports at
-- $4016, and the board from $8000 on
unfoldable pub written : Wired → ℕ → ℕ → Wired
written w at value =
    if nat_lt at 0x2000 then ram_put (at % 2048) value w
    else (if nat_lt at 0x4000 then register_put (at % 8) value w
    else (if at == 0x4014 then copy_asked value w
    else (if at == 0x4016 then ports_strobed value w
    else (if nat_le 0x8000 at then board_put at value w
    else w))))

-- the end of a cycle: the byte stays on the data bus, and the parity turns
unfoldable pub over : ℕ → Wired → Wired
over byte w = record w { cells = (let c = w.cells in record c { bus_byte = byte; odd = not c.odd }) }

-- the byte of a read's cycle: three dots, and then the access
unfoldable pub byte_read : Wired → ℕ → ℕ
byte_read w at = answer (dots_run w) at

-- what it leaves
unfoldable pub after_read : Wired → ℕ → Wired
after_read w at = over (byte_read w at) (answered (dots_run w) at)

-- the cycle of a write
unfoldable pub after_write : Wired → ℕ → ℕ → Wired
after_write w at value = over value (written (dots_run w) at value)

-- the page of a sprite copy is taken
unfoldable pub page_taken : Wired → Wired
page_taken w = record w { cells = (let c = w.cells in record c { page = None }) }

-- the machine's bus; its NMI line is the picture's
abbrev pub wires : Acts Wired
wires = record {
  byte = byte_read;
  after_read = after_read;
  after_write = after_write;
  line = λ w. nmi_line_of w.cells.screen;
  page = λ w. w.cells.page;
  after_take = page_taken;
  odd = λ w. w.cells.odd;
}
