-- The state of the machine, and the state at power-on.
use Rattle.std.specs.Prelude.{ℕ, ◌+◌, ◌*◌, Bool, true, false, List, [], replicate, Option, None, unwrap_or}
use Rattle.nj_ines.specs.Cartridge.{Cartridge}
use Rattle.nj_banked.specs.Banks.{Banks, begun}
use Rattle.nj_banked.specs.Banked.{byte_at}
use Rattle.nj_cpu.specs.declared.state.Cpu.{Cpu}
use Rattle.nj_cpu.specs.Unit.{powered_on}
use Rattle.nj_dots.specs.declared.screen.Screen.{Screen}
use Rattle.nj_dots.specs.Screen.{power_on as screen_at_power_on}
use Rattle.nj_pad.specs.declared.Port.{Port}
use Rattle.nj_pad.specs.Port.{port_at_power_on}

-- all that the machine holds beside its processor (NESdev Wiki, "CPU memory map")
pub record Cells : Type 0 where
  -- the picture, with its own memory
  pub screen : Screen
  -- working memory, 2 KiB
  pub ram : List ℕ
  -- the cartridge's memories, and the bank that its board has chosen
  pub board : Banks
  -- the last byte on the data bus
  pub bus_byte : ℕ
  -- the page of a sprite copy that was asked for and not yet taken
  pub page : Option ℕ
  -- the number of the next cycle, counted from 0 at power-on, is odd
  pub odd : Bool
  -- the two controller ports
  pub port_one : Port
  pub port_two : Port

-- the cells with these parts
abbrev pub cells_of : Screen → List ℕ → Banks → ℕ → Option ℕ → Bool → Port → Port → Cells
cells_of screen ram board bus_byte page odd port_one port_two = record {
  screen = screen;
  ram = ram;
  board = board;
  bus_byte = bus_byte;
  page = page;
  odd = odd;
  port_one = port_one;
  port_two = port_two;
}

-- the state of the machine
pub record State : Type 0 where
  pub cpu : Cpu
  pub cells : Cells

-- the 2,048 bytes of working memory
unfoldable pub ram_of : State → List ℕ
ram_of s = s.cells.ram

-- the processor is jammed
unfoldable pub is_jammed : State → Bool
is_jammed s = s.cpu.jammed

-- what of a cartridge no access changes: program memory, pattern memory unless it is RAM, the mirroring and the board
pub record Rom : Type 0 where
  pub prg : List ℕ
  -- nothing where pattern memory is RAM
  pub chr : List ℕ
  pub chr_ram : Bool
  pub vertical : Bool
  pub mapper : ℕ

-- pattern memory, where it is ROM
abbrev pub pattern_rom : Bool → List ℕ → List ℕ
pattern_rom true chr = []
pattern_rom false chr = chr

-- the same of a board and a mirroring
abbrev pub rom_in : Banks → Bool → Rom
rom_in board vertical = record {
  prg = board.prg;
  chr = pattern_rom board.chr_ram board.chr;
  chr_ram = board.chr_ram;
  vertical = vertical;
  mapper = board.mapper;
}

-- the part of the cartridge that a state keeps
unfoldable pub rom_of : State → Rom
rom_of s = rom_in s.cells.board s.cells.screen.vram.vertical

-- the memories of a cartridge, bank 0 chosen
abbrev pub memory_of : Cartridge → Banks
memory_of cart = begun cart.prg cart.chr cart.chr_ram cart.mapper

-- a byte of a board; an address where nothing is mapped counts as 0
abbrev pub mapped_byte : Banks → ℕ → ℕ
mapped_byte board at = unwrap_or (byte_at board at) 0

-- the word at $FFFC, where the program starts (NESdev Wiki, "CPU interrupts")
unfoldable pub reset_vector : Banks → ℕ
reset_vector board = mapped_byte board 0xFFFD * 256 + mapped_byte board 0xFFFC

-- all memory is 0, no cycle has passed, and the processor stands at the reset vector (this project's own profile of
-- NESdev Wiki, "CPU power up state")
unfoldable pub power_on : Cartridge → State
power_on cart = record {
  cpu = powered_on (reset_vector (memory_of cart));
  cells =
      cells_of (screen_at_power_on cart.vertical) (replicate 2048 0) (memory_of cart) 0 None false port_at_power_on
      port_at_power_on;
}
