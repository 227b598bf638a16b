-- What a cartridge file holds and what is refused of it: NESdev Wiki, "iNES" and "NES 2.0".
use Rattle.std.specs.Prelude.{◌≡◌, ◌≤◌, ℕ, ◌+◌, ◌*◌, ◌==◌, nat_lt, Bool, true, not, ◌||◌, if◌then◌else◌, List, [], ◌∷◌, length, slice_index, slice_range, replicate, Option, Some, None, Result, Ok, Err}
use Rattle.std.specs.Int.{bit_at}
use Rattle.nj_ines.specs.Cartridge.{Cartridge}
use Rattle.nj_ines.specs.Header.{is_named, mapper_of, prg_units_of, chr_units_of, timing_of, need_of, prg_end}
use Rattle.nj_ines.specs.declared.CartRefused.{CartRefused}
use Rattle.nj_ines.specs.declared.CartRefused.TheVariants.{NotInes, Trainer, FourScreen, Mapper, PrgUnits, ChrUnits, Timing, Short}

-- the boards that are taken: NROM, UxROM and CNROM (NESdev Wiki, "List of mappers"; the choice is our own)
unfoldable pub is_board : ℕ → Bool
is_board mapper = mapper == 0 || mapper == 2 || mapper == 3

-- the counts of 16 KiB units of program memory that a board has: UxROM 2, 4, 8 or 16, the others 1 or 2 (our own)
unfoldable pub has_prg : ℕ → ℕ → Bool
has_prg mapper units =
    if mapper == 2 then units == 2 || units == 4 || units == 8 || units == 16 else units == 1 || units == 2

-- the counts of 8 KiB units of pattern ROM that a board has: CNROM 1, 2 or 4, the others 1, or 0 for RAM (our own)
unfoldable pub has_chr : ℕ → ℕ → Bool
has_chr mapper units = if mapper == 3 then units == 1 || units == 2 || units == 4 else units == 0 || units == 1

-- each refusal with its condition, in the order in which they are told (the order and what is refused are our own)
unfoldable pub refusals : List ℕ → List (Bool × CartRefused)
refusals file =
    (not (is_named file), NotInes)
    ∷ (nat_lt (length file) 16, Short 16 (length file))
    ∷ (bit_at (slice_index file 6) 2 == 1, Trainer)
    ∷ (bit_at (slice_index file 6) 3 == 1, FourScreen)
    ∷ (not (is_board (mapper_of file)), Mapper (mapper_of file))
    ∷ (not (has_prg (mapper_of file) (prg_units_of file)), PrgUnits (prg_units_of file))
    ∷ (not (has_chr (mapper_of file) (chr_units_of file)), ChrUnits (chr_units_of file))
    ∷ (timing_of file == 1 || timing_of file == 3, Timing (timing_of file))
    ∷ (nat_lt (length file) (need_of file), Short (need_of file) (length file))
    ∷ []

-- the first whose condition holds
abbrev pub first_refusal : List (Bool × CartRefused) → Option CartRefused
first_refusal [] = None
first_refusal (refusal ∷ refusals) = if refusal.0 then Some refusal.1 else first_refusal refusals

-- what holds of a file of which nothing is refused
pub record IsReadable (file : List ℕ) : Type 0 where
  pub header : 16 ≤ length file
  pub board : is_board (mapper_of file) ≡ true
  pub prg : has_prg (mapper_of file) (prg_units_of file) ≡ true
  pub chr : has_chr (mapper_of file) (chr_units_of file) ≡ true
  pub whole : need_of file ≤ length file

-- the pattern memory: the units behind the program memory, or 8 KiB of zeros where it is RAM (NESdev Wiki, "iNES"; that
-- RAM begins as zeros is our own)
abbrev pub chr_of : List ℕ → List ℕ
chr_of file =
    if chr_units_of file == 0 then replicate 8192 0
    else slice_range file (prg_end file) (prg_end file + 8192 * chr_units_of file)

-- the cartridge that a file holds, whatever is refused of it (NESdev Wiki, "iNES")
unfoldable pub contents_of : List ℕ → Cartridge
contents_of file = record {
  prg = slice_range file 16 (prg_end file);
  chr = chr_of file;
  chr_ram = chr_units_of file == 0;
  vertical = bit_at (slice_index file 6) 0 == 1;
  mapper = mapper_of file;
}

-- the refusal, if there is one, else the cartridge
abbrev pub accepted_unless : Option CartRefused → Cartridge → Result Cartridge CartRefused
accepted_unless (Some refusal) cart = Err refusal
accepted_unless None cart = Ok cart

-- the reading of a file: its first refusal, else the cartridge that it holds
unfoldable pub cartridge_of : List ℕ → Result Cartridge CartRefused
cartridge_of file = accepted_unless (first_refusal (refusals file)) (contents_of file)
