-- Whole official instructions, and a listing as a source again. The layout is our own; modes and opcodes are those of
-- the MCS6500 Family Programming Manual.
use Rattle.std.specs.Prelude.{◌≡◌, ℕ, ◌<◌, true, List, [], ◌∷◌, ◌++◌, length, drop, codes, slice_index, Option, Some, None}
use Rattle.std.specs.List.{All, flat_map}
use Rattle.nj_lines.specs.Lines.{lines}
use Rattle.nj_isa.specs.declared.modes.Mode.{Mode}
use Rattle.nj_isa.specs.declared.modes.Mode.TheVariants.{Zp, ZpX, ZpY, Abs, AbsX, AbsY}
use Rattle.nj_isa.specs.Names.{length_of}
use Rattle.nj_isa.specs.Table.{row_of, is_official}
use Rattle.nj_asm.specs.Listing.{hex4}

-- an instruction: its opcode and the bytes behind it
pub record Instruction : Type 0 where
  pub opcode : ℕ
  pub operand : List ℕ

-- the bytes of an instruction
abbrev pub encoding : Instruction → List ℕ
encoding i = i.opcode ∷ i.operand

-- the bytes of instructions, one behind another
abbrev pub encodings : List Instruction → List ℕ
encodings all = flat_map encoding all

-- the zero-page mode beside an absolute one: the same index, an address of one byte
abbrev pub short_mode : Mode → Option Mode
short_mode Abs = Some Zp
short_mode AbsX = Some ZpX
short_mode AbsY = Some ZpY
short_mode _ = None

-- a whole official instruction, in its shortest form: its opcode is official, as many bytes stand behind it as its
-- mode takes, and an absolute address is below $100 only where the operation has no zero-page mode beside
pub record IsInstruction (i : Instruction) : Type 0 where
  pub byte : i.opcode < 256
  pub official : is_official i.opcode ≡ true
  pub whole : length (encoding i) ≡ length_of (row_of i.opcode).mode
  pub bytes : All (λ b. b < 256) i.operand
  pub short : (code : ℕ) → code < 256 → (row_of code).op ≡ (row_of i.opcode).op
      → short_mode (row_of i.opcode).mode ≡ Some (row_of code).mode → 0 < slice_index i.operand 1

-- the statements of a listing: what stands behind the columns of address and bytes
abbrev pub statements_of : List ℕ → List ℕ
statements_of listing = flat_map (λ line. drop 14 line) (lines listing)

-- an `.org` of the origin and the statements of a listing, as a source
abbrev pub source_of : ℕ → List ℕ → List ℕ
source_of origin listing = codes ".org $" ++ hex4 origin ++ 10 ∷ [] ++ statements_of listing
