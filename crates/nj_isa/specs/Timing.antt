-- The published timing of the instructions, against which the lists of accesses are held, and the opcodes that jam.
use Rattle.std.specs.Prelude.{ℕ, ◌+◌, Bool, true, false, List, [], ◌∷◌, ◌++◌, ◌==◌, slice_index, if◌then◌else◌}
use Rattle.nj_isa.specs.declared.operations.Op.{Op}
use Rattle.nj_isa.specs.declared.operations.Op.TheVariants.{Jam}
use Rattle.nj_isa.specs.declared.table.OpRow.{OpRow}
use Rattle.nj_isa.specs.Accesses.{Access, When, Always, Carried, Taken, TakenAway, accesses, class_of}
use Rattle.nj_isa.specs.Table.{row_of}

-- cycles by the opcode's high digit, one line each, and its low digit; 0 stands where this machine jams (MOS
-- Technology, MCS6500 Family Programming Manual, appendix B; NESdev Wiki, "6502 instructions" and "CPU unofficial
-- opcodes")
abbrev pub cycle_table : List ℕ
cycle_table =
    7 ∷ 6 ∷ 0 ∷ 8 ∷ 3 ∷ 3 ∷ 5 ∷ 5 ∷ 3 ∷ 2 ∷ 2 ∷ 2 ∷ 4 ∷ 4 ∷ 6 ∷ 6 ∷ []
    ++ 2 ∷ 5 ∷ 0 ∷ 8 ∷ 4 ∷ 4 ∷ 6 ∷ 6 ∷ 2 ∷ 4 ∷ 2 ∷ 7 ∷ 4 ∷ 4 ∷ 7 ∷ 7 ∷ []
    ++ 6 ∷ 6 ∷ 0 ∷ 8 ∷ 3 ∷ 3 ∷ 5 ∷ 5 ∷ 4 ∷ 2 ∷ 2 ∷ 2 ∷ 4 ∷ 4 ∷ 6 ∷ 6 ∷ []
    ++ 2 ∷ 5 ∷ 0 ∷ 8 ∷ 4 ∷ 4 ∷ 6 ∷ 6 ∷ 2 ∷ 4 ∷ 2 ∷ 7 ∷ 4 ∷ 4 ∷ 7 ∷ 7 ∷ []
    ++ 6 ∷ 6 ∷ 0 ∷ 8 ∷ 3 ∷ 3 ∷ 5 ∷ 5 ∷ 3 ∷ 2 ∷ 2 ∷ 2 ∷ 3 ∷ 4 ∷ 6 ∷ 6 ∷ []
    ++ 2 ∷ 5 ∷ 0 ∷ 8 ∷ 4 ∷ 4 ∷ 6 ∷ 6 ∷ 2 ∷ 4 ∷ 2 ∷ 7 ∷ 4 ∷ 4 ∷ 7 ∷ 7 ∷ []
    ++ 6 ∷ 6 ∷ 0 ∷ 8 ∷ 3 ∷ 3 ∷ 5 ∷ 5 ∷ 4 ∷ 2 ∷ 2 ∷ 2 ∷ 5 ∷ 4 ∷ 6 ∷ 6 ∷ []
    ++ 2 ∷ 5 ∷ 0 ∷ 8 ∷ 4 ∷ 4 ∷ 6 ∷ 6 ∷ 2 ∷ 4 ∷ 2 ∷ 7 ∷ 4 ∷ 4 ∷ 7 ∷ 7 ∷ []
    ++ 2 ∷ 6 ∷ 2 ∷ 6 ∷ 3 ∷ 3 ∷ 3 ∷ 3 ∷ 2 ∷ 2 ∷ 2 ∷ 0 ∷ 4 ∷ 4 ∷ 4 ∷ 4 ∷ []
    ++ 2 ∷ 6 ∷ 0 ∷ 0 ∷ 4 ∷ 4 ∷ 4 ∷ 4 ∷ 2 ∷ 5 ∷ 2 ∷ 0 ∷ 0 ∷ 5 ∷ 0 ∷ 0 ∷ []
    ++ 2 ∷ 6 ∷ 2 ∷ 6 ∷ 3 ∷ 3 ∷ 3 ∷ 3 ∷ 2 ∷ 2 ∷ 2 ∷ 0 ∷ 4 ∷ 4 ∷ 4 ∷ 4 ∷ []
    ++ 2 ∷ 5 ∷ 0 ∷ 5 ∷ 4 ∷ 4 ∷ 4 ∷ 4 ∷ 2 ∷ 4 ∷ 2 ∷ 0 ∷ 4 ∷ 4 ∷ 4 ∷ 4 ∷ []
    ++ 2 ∷ 6 ∷ 2 ∷ 8 ∷ 3 ∷ 3 ∷ 5 ∷ 5 ∷ 2 ∷ 2 ∷ 2 ∷ 2 ∷ 4 ∷ 4 ∷ 6 ∷ 6 ∷ []
    ++ 2 ∷ 5 ∷ 0 ∷ 8 ∷ 4 ∷ 4 ∷ 6 ∷ 6 ∷ 2 ∷ 4 ∷ 2 ∷ 7 ∷ 4 ∷ 4 ∷ 7 ∷ 7 ∷ []
    ++ 2 ∷ 6 ∷ 2 ∷ 8 ∷ 3 ∷ 3 ∷ 5 ∷ 5 ∷ 2 ∷ 2 ∷ 2 ∷ 2 ∷ 4 ∷ 4 ∷ 6 ∷ 6 ∷ []
    ++ 2 ∷ 5 ∷ 0 ∷ 8 ∷ 4 ∷ 4 ∷ 6 ∷ 6 ∷ 2 ∷ 4 ∷ 2 ∷ 7 ∷ 4 ∷ 4 ∷ 7 ∷ 7 ∷ []

-- the published cycles of an opcode, without penalties
abbrev pub cycles_of : ℕ → ℕ
cycles_of opcode = slice_index cycle_table opcode

-- whether a list has an opcode
abbrev pub is_among : List ℕ → ℕ → Bool
is_among [] opcode = false
is_among (x ∷ xs) opcode = if x == opcode then true else is_among xs opcode

-- "add 1 if a page is crossed": the reads by abs,X, by abs,Y and by (zp),Y
abbrev pub crossing_opcodes : List ℕ
crossing_opcodes =
    0x11 ∷ 0x19 ∷ 0x1C ∷ 0x1D ∷ []
    ++ 0x31 ∷ 0x39 ∷ 0x3C ∷ 0x3D ∷ []
    ++ 0x51 ∷ 0x59 ∷ 0x5C ∷ 0x5D ∷ []
    ++ 0x71 ∷ 0x79 ∷ 0x7C ∷ 0x7D ∷ []
    ++ 0xB1 ∷ 0xB3 ∷ 0xB9 ∷ 0xBC ∷ 0xBD ∷ 0xBE ∷ 0xBF ∷ []
    ++ 0xD1 ∷ 0xD9 ∷ 0xDC ∷ 0xDD ∷ []
    ++ 0xF1 ∷ 0xF9 ∷ 0xFC ∷ 0xFD ∷ []

-- "add 1 if the branch is taken, 1 more if it goes to another page"
abbrev pub branch_opcodes : List ℕ
branch_opcodes = 0x10 ∷ 0x30 ∷ 0x50 ∷ 0x70 ∷ 0x90 ∷ 0xB0 ∷ 0xD0 ∷ 0xF0 ∷ []

-- one cycle, or none
abbrev pub one_if : Bool → ℕ
one_if false = 0
one_if true = 1

-- the published penalty: for a crossed page, for a taken branch, for one that is taken to another page
abbrev pub penalty_of : ℕ → Bool → Bool → Bool → ℕ
penalty_of opcode crossed taken away =
    (if is_among crossing_opcodes opcode then one_if crossed else 0)
    + (if is_among branch_opcodes opcode then one_if taken + one_if away else 0)

-- whether an access is made, where a page is crossed, a branch is taken, or taken to another page
abbrev pub is_made_if : Bool → Bool → Bool → When → Bool
is_made_if crossed taken away Always = true
is_made_if crossed taken away (Carried index) = crossed
is_made_if crossed taken away Taken = taken
is_made_if crossed taken away TakenAway = away

-- how many accesses of a list are made
abbrev pub count_made : Bool → Bool → Bool → List Access → ℕ
count_made crossed taken away [] = 0
count_made crossed taken away (a ∷ rest) =
    one_if (is_made_if crossed taken away a.when_) + count_made crossed taken away rest

-- the accesses after the opcode's, by the row of the opcode
unfoldable pub accesses_of : OpRow → List Access
accesses_of row = accesses (class_of row.op row.mode) row.mode row.kind

-- whether an operation is the jam
abbrev pub is_jam : Op → Bool
is_jam Jam = true
is_jam _ = false

-- whether an opcode jams
unfoldable pub jams : ℕ → Bool
jams opcode = is_jam (row_of opcode).op

-- the twelve opcodes that stop an NMOS 6502 (NESdev Wiki, "CPU unofficial opcodes", STP)
abbrev pub stopping_opcodes : List ℕ
stopping_opcodes = 0x02 ∷ 0x12 ∷ 0x22 ∷ 0x32 ∷ 0x42 ∷ 0x52 ∷ 0x62 ∷ 0x72 ∷ 0x92 ∷ 0xB2 ∷ 0xD2 ∷ 0xF2 ∷ []

-- the eight whose effect is not the same on each NMOS 6502 (NESdev Wiki, "CPU unofficial opcodes": ANE, SHA, TAS, SHY,
-- SHX, LXA, LAS); that they jam is this project's own profile
abbrev pub unstable_opcodes : List ℕ
unstable_opcodes = 0x8B ∷ 0x93 ∷ 0x9B ∷ 0x9C ∷ 0x9E ∷ 0x9F ∷ 0xAB ∷ 0xBB ∷ []
