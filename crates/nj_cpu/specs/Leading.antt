-- A mode with an address in two parts: the accesses that lead to it, and where it is
-- (NESdev Wiki, "6502 cpu.txt", the section on instruction timing).
use Rattle.std.specs.Prelude.{ℕ, ◌+◌, nat_le, List, [], ◌∷◌, Option, Some, None, if◌then◌else◌}
use Rattle.nj_isa.specs.Accesses.{Access, Place, AtPc, InZero, InZeroBy, AtWord, AtWordBy, AtUncarried, AtPointer, AfterPointer, At, Ignores, ToLow, ToHigh, ToPointer, ToData, Stay, PointerUp, access, fetch}
use Rattle.nj_isa.specs.declared.modes.Mode.{Mode}
use Rattle.nj_isa.specs.declared.modes.Mode.TheVariants.{Implied, Accumulator, Immediate, Zp, ZpX, ZpY, Abs, AbsX, AbsY, IndX, IndY, Indirect, Relative}
use Rattle.nj_isa.specs.declared.modes.Kind.{Kind}
use Rattle.nj_isa.specs.declared.modes.Kind.TheVariants.{Read, Write}
use Rattle.nj_isa.specs.declared.modes.Index.{Index}
use Rattle.nj_isa.specs.declared.modes.Index.TheVariants.{X, Y}
use Rattle.nj_cpu.specs.Walk.{Walk, index_of}

-- the accesses that lead to a mode's address, with the early read of a word with an index; all of a mode without one
abbrev pub leading : Mode → Kind → List Access
leading Implied kind = access AtPc Ignores Stay ∷ []
leading Accumulator kind = access AtPc Ignores Stay ∷ []
leading Immediate Read = fetch ToData ∷ []
leading Immediate _ = []
leading Zp kind = fetch ToLow ∷ []
leading ZpX kind = fetch ToLow ∷ access InZero Ignores Stay ∷ []
leading ZpY kind = fetch ToLow ∷ access InZero Ignores Stay ∷ []
leading Abs kind = fetch ToLow ∷ fetch ToHigh ∷ []
leading AbsX kind = fetch ToLow ∷ fetch ToHigh ∷ access (AtUncarried X) ToData Stay ∷ []
leading AbsY kind = fetch ToLow ∷ fetch ToHigh ∷ access (AtUncarried Y) ToData Stay ∷ []
leading IndX kind =
    fetch ToPointer ∷ access AtPointer Ignores PointerUp ∷ access AtPointer ToLow Stay ∷ access AfterPointer ToHigh Stay
    ∷ []
leading IndY kind =
    fetch ToPointer ∷ access AtPointer ToLow Stay ∷ access AfterPointer ToHigh Stay ∷ access (AtUncarried Y) ToData Stay
    ∷ []
leading Indirect kind = []
leading Relative kind = []

-- where the address is then found
abbrev pub ending : Mode → Place
ending Zp = InZero
ending ZpX = InZeroBy X
ending ZpY = InZeroBy Y
ending Abs = AtWord
ending AbsX = AtWordBy X
ending AbsY = AtWordBy Y
ending IndX = AtWord
ending IndY = AtWordBy Y
ending _ = At 0

-- the index of a mode that has one
abbrev pub index_by : Mode → Index
index_by ZpX = X
index_by AbsX = X
index_by _ = Y

-- the byte of the early read, where the index did not carry and nothing but a read was asked for
abbrev pub early_by : {Held : Type 0} → Index → Kind → Walk Held → Option ℕ
early_by i Read w = if nat_le 256 (w.low + index_of i w.cpu) then None else Some w.data_
early_by i _ w = None

-- the byte that is there before the end at an address: the early one, and that of a mode without an address
abbrev pub early : {Held : Type 0} → Mode → Kind → Walk Held → Option ℕ
early Zp kind w = None
early ZpX kind w = None
early ZpY kind w = None
early Abs kind w = None
early AbsX kind w = early_by X kind w
early AbsY kind w = early_by Y kind w
early IndX kind w = None
early IndY kind w = early_by Y kind w
early _ kind w = Some w.data_

-- the byte that is left for the operation, which a store leaves none
abbrev pub given : Kind → ℕ → ℕ
given Write n = 0
given _ n = n
