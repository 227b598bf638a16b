-- Properties: numbers of one or two bytes in the console's 2,048 bytes of working memory.
use Rattle.std.specs.Prelude.{ℕ, ◌+◌, ◌-◌, ◌*◌, ◌^◌, ◌≤◌, List, [], ◌∷◌, ℤ, pos, ◌-ℤ◌, nat_lt, slice_range, if◌then◌else◌}
use Rattle.nj_property.specs.declared.Kind.{Kind}
use Rattle.nj_property.specs.declared.Kind.TheVariants.{U8, I8, U16, I16}
use Rattle.nj_property.specs.declared.Property.{Property}

-- how many bytes a number of this kind takes
abbrev pub size_of : Kind → ℕ
size_of U8 = 1
size_of I8 = 1
size_of U16 = 2
size_of I16 = 2

-- the bytes of the property lie in working memory, $0000 to $07FF (NESdev Wiki, "CPU memory map")
abbrev pub IsPlaced : Property → Type 0
IsPlaced p = p.at + size_of p.kind ≤ 2048

-- the bytes of the property, by address
abbrev pub bytes_of : Property → List ℕ → List ℕ
bytes_of p ram = slice_range ram p.at (p.at + size_of p.kind)

-- the number of these bytes, the low byte first
abbrev pub little_endian : List ℕ → ℕ
little_endian [] = 0
little_endian (low ∷ bytes) = low + 256 * little_endian bytes

-- the number that n stands for in two's complement of that many bytes
abbrev pub twos_complement : ℕ → ℕ → ℤ
twos_complement size n = if nat_lt n (2 ^ (8 * size - 1)) then pos n else pos n -ℤ pos (2 ^ (8 * size))

-- the number of these bytes, as one of this kind
abbrev pub read_as : Kind → List ℕ → ℤ
read_as U8 bytes = pos (little_endian bytes)
read_as I8 bytes = twos_complement 1 (little_endian bytes)
read_as U16 bytes = pos (little_endian bytes)
read_as I16 bytes = twos_complement 2 (little_endian bytes)

-- the value of the property in working memory
unfoldable pub value_of : Property → List ℕ → ℤ
value_of p ram = read_as p.kind (bytes_of p ram)
