-- The lines on `err` that are no refusal's. Our own.
use Rattle.std.specs.Prelude.{ℕ, List, [], ◌∷◌, ◌++◌, codes}

-- the line of words without a reading
abbrev pub usage_line : List ℕ
usage_line = codes "nj: usage" ++ 10 ∷ []

-- the line of a failed read
abbrev pub read_fault_line : List ℕ
read_fault_line = codes "nj: read fault" ++ 10 ∷ []

-- the line of a failed write
abbrev pub write_fault_line : List ℕ
write_fault_line = codes "nj: write fault" ++ 10 ∷ []

-- the line of want of memory
abbrev pub no_memory_line : List ℕ
no_memory_line = codes "nj: no memory" ++ 10 ∷ []
