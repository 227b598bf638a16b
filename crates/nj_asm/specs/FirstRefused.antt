-- The refusal of a source in other words: each line's own refusal, and the first line that has one. Our own.
use Rattle.std.specs.Prelude.{◌≡◌, ℕ, ◌+◌, ◌<◌, Bool, List, length, take, sum_by, slice_index_or, Option, Some, None}
use Rattle.std.specs.List.{list_any}
use Rattle.nj_asm_lines.specs.declared.syntax.Fault.{Fault}
use Rattle.nj_asm_lines.specs.declared.syntax.Line.{Line}
use Rattle.nj_asm.specs.Assembly.{size_of, is_said, origin_of, homes_of, fault_of}

-- the address at which a line begins
abbrev pub begins_at : List Line → ℕ → ℕ
begins_at all n = origin_of all + sum_by (λ l. size_of l.statement) (take n all)

-- a statement stands before a line
abbrev pub is_begun : List Line → ℕ → Bool
is_begun all n = list_any (λ l. is_said l.statement) (take n all)

-- what refuses the line with a number, counted from 0
unfoldable pub fault_at : List Line → ℕ → Line → Option Fault
fault_at all n line = fault_of (homes_of all) (is_begun all n) (begins_at all n) n line

-- this line is refused, and no line before it
pub record IsFirstRefused (all : List Line) (n : ℕ) (fault : Fault) : Type 0 where
  pub within : n < length all
  pub refused : (d : Line) → fault_at all n (slice_index_or all n d) ≡ Some fault
  pub earlier : (k : ℕ) (d : Line) → k < n → fault_at all k (slice_index_or all k d) ≡ None
