-- What is counted of the rows that are kept so far.
use Rattle.std.specs.Prelude.{◌≡◌, ℕ, ℤ, ◌+◌, ◌≤◌, List, length, take, min, count_by, unwrap_or}
use Rattle.std.specs.HashMap.{HashMap, get, spare}
use Rattle.nj_search_defs.specs.Quota.{same_values}
use Rattle.nj_rows.specs.declared.Row.{Row}

-- how many rows of a bucket are counted
abbrev pub count_in : {S : Type 0} → HashMap (List ℤ) ℕ S → List ℤ → ℕ
count_in counts bucket = unwrap_or (get same_values counts bucket) 0

-- of the first rows, which are kept, those of each bucket are counted, and so many more buckets can be that n are kept
pub record AreCounted {S : Type 0} (rows : List Row) (counts : HashMap (List ℤ) ℕ S) (n kept : ℕ) : Type 0 where
  pub counted : (bucket : List ℤ)
      → count_in counts bucket ≡ count_by (λ row. same_values bucket row.bucket) (take kept rows)
  pub room : min n (length rows) ≤ spare counts + kept
