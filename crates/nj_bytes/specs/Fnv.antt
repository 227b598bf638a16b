-- FNV-1a of 64 bits (Fowler, Noll and Vo; draft-eastlake-fnv).
use Rattle.std.specs.Prelude.{ℕ, ◌*◌, ◌%◌, ◌^◌, List, fold, bit_xor}

-- one byte: exclusive or, then multiplication by the 64-bit FNV prime, modulo 2^64
unfoldable pub fnv_step : ℕ → ℕ → ℕ
fnv_step hash byte = (bit_xor hash byte * 1099511628211) % 2 ^ 64

-- the bytes hashed in turn, going on from a hash
unfoldable pub fnv_from : ℕ → List ℕ → ℕ
fnv_from hash bytes = fold fnv_step hash bytes

-- the hash of a text of bytes: from the 64-bit offset basis
unfoldable pub fnv_of : List ℕ → ℕ
fnv_of bytes = fnv_from 14695981039346656037 bytes
