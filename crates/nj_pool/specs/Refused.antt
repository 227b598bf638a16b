-- When a state is refused.
use Rattle.std.specs.Prelude.{◌≡◌, ℕ, ◌+◌, ◌<◌, ◌≤◌, List}
use Rattle.nj_pool.specs.declared.refused.PushRefused.{PushRefused}
use Rattle.nj_pool.specs.declared.refused.PushRefused.TheVariants.{PoolFull, NoMemory}
use Rattle.nj_pool.specs.Front.{Front, need, bytes_held}

-- for want of room: it tells the bytes held and the limit; for want of memory only where there is room
abbrev pub RefusesBy : ℕ → ℕ → ℕ → PushRefused → Type 0
RefusesBy held more limit (PoolFull bytes most) = (bytes ≡ held) × (most ≡ limit) × (limit < held + more)
RefusesBy held more limit NoMemory = held + more ≤ limit

-- a refusal of a state with this image
abbrev pub Refuses : List ℕ → Front → PushRefused → Type 0
Refuses image pool refused = RefusesBy (bytes_held pool) (need pool.base image) pool.limit refused
