-- A pool of states: their images, their words or births, and what they need of the limit. The form is our own.
use Rattle.std.specs.Prelude.{◌≡◌, ℕ, ◌+◌, ◌≤◌, List, [], ◌∷◌, ◌++◌, length, map, sum_by}
use Rattle.std.specs.List.{All}
use Rattle.nj_image.specs.Pages.{IsImageSize}
use Rattle.nj_image.specs.Packing.{packing, unpacked, IsPacking}
use Rattle.nj_pool.specs.declared.birth.Birth.{Birth}
use Rattle.nj_pool.specs.Words.{child_words}

-- a pool: the base of the packings, the limit of the bytes held, the images, the words of a front, the number of
-- steps that made them from whole words, and the births of a front to come
pub record Front : Type 0 where
  pub base : List ℕ
  pub limit : ℕ
  pub images : List (List ℕ)
  pub words : List (List ℕ)
  pub depth : ℕ
  pub born : List Birth

-- what a state needs over a base: the bytes of its packing and 15 for its place in the trail
abbrev pub need : List ℕ → List ℕ → ℕ
need base image = length (packing image base) + 15

-- the bytes that are held: the sum of the needs
abbrev pub bytes_held : Front → ℕ
bytes_held pool = sum_by (need pool.base) pool.images

-- a pool of no states
abbrev pub empty_front : List ℕ → ℕ → Front
empty_front base limit = record { base = base; limit = limit; images = []; words = []; depth = 0; born = [] }

-- a pool with one state more, with its whole word
abbrev pub with_word : List ℕ → List ℕ → Front → Front
with_word image word pool = record pool { images = pool.images ++ image ∷ []; words = pool.words ++ word ∷ [] }

-- a pool with one state more, born of a state of the front before
abbrev pub with_birth : List ℕ → Birth → Front → Front
with_birth image birth pool = record pool { images = pool.images ++ image ∷ []; born = pool.born ++ birth ∷ [] }

-- a pool with the states of another behind its own, which are births
abbrev pub with_births : Front → Front → Front
with_births pool other = record pool { images = pool.images ++ other.images; born = pool.born ++ other.born }

-- the states of another pool, born of this front, as the front: each word is its parent's word and its pad
abbrev pub next_front : Front → Front → Front
next_front pool other = record other { words = child_words pool.words other.born; depth = pool.depth + 1; born = [] }

-- a state with this image has room
abbrev pub HasRoom : List ℕ → Front → Type 0
HasRoom image pool = bytes_held pool + need pool.base image ≤ pool.limit

-- the images that packings tell
abbrev pub images_in : List ℕ → List (List ℕ) → List (List ℕ)
images_in base packings = map (unpacked base) packings

-- what a pool's type keeps: packings over its base and room for one more; the counted bytes are those held, and within
-- the limit
pub record IsPacked (base room : List ℕ) (limit bytes : ℕ) (packings : List (List ℕ)) : Type 0 where
  pub size : IsImageSize base
  pub wide : length room ≡ length base + 1
  pub are : All (IsPacking base) packings
  pub counted : bytes ≡ sum_by (need base) (images_in base packings)
  pub within : bytes ≤ limit
