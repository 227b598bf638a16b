-- The images of the states that words lead to. All of it is this project's own.
use Rattle.std.specs.Prelude.{ℕ, List, []}
use Rattle.nj_search_defs.specs.Game.{Word}
use Rattle.nj_machine.specs.State.{Rom, rom_of, power_on}
use Rattle.nj_machine.specs.Image.{image_len, image_of}
use Rattle.nj_game.specs.Plan.{Plan}
use Rattle.nj_game.specs.Words.{state_of}
use Rattle.nj_pool.specs.Front.{Front, empty_front, with_word, need}

-- what the cartridge fixes of each state of a plan
unfoldable pub rom_in : Plan → Rom
rom_in plan = rom_of (power_on plan.cartridge)

-- the bytes of an image of a plan
unfoldable pub size_in : Plan → ℕ
size_in plan = image_len (rom_in plan)

-- the image of the state after a word
unfoldable pub image_at : Plan → Word → List ℕ
image_at plan word = image_of (state_of plan word)

-- what the state of a word needs: the bytes of its packing over the start's image, and 15 for its place in the trail
unfoldable pub need_at : Plan → Word → ℕ
need_at plan word = need (image_at plan []) (image_at plan word)

-- a pool of one state, over its own image: this image, with the empty word
unfoldable pub one_state : ℕ → List ℕ → Front
one_state limit image = with_word image [] (empty_front image limit)
