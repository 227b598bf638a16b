-- Two machines in one state, each with a place for its image.
use Rattle.std.proofs.Common.{◌≡◌, ℕ, List, length}
use Rattle.nj_machine.specs.State.{State, rom_of}
use Rattle.nj_machine.specs.Image.{image_len}

-- they are in one state, and both places have the length of its image
pub record AreAlike (one other : State) (image other_image : List ℕ) : Type 0 where
  pub same : one ≡ other
  pub long : length image ≡ image_len (rom_of one)
  pub other_long : length other_image ≡ image_len (rom_of one)
