-- Which files say a saved search, in the words of what they are made of. The format is our own.
use Rattle.std.specs.Prelude.{◌≡◌, ◌⊎◌, ℕ, List}
use Rattle.nj_saved.specs.declared.saved.Saved.{Saved}
use Rattle.nj_saved.specs.Bytes.{file_bytes}
use Rattle.nj_saved.specs.Ranges.{IsInRange, Fits}

-- the file is that of a saved search of this cartridge and script which is in its ranges, in version 1 or 2
pub record IsFileOf (file : List ℕ) (cart script : ℕ) (saved : Saved) : Type 0 where
  pub cart_is : saved.cart ≡ cart
  pub script_is : saved.script ≡ script
  pub ranges : IsInRange saved
  pub fits : Fits saved
  pub bytes : (file ≡ file_bytes 1 saved) ⊎ (file ≡ file_bytes 2 saved)
