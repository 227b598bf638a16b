-- What a refusal is of: the name in its line, and the status of a command that ends with it. Our own.
use Rattle.std.specs.Prelude.{ℕ, List, codes}
use Rattle.nj_texts.specs.declared.kinds.Kind.{Kind}
use Rattle.nj_texts.specs.declared.kinds.Kind.TheVariants.{Cartridge, Script, Plan, Movie, Saved, Source}

-- the name of the kind
abbrev pub kind_name : Kind → List ℕ
kind_name Cartridge = codes "cartridge"
kind_name Script = codes "script"
kind_name Plan = codes "plan"
kind_name Movie = codes "movie"
kind_name Saved = codes "saved"
kind_name Source = codes "asm"

-- the status of its refusals
abbrev pub kind_status : Kind → ℕ
kind_status Cartridge = 4
kind_status Script = 5
kind_status Plan = 5
kind_status Movie = 6
kind_status Saved = 11
kind_status Source = 12
