-- Command lines that say the same but for their number of workers. Our own.
use Rattle.std.specs.Prelude.{◌≡◌, List, [], ◌∷◌, Some, codes, if◌then◌else◌}
use Rattle.std.specs.Str.{bytes_eq}
use Rattle.nj_outside.specs.Told.{Files}
use Rattle.nj_words.specs.Commands.{reading}
use Rattle.nj_words.specs.Grammar.{Says}
use Rattle.nj_words.specs.Words.{Piece, Word, name, option}
use Rattle.nj_words.specs.declared.Command.{Command}
use Rattle.nj_app.specs.Answer.{answer}

-- what was said beside the number of workers
abbrev pub beside_workers : List Piece → List Piece
beside_workers [] = []
beside_workers (name word ∷ said) = name word ∷ beside_workers said
beside_workers (option label value ∷ said) =
    if bytes_eq label (codes "workers") then beside_workers said else option label value ∷ beside_workers said

-- two command lines that can be read, of one command, and that say the same names and options but for `--workers`
pub record AreOneBesideWorkers (words others : List Word) : Type 0 where
  pub command : Word
  pub rest : List Word
  pub other_rest : List Word
  pub is : words ≡ command ∷ rest
  pub other_is : others ≡ command ∷ other_rest
  pub said : List Piece
  pub other_said : List Piece
  pub says : Says rest said
  pub other_says : Says other_rest other_said
  pub same : beside_workers said ≡ beside_workers other_said
  pub read : Command
  pub other_read : Command
  pub reads : reading words ≡ Some read
  pub other_reads : reading others ≡ Some other_read

-- such command lines have one answer over any files: the number of workers changes nothing of it
abbrev pub WorkersChangeNoAnswer : Type 0
WorkersChangeNoAnswer = (words others : List Word) (files : Files) → AreOneBesideWorkers words others →
    answer words files ≡ answer others files
