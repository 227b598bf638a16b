-- A row's verdict, as the search's.
use Rattle.nj_search_defs.specs.Game.{Verdict}
use Rattle.nj_search_defs.specs.Game as search
use Rattle.nj_rows.specs.declared.Verdict3.{Verdict3}
use Rattle.nj_rows.specs.declared.Verdict3.TheVariants.{Go, Win, Fail}

-- the search's verdict that a row's tells
abbrev pub verdict_of : Verdict3 → Verdict
verdict_of Go = search.Go
verdict_of Win = search.Win
verdict_of Fail = search.Fail
