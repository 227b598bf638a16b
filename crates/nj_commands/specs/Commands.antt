-- The commands that need no search: the work of each, and the names of its files. Our own.
use Rattle.std.specs.Prelude.{ℕ, List, [], ◌++◌}
use Rattle.nj_commands.specs.Asm.{asm_work}
use Rattle.nj_commands.specs.Clean.{clean_work}
use Rattle.nj_commands.specs.Play.{play_work}
use Rattle.nj_commands.specs.Replay.{replay_work}
use Rattle.nj_commands.specs.Trace.{trace_work}
use Rattle.nj_commands.specs.Watch.{watch_work}
use Rattle.nj_tasks.specs.Formats.{cart_format, movie_format, names_of, script_format, source_format}
use Rattle.nj_tasks.specs.Lines.{usage_line}
use Rattle.nj_tasks.specs.Work.{Work, Done, refused}
use Rattle.nj_words.specs.declared.Command.{Command}
use Rattle.nj_words.specs.declared.Command.TheVariants.{Asm, Check, Clean, Play, Replay, Resume, Search, Trace, Watch, Workload}

-- the command searches, or counts what a search stands on
abbrev pub NeedsSearch : Command → Type 0
NeedsSearch (Search cart script start options) = Unit {0}
NeedsSearch (Resume cart script start saved options) = Unit {0}
NeedsSearch (Check cart script) = Unit {0}
NeedsSearch (Workload number) = Unit {0}
NeedsSearch command = ⊥

-- the work of a command that needs no search; any other is refused here, as words without a reading are
unfoldable pub work_without_search : Command → Work
work_without_search (Play cart movie) = play_work cart movie
work_without_search (Replay cart script start movie) = replay_work cart script start movie
work_without_search (Asm source) = asm_work source
work_without_search (Clean cart script start movie) = clean_work cart script start movie
work_without_search (Trace cart movie frame) = trace_work cart movie frame
work_without_search (Watch cart script movie) = watch_work cart script movie
work_without_search command = Done (refused 3 usage_line)

-- the names of its files in the order in which they are read; `-` as a movie is none
abbrev pub names_without_search : Command → List (List ℕ)
names_without_search (Play cart movie) = names_of cart_format cart ++ names_of movie_format movie
names_without_search (Replay cart script start movie) =
    (names_of cart_format cart ++ names_of script_format script) ++
    (names_of movie_format start ++ names_of movie_format movie)
names_without_search (Asm source) = names_of source_format source
names_without_search (Clean cart script start movie) =
    (names_of cart_format cart ++ names_of script_format script) ++
    (names_of movie_format start ++ names_of movie_format movie)
names_without_search (Trace cart movie frame) = names_of cart_format cart ++ names_of movie_format movie
names_without_search (Watch cart script movie) =
    (names_of cart_format cart ++ names_of script_format script) ++ names_of movie_format movie
names_without_search command = []
