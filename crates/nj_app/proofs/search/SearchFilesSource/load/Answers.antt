-- The game is loaded, and then the saved search, where there is a name of its file.
use Rattle.std.proofs.Common.{◌≡◌, ◌∙◌, ℕ, List, [], ◌∷◌, Contains, map, Option, Some, None, Result, Ok, Err, arith, ap, subst, sym}
use Rattle.std.proofs.lemmas.Result.{err_from_is_err_and}
use Rattle.std.specs.Borrow.{Bor}
use Rattle.nj_bytes.specs.Fnv.{fnv_of}
use Rattle.nj_outside.specs.Told.{Files}
use Rattle.nj_app.specs.Search.{Game, game_files, game_names, input_of, name_in, saved_loaded, search_files, search_names}
use Rattle.nj_tasks.specs.Stops.{Loads}
use Rattle.nj_app.specs.declared.search.SearchInput.{SearchInput}
use Rattle.nj_tasks.specs.declared.stops.Stop.{Stop}
use Rattle.nj_tasks.proofs.Serving.{among_first, among_second, first_stops, part_loads, same_stop, then_loads}
use Rattle.nj_app.proofs.search.SearchFilesSource.load.Goals as goal

module _ (files : Files) (cart script start : List ℕ) (saved : Option (Bor (List ℕ))) where
  -- a stop of the game
  game_stops : (failed : ℕ) (stop : Stop) (result : Result SearchInput Stop) → result ≡ Err stop →
      Loads files (game_files cart script start) failed (Err stop) →
      Loads files (search_files cart script start (name_in saved)) failed result
  unfolding search_files
  game_stops failed stop result e h =
      first_stops files (game_files cart script start)
      (λ said. saved_loaded (name_in saved) (input_of said)) failed stop
      result e h

  -- no saved search is read
  none_loads : (said : Game) (input : SearchInput) (failed : ℕ) → saved ≡ None → input ≡ input_of said →
      Loads files (game_files cart script start) failed (Ok said) →
      Loads files (search_files cart script start (name_in saved)) failed (Ok input)
  unfolding search_files
  none_loads said input failed none is h =
      rw (none, is) (part_loads files (game_files cart script start) input_of failed said h)

  -- one is read
  some_loads : (said : Game) (input : SearchInput) (name : Bor (List ℕ)) (result : Result SearchInput Stop)
      (before failed : ℕ) → saved ≡ Some name → input ≡ input_of said →
      Loads files (game_files cart script start) before (Ok said) →
      Loads files (saved_loaded (Some name.now) input) failed result →
      Loads files (search_files cart script start (name_in saved)) failed result
  unfolding search_files
  some_loads said input name result before failed some is h k =
      rw some (then_loads files (game_files cart script start) (λ said. saved_loaded (Some name.now) (input_of said))
      before failed said result h (rw is at k))

-- the hash of the saved search's name is that of one of the names
saved_named : (cart script start : List ℕ) (saved : Option (Bor (List ℕ))) (name : Bor (List ℕ)) (hash : ℕ) →
    saved ≡ Some name → hash ≡ fnv_of name.now →
    Contains (map fnv_of (search_names cart script start (name_in saved))) hash
saved_named cart script start saved name hash some e =
    subst (λ given. Contains (map fnv_of (search_names cart script start (name_in given))) hash) (sym some)
    (among_second (game_names cart script start) (name.now ∷ []) hash (0, omega arith, sym e))

pub returns-in_err-said-clause-loads : goal.returns-in_err-said-clause-loads
returns-in_err-said-clause-loads g c = λ files told.
    let p = err_from_is_err_and c.from_residual.result c.from_residual.ensures.1 in
    game_stops files _ _ _ c.args.self.now.saved _ c.in_err-said.field-0.0 c.from_residual.result (p.1 ∙ ap Err p.2)
    (c.in_err-said.ensures.loads files told)

pub returns-in_err-said-clause-fault_name : goal.returns-in_err-said-clause-fault_name
returns-in_err-said-clause-fault_name g c = λ fault.
    let p = err_from_is_err_and c.from_residual.result c.from_residual.ensures.1 in
    among_first (game_names _ _ _) _ _
    (c.in_err-said.ensures.fault_name (ap Err (same_stop c.from_residual.result _ _ (p.1 ∙ ap Err p.2) fault)))

pub returns-in-None-clause-loads : goal.returns-in-None-clause-loads
returns-in-None-clause-loads g c = λ files told.
    none_loads files _ _ _ c.args.self.now.saved c.in_ok-said.said c.input_of-input.result _ c.in-None.is
    c.input_of-input.ensures (c.in_ok-said.ensures.loads files told)

pub returns-in-Some-clause-loads : goal.returns-in-Some-clause-loads
returns-in-Some-clause-loads g c = λ files told.
    some_loads files _ _ _ c.args.self.now.saved c.in_ok-said.said c.input_of-input.result _ c.with_saved.result _ _
    c.in-Some.is c.input_of-input.ensures (c.in_ok-said.ensures.loads files told)
    (c.with_saved.ensures.loads files (c.in_ok-said.ensures.content ∙ told))

pub returns-in-Some-clause-fault_name : goal.returns-in-Some-clause-fault_name
returns-in-Some-clause-fault_name g c = λ fault.
    saved_named _ _ _ c.args.self.now.saved _ _ c.in-Some.is (c.with_saved.ensures.fault_name fault)
