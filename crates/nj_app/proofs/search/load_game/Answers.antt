-- The names are those that were given.
use Rattle.std.proofs.Common.{◌≡◌, List, ℕ, Contains, map, ap, ap₂, ◌∙◌, subst}
use Rattle.nj_bytes.specs.Fnv.{fnv_of}
use Rattle.nj_tasks.specs.Formats.{cart_format, hashed, loaded, movie_format, script_format}
use Rattle.nj_app.specs.Search.{Game, game_files, game_names}
use Rattle.nj_tasks.specs.Stops.{Loads}
use Rattle.nj_tasks.specs.Work.{both}
use Rattle.nj_app.proofs.search.load_game.Goals as goal

game_is : (cart script start a b d : List ℕ) → a ≡ cart → b ≡ script → d ≡ start →
    both (both (loaded (hashed cart_format) a) (loaded (hashed script_format) b)) (loaded movie_format d)
    ≡ game_files cart script start
unfolding game_files
game_is cart script start a b d p q r = ap₂ (λ x y. game_files x y d) p q ∙ ap (λ z. game_files cart script z) r

names_are : (cart script start a b d : List ℕ) → a ≡ cart → b ≡ script → d ≡ start →
    game_names a b d ≡ game_names cart script start
names_are cart script start a b d p q r = ap₂ (λ x y. game_names x y d) p q ∙ ap (λ z. game_names cart script z) r

pub returns-clause-loads : goal.returns-clause-loads
returns-clause-loads g c = λ files told.
    subst (λ load. Loads {A = Game} files load (g.S.Shelf.failed_read c.load.new.shelf) c.load.result)
    (game_is _ _ _ _ _ _ c.named-cart.ensures.name c.named-script.ensures.name c.named-start.ensures.name)
    (c.load.ensures.loads files told)

pub returns-clause-fault_name : goal.returns-clause-fault_name
unfolding hashed
returns-clause-fault_name g c = λ fault.
    subst (λ names. Contains (map fnv_of names) (g.S.Shelf.failed_read c.load.new.shelf))
    (names_are _ _ _ _ _ _ c.named-cart.ensures.name c.named-script.ensures.name c.named-start.ensures.name)
    (c.load.ensures.fault_name fault)
