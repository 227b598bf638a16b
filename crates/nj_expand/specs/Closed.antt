-- What the end of a step is given where several threads made it: rows in any order and the table of claims. All of it
-- is this project's own.
use Rattle.std.specs.Prelude.{◌≡◌, ◌≢◌, ℕ, true, List, drop}
use Rattle.std.specs.List.{All, AllPairs, Contains}
use Rattle.nj_search_defs.specs.Outcome.{seen_of}
use Rattle.nj_rows.specs.declared.Row.{Row}
use Rattle.nj_rows.specs.Order.{is_win_row}
use Rattle.nj_claims.specs.Tables.{IsTable, owner_in, owner_after}
use Rattle.nj_seen.specs.Rows.{is_fresh_row}
use Rattle.nj_seen.specs.Held.{HoldsSeen, AreClaims}
use Rattle.nj_expand.specs.Held.{Held, live_rows}

-- rows of live candidates, in any order: none twice, each that wins, and each that is fresh
pub record AreRowsOf (held : Held) (rows : List Row) : Type 0 where
  pub live : All (Contains (live_rows held)) rows
  pub once : AllPairs (λ a b. a.number ≢ b.number) rows
  pub wins : All (λ row. is_win_row row ≡ true → Contains rows row) (live_rows held)
  pub fresh : All (λ row. is_fresh_row (seen_of held.bounds held.state) (live_rows held) row ≡ true
      → Contains rows row) (live_rows held)

-- a table that was opened with the newest generations of the seen keys, with all that are not forgotten or without so
-- many of the oldest of them, and closed after the claims of all live candidates, in any order
pub record IsClosedFor (held : Held) (words : List ℕ) : Type 0 where
  pub opening : List ℕ
  pub claims : List (ℕ × ℕ)
  pub older : ℕ
  pub table : IsTable words
  pub seen : HoldsSeen opening (drop older (seen_of held.bounds held.state)) held.state.step
  pub claimed : AreClaims (live_rows held) claims
  pub owners : (key : ℕ) → owner_in words key ≡ owner_after key (owner_in opening key) claims
