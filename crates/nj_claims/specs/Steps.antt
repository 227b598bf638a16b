-- What each step of a claim makes of the claimer's view.
use Rattle.std.specs.Prelude.{◌≡◌, ℕ, Bool, true, ◌+◌, ◌-◌, ◌≤◌, ◌==◌, min, zero, suc, [], ◌∷◌, ◌++◌, if◌then◌else◌}
use Rattle.std.specs.List.{All}
use Rattle.atomic_table.specs.Table.{Step, Me}
use Rattle.nj_claims.specs.declared.view.View.{View}
use Rattle.nj_claims.specs.declared.view.Flight.{Flight}
use Rattle.nj_claims.specs.declared.view.Flight.TheVariants.{Idle, Looking, Found}
use Rattle.nj_claims.specs.Tables.{slot_from}

-- a flight that has passed so many slots
abbrev pub looking : ℕ → ℕ → Flight
looking key zero = Idle
looking key (suc depth) = Looking key (suc depth)

-- a view in flight
abbrev pub with_flight : Flight → View → View
with_flight flight view = record view { flight = flight }

-- a view that has passed so many slots: after the last slot the flight ends, and the key is among the refused ones
abbrev pub passed : ℕ → ℕ → ℕ → View → View
passed slots key depth view =
    if depth == slots then record view { full = view.full ++ key ∷ []; flight = Idle }
    else with_flight (looking key depth) view

-- a view after a slot that holds its key or another
abbrev pub probed : ℕ → ℕ → ℕ → Bool → View → View
probed slots key depth is_own view =
    if is_own then with_flight (Found key (slot_from slots key depth)) view else passed slots key (depth + 1) view

-- a view after a load of the key word of the next slot: an empty slot changes nothing
abbrev pub after_look : ℕ → ℕ → ℕ → ℕ → View → View
after_look slots key depth held view = if held == 0 then view else probed slots key depth (held == key) view

-- a view after a try to put the key into the next slot: where it was empty it has the key now
abbrev pub after_put : ℕ → ℕ → ℕ → ℕ → View → View
after_put slots key depth held view =
    if held == 0 then probed slots key depth true view else probed slots key depth (held == key) view

-- a view after the owner was lowered to the number
abbrev pub after_own : ℕ → ℕ → ℕ → View → View
after_own key number owner view = record view {
  claims = view.claims ++ (key, number) ∷ [];
  seen = view.seen ++ (key, min owner number) ∷ [];
  flight = Idle;
}

-- a view with one pass more out
abbrev pub lent_view : View → View
lent_view view = record view { out = view.out + 1 }

-- the view of that pass: it has seen as much, and claimed nothing
abbrev pub given_view : View → View
given_view view = record view { claims = []; full = []; flight = Idle; out = 0 }

-- two views as one, with one pass less out
abbrev pub joined_view : View → View → View
joined_view view other = record view {
  claims = view.claims ++ other.claims;
  seen = view.seen ++ other.seen;
  full = view.full ++ other.full;
  out = view.out - 1;
}

-- what a load tells
abbrev pub looks : ℕ → ℕ → ℕ → Step ℕ → Me ℕ View → ℕ → Me ℕ View → Type 0
looks slots key depth st me held me' = me' ≡ (after_look slots key depth held me.0, me.1)

-- what a try to put the key tells
abbrev pub puts : ℕ → ℕ → ℕ → Step ℕ → Me ℕ View → ℕ → Me ℕ View → Type 0
puts slots key depth st me held me' = me' ≡ (after_put slots key depth held me.0, me.1)

-- what a step on the owner tells: the lesser of the owner and the number is at most each number seen for the key
pub record Owns (key number most : ℕ) (me : Me ℕ View) (owner : ℕ) (me' : Me ℕ View) : Type 0 where
  pub view : me' ≡ (after_own key number owner me.0, me.1)
  pub seen : All (λ claim. claim.0 ≡ key → min owner number ≤ claim.1) me.0.seen
  pub first : min owner number ≤ most

-- the same, of a step
abbrev pub owns : ℕ → ℕ → ℕ → Step ℕ → Me ℕ View → ℕ → Me ℕ View → Type 0
owns key number most st me owner me' = Owns key number most me owner me'
