-- What the states of a search's fronts take of its budget. All of it is this project's own.
use Rattle.std.specs.Prelude.{◌≡◌, ◌≤◌, ℕ, ◌+◌, ◌*◌, length}
use Rattle.nj_search_defs.specs.Game.{Bounds}
use Rattle.nj_game.specs.Plan.{Plan}
use Rattle.nj_expand.specs.Front.{size_in}
use Rattle.nj_expand.specs.Held.{Held, kept_in}
use Rattle.nj_plan.specs.Plans.{Planned, bounds_in}

-- the bytes of the states of so many words: an image and 16 for its place in the trail, for each
abbrev pub bytes_of : Plan → ℕ → ℕ
bytes_of plan words = words * (size_in plan + 16)

-- the states of a full front take at most half of the budget
abbrev pub FullFrontsTakeHalf : Type 0
FullFrontsTakeHalf = (planned : Planned)
    → 2 * bytes_of planned.plan (let b : Bounds = bounds_in planned in b.most) ≤ planned.limits.budget

-- in a step, the states of the front and of the words that are kept, the next front, take together at most the budget
abbrev pub BothFrontsFit : Type 0
BothFrontsFit = (planned : Planned) (held : Held) → held.plan ≡ planned.plan → held.bounds ≡ bounds_in planned
    → length held.state.front ≤ held.bounds.most
    → bytes_of held.plan (length held.state.front) + bytes_of held.plan (length (kept_in held)) ≤ planned.limits.budget
