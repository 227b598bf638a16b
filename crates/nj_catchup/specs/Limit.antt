-- How many dots may stay pending.
use Rattle.std.specs.Prelude.{◌≡◌, ◌≤◌, ◌<◌, ◌-◌, ℕ, if◌then◌else◌}
use Rattle.nj_dots.specs.declared.screen.Screen.{Screen}
use Rattle.nj_dots.specs.Screen.{nmi_line_of}
use Rattle.nj_dots.specs.Dots.{to_event}
use Rattle.nj_catchup.specs.declared.lull.Lull.{Lull}

-- how many dots may be pending: all before the next that changes the vertical blank flag, and none once an end is
-- marked
unfoldable pub limit_of : Screen → ℕ
limit_of s = if s.ended then 0 else to_event s - 1

-- the dots that are pending: those that are no longer spare
abbrev pub pending_of : Lull → ℕ
pending_of l = l.limit - l.spare

-- what is kept beside a picture tells of it: its limit, within which its pending dots are, and its NMI line
pub record IsLull (l : Lull) (s : Screen) : Type 0 where
  pub limit : l.limit ≡ limit_of s
  pub within : l.spare ≤ l.limit
  pub before_event : pending_of l < to_event s
  pub line : l.line ≡ nmi_line_of s
