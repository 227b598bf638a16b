-- The byte is that of the level alone.
use Rattle.std.proofs.Common.{◌≡◌, ℕ, ◌/◌, ◌%◌, ◌==◌, Bool, true, false, nat_eq, nat_le, refl, sym, ap, ◌∙◌, arith}
use Rattle.std.proofs.lemmas.Bool.Decides.{nat_tests}
use Rattle.nj_cpu.specs.Unit.{no_rise}
use Rattle.nj_cpu.specs.Walk.{Watched}
use mir.Val.{bool_byte}
use Rattle.nj_cpu.proofs.state.Rises.is_quiet.Goals as goal

-- what is watched, by its byte
abbrev watch : ℕ → Watched
watch n = record { edges = record { before = nat_le 4 n; last = n / 2 % 2 == 1 }; line = n % 2 == 1 }

same : (m n : ℕ) → nat_eq m n ≡ true → m ≡ n
same m n e = grind (arith, nat_tests, e)

alone : (level : Bool) → watch (bool_byte level) ≡ record { edges = no_rise; line = level }
alone true = refl
alone false = refl

pub returns : goal.returns
returns c =
    λ quiet. sym c.self.view_is ∙ ap watch (same c.self.inside.marks (bool_byte c.args.level) quiet)
    ∙ alone c.args.level
