-- The new byte tells each of its three bits.
use Rattle.std.proofs.Common.{◌≡◌, ℕ, ◌+◌, ◌*◌, ◌/◌, ◌%◌, ◌||◌, ◌==◌, Bool, true, false, nat_le, refl, ap, ◌∙◌, arith}
use Rattle.std.proofs.lemmas.Bool.Decides.{nat_tests}
use Rattle.nj_cpu.specs.Walk.{Watched}
use mir.Val.{bool_byte}
use Rattle.nj_cpu.proofs.state.Rises.turn.Goals as goal

-- what is watched, by its byte
abbrev watch : ℕ → Watched
watch n = record { edges = record { before = nat_le 4 n; last = n / 2 % 2 == 1 }; line = n % 2 == 1 }

told : (before last level : Bool) →
    watch (bool_byte before * 4 + bool_byte last * 2 + bool_byte level)
    ≡ record { edges = record { before = before; last = last }; line = level }
told true true true = refl
told true true false = refl
told true false true = refl
told true false false = refl
told false true true = refl
told false true false = refl
told false false true = refl
told false false false = refl

-- it rose at all where it rose before or in the last cycle
risen-at : (n : ℕ) → nat_le 2 n ≡ (nat_le 4 n || (n / 2 % 2 == 1))
risen-at n = grind (arith, nat_tests)

pub returns : goal.returns
returns c =
    let seen : Watched → Watched =
    λ w. record {
      edges = record { before = w.edges.before || w.edges.last; last = c.args.rose };
      line = c.args.level;
    } in
    told (nat_le 2 c.self.inside.marks) c.args.rose c.args.level
    ∙ ap (λ b. record { edges = record { before = b; last = c.args.rose }; line = c.args.level })
    (risen-at c.self.inside.marks)
    ∙ ap seen c.self.view_is
