-- Laws of the walk over a list of accesses.
use Rattle.std.proofs.Common.{◌≡◌, ℕ, ◌+◌, ◌*◌, List, [], ◌∷◌, ◌++◌, refl, add-one}
use Rattle.nj_isa.specs.Bus.{Acts}
use Rattle.nj_isa.specs.Accesses.{Access, At, ToData, PutsData, Stay, access, copies}
use Rattle.nj_isa.specs.declared.operations.Op.{Op}
use Rattle.nj_cpu.specs.Walk.{Walk, step, walk}

-- a list after another is walked from where the other ends
pub walk-append : {Held : Type 0} (acts : Acts Held) (op : Op) (xs ys : List Access) (w : Walk Held)
    → walk acts op (xs ++ ys) w ≡ walk acts op ys (walk acts op xs w)
walk-append acts op [] ys w = refl
walk-append acts op (x ∷ xs) ys w = walk-append acts op xs ys (step acts op x w)

-- the copy of one byte more
pub walk-copies : {Held : Type 0} (acts : Acts Held) (op : Op) (page n : ℕ) (w : Walk Held)
    → walk acts op (copies page (n + 1)) w
    ≡ walk acts op (access (At (page * 256 + n)) ToData Stay ∷ access (At 0x2004) PutsData Stay ∷ [])
    (walk acts op (copies page n) w)
unfolding copies
walk-copies acts op page n w =
    rw add-one
    (walk-append acts op (copies page n)
    (access (At (page * 256 + n)) ToData Stay ∷ access (At 0x2004) PutsData Stay ∷ []) w)
