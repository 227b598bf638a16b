-- What a claim leaves in its pass, and what its answer tells.
use Rattle.std.specs.Prelude.{◌≡◌, ℕ, ◌<◌, ◌≤◌, List, [], ◌∷◌, ◌++◌, IfSome}
use Rattle.std.specs.List.{All}
use Rattle.nj_claims.specs.declared.claimed.Claimed.{Claimed}
use Rattle.nj_claims.specs.declared.claimed.Claimed.TheVariants.{Before, Least, Full}
use Rattle.nj_claims.specs.Passes.{PassView}
use Rattle.nj_claims.specs.Tables.{owner_in}

-- a pass after a claim: the claim is noted with the lesser of the number and the owner that it met, or the key among
-- the refused ones
abbrev pub after_claim : ℕ → ℕ → Claimed → PassView → PassView
after_claim key number (Before owner) pass =
    record pass { claims = pass.claims ++ (key, number) ∷ []; seen = pass.seen ++ (key, owner) ∷ [] }
after_claim key number Least pass =
    record pass { claims = pass.claims ++ (key, number) ∷ []; seen = pass.seen ++ (key, number) ∷ [] }
after_claim key number Full pass = record pass { full = pass.full ++ key ∷ [] }

-- an owner is at most every number that the pass saw for the key, and at most the opening owner
pub record IsAtMostSeen (opening : List ℕ) (key owner : ℕ) (pass : PassView) : Type 0 where
  pub seen : All (λ entry. entry.0 ≡ key → owner ≤ entry.1) pass.seen
  pub first : IfSome (owner_in opening key) (λ first. owner ≤ first)

-- what an answer tells: Before an owner below the number, Least where the number itself is the owner then
abbrev pub IsTold : List ℕ → ℕ → ℕ → Claimed → PassView → Type 0
IsTold opening key number (Before owner) pass = (owner < number) × IsAtMostSeen opening key owner pass
IsTold opening key number Least pass = IsAtMostSeen opening key number pass
IsTold opening key number Full pass = Unit {0}
