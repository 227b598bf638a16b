-- Each owner is an earlier step or this one.
use Rattle.std.proofs.Common.{◌<◌, ◌≤◌, ⊎_elim, ℕ, List, map, sym, ap, subst, get_or, if◌then◌else◌}
use Rattle.std.proofs.lemmas.Bool.{cases_lt, lt-ltb, le-ltb}
use Rattle.std.proofs.lemmas.List.Elements.{All-map, All-from_get_or, All-same}
use Rattle.std.specs.List.{All}
use Rattle.nj_claims.specs.Tables.{entries_in}
use Rattle.nj_seen.specs.Held.{first_claim, published, published_entry}
use Rattle.nj_seen_tests.proofs.forgetting.publish_step.Goals as goal

below : (step owner : ℕ) → step < first_claim → published step owner < first_claim
below step owner lt =
    ⊎_elim (λ (early : owner < first_claim). subst (λ (o : ℕ). o < first_claim)
    (sym (ap (λ b. if b then owner else step) (lt-ltb owner first_claim early))) early)
    (λ (claim : first_claim ≤ owner). subst (λ (o : ℕ). o < first_claim)
    (sym (ap (λ b. if b then owner else step) (le-ltb owner first_claim claim))) lt)
    (cases_lt owner first_claim)

all_below : (step : ℕ) (entries : List (ℕ × ℕ)) → step < first_claim
    → All (λ entry. entry.1 < first_claim) (map (published_entry step) entries)
all_below step entries lt =
    All-map (λ entry. entry.1 < first_claim) (published_entry step) entries
    (All-from_get_or (λ entry. published step entry.1 < first_claim) entries (0, 0)
    (λ i _. below step (let entry : ℕ × ℕ = get_or entries i (0, 0) in entry.1) lt))

pub returns-clause-steps : goal.returns-clause-steps
returns-clause-steps c =
    All-same (λ entry. entry.1 < first_claim) (entries_in c.publish.new.words) _ c.publish.ensures.entries
    (all_below c.args.step (entries_in c.args.words.now) c.requires.step)
