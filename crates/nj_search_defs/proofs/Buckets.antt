-- Buckets under a quota.
use Rattle.std.proofs.Common.{◌≡◌, true, ap, refl}
use Rattle.std.proofs.lemmas.Bool.Decides.{Decides-int_eq}
use Rattle.std.proofs.lemmas.Slice.Eq.{slice_eq-Decides}
use Rattle.nj_search_defs.specs.Game.{Game}
use Rattle.nj_search_defs.specs.Candidates.{Candidate, word_of}
use Rattle.nj_search_defs.specs.Order.{in_order}
use Rattle.nj_search_defs.specs.Pruning.{is_before, is_alike, kept}
use Rattle.nj_search_defs.specs.Outcome.{fresh_of, kept_of}
use Rattle.nj_search_defs.specs.Quota.{same_values}
use Rattle.nj_search_defs.specs.Laws.{BucketsAreBounded, LargeQuotasKeepTheFirst}
use Rattle.nj_search_defs.proofs.Limited.{limited_all, limited_quota}

-- candidates of one bucket are alike with the same others
alike_same : (game : Game) (a b : Candidate) → is_alike game a b ≡ true → (c : Candidate)
    → is_alike game a c ≡ is_alike game b c
alike_same game a b is c =
    ap (λ values. same_values values (game.bucket (word_of c)))
    ((slice_eq-Decides Decides-int_eq (game.bucket (word_of a)) (game.bucket (word_of b)) (is_alike game a b) refl).0
    is)

pub buckets_are_bounded : BucketsAreBounded
unfolding kept_of kept
buckets_are_bounded game bounds state c =
    limited_quota (is_alike game) bounds.most bounds.quota (alike_same game) c
    (in_order (is_before game) (fresh_of game bounds state))

pub large_quotas_keep_the_first : LargeQuotasKeepTheFirst
unfolding kept_of kept
large_quotas_keep_the_first game bounds state large =
    limited_all (is_alike game) bounds.most bounds.quota large (in_order (is_before game) (fresh_of game bounds state))
