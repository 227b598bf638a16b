-- Steps of the loops that fill the parser's command.
use Rattle.std.proofs.Common.{◌≡◌, ◌∙◌, ◌<◌, ◌+◌, ℕ, sym, ap, List, [], ◌∷◌, ◌++◌, map, length, take, slice_index_or, append_assoc}
use Rattle.std.specs.Borrow.{Bor}
use Rattle.std.proofs.lemmas.List.{map-append, take_more}
use Rattle.clap.specs.Walk.{Rule, texts}
use Rattle.clap.specs.Simple.{App, new_rule, with_rule}
use Rattle.nj_words.specs.Words.{Word}
use Rattle.nj_words.specs.Parser.{app_with, option_rule}

-- one more rule
pub rule_more : (f : Word → Rule) (before : List Rule) (xs : List (Bor Word)) (i : ℕ) (d : Bor Word) → i < length xs
    → with_rule (app_with (before ++ map f (texts (take i xs)))) (f (slice_index_or xs i d).now)
    ≡ app_with (before ++ map f (texts (take (i + 1) xs)))
rule_more f before xs i d lt =
    ap app_with (append_assoc before (map f (texts (take i xs))) (f (slice_index_or xs i d).now ∷ [])
    ∙ ap (λ rs. before ++ rs) (sym (ap (map f) (map-append (λ s. s.now) (take i xs) (slice_index_or xs i d ∷ []))
    ∙ map-append f (texts (take i xs)) ((slice_index_or xs i d).now ∷ []))
    ∙ ap (λ ys. map f (texts ys)) (sym (take_more xs i d lt))))

pub name_step : (xs : List (Bor Word)) (i : ℕ) (d : Bor Word) (old new : App) → i < length xs
    → old ≡ app_with (map new_rule (texts (take i xs)))
    → new ≡ with_rule old (new_rule (slice_index_or xs i d).now)
    → new ≡ app_with (map new_rule (texts (take (i + 1) xs)))
name_step xs i d old new lt so_far more =
    more ∙ ap (λ app. with_rule app (new_rule (slice_index_or xs i d).now)) so_far ∙ rule_more new_rule [] xs i d lt

pub option_step : (before : List Rule) (xs : List (Bor Word)) (i : ℕ) (d : Bor Word) (old new : App) → i < length xs
    → old ≡ app_with (before ++ map option_rule (texts (take i xs)))
    → new ≡ with_rule old (option_rule (slice_index_or xs i d).now)
    → new ≡ app_with (before ++ map option_rule (texts (take (i + 1) xs)))
option_step before xs i d old new lt so_far more =
    more ∙ ap (λ app. with_rule app (option_rule (slice_index_or xs i d).now)) so_far
    ∙ rule_more option_rule before xs i d lt
