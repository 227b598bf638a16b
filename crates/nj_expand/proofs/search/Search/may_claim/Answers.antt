-- By the pads that the script names, and since no key is 0.
use Rattle.std.proofs.Common.{◌≡◌, ◌≤◌, ℕ, [], get_or, length, sym, ap, ◌∙◌, subst}
use Rattle.nj_search_defs.specs.Game.{Bounds}
use Rattle.nj_rules.specs.Pads.{named_pads}
use Rattle.nj_expand.proofs.Fronts.{few_after, word_few, word_keys, word_numbers}
use Rattle.nj_expand.proofs.search.Search.may_claim.Goals as goal

inputs : (c : goal.After-front_len-words)
    → c.args.self.now.bounds.inputs ≡ length (named_pads c.args.self.now.plan.script.inputs.sets)
inputs c = sym (ap (λ (b : Bounds). b.inputs) c.bounds-bounds.ensures.bounds) ∙ c.bounds-bounds.ensures.inputs

most : (c : goal.After-front_len-words) → c.args.self.now.bounds.inputs ≤ 256
most c = subst (λ (n : ℕ). n ≤ 256) (ap (λ (b : Bounds). b.inputs) c.bounds-bounds.ensures.bounds)
    c.bounds-bounds.ensures.few_inputs

pub returns-clause-pads : goal.returns-clause-pads
returns-clause-pads c =
    few_after c.allowed_pads_come_once.ensures.named c.args.self.now
    (get_or c.args.self.now.state.front c.args.place []) (inputs c)

pub returns-clause-few : goal.returns-clause-few
returns-clause-few c =
    word_few c.allowed_pads_come_once.ensures.named c.args.self.now c.args.place
    (get_or c.args.self.now.state.front c.args.place []) (inputs c)

pub returns-clause-keys : goal.returns-clause-keys
returns-clause-keys c =
    word_keys c.keys_tell_bytes_and_status.ensures.never_zero c.args.self.now c.args.place
    (get_or c.args.self.now.state.front c.args.place [])

pub returns-clause-numbers : goal.returns-clause-numbers
returns-clause-numbers c =
    word_numbers c.allowed_pads_come_once.ensures.named c.args.self.now c.args.place
    (get_or c.args.self.now.state.front c.args.place []) (inputs c) (most c)
