use Rattle.std.proofs.Common.{◌≡◌, ◌≤◌, ◌+◌, ◌-◌, ◌*◌, length, take, get_or, set, ap, sym, ◌∙◌, subst, arith}
use Rattle.std.proofs.lemmas.List.{get_or_default, length-set, take-set}
use Rattle.nj_game.specs.Words.{judged_of}
use Rattle.nj_replay.specs.Replay.{replayed_of}
use Rattle.nj_clean.specs.Presses.{press_at, without, released}
use Rattle.nj_clean.specs.Sweeps.{wins}
use Rattle.nj_clean.specs.Bench.{plan_in, StandsAt}
use Rattle.nj_clean.proofs.Tries.{wins_judged, reward_judged, tried_won, tried_lost, put_back, alters_none, alters_set, alters_same}
use Rattle.nj_clean.proofs.sweeping.try_press.Goals as goal

pub judge_word-judged-requires-clause-stands : goal.judge_word-judged-requires-clause-stands
judge_word-judged-requires-clause-stands g c =
    subst (λ w. StandsAt (plan_in c.args.setting) w c.args.bench.now)
    (sym (ap (take c.args.step) c.as_slice.ensures.value
    ∙ take-set c.args.won.now.word.items c.args.step c.without.result)) c.requires.stands

pub judge_word-judged-requires-clause-within : goal.judge_word-judged-requires-clause-within
judge_word-judged-requires-clause-within g c = omega (
  arith,
  ap length c.as_slice.ensures.value,
  length-set c.args.won.now.word.items c.args.step c.without.result,
  c.requires.step,
)

pub returns-then-is_win-clause-word : goal.returns-then-is_win-clause-word
returns-then-is_win-clause-word g c =
    let plan = plan_in c.args.setting in
    let word = c.args.won.now.word.items in
    let p = press_at c.args.step c.args.button in
    let pad : c.index-pad.result.now ≡ get_or word c.args.step 0 =
    c.index-pad.ensures ∙ get_or_default _ _ _ 0 c.requires.step in
    let changed : set word c.args.step c.without.result ≡ released word p =
    ap (λ x. set word c.args.step x) (c.without.ensures ∙ ap (without c.args.button) pad) in
    ap (λ v. v.items) c.set_reward.ensures.word
    ∙ changed
    ∙ sym (tried_won plan word p c.judge_word-judged.result
    (c.judge_word-judged.ensures.judged ∙ ap (judged_of plan) (c.as_slice.ensures.value ∙ changed))
    (sym c.is_win.ensures ∙ c.if-is_win.true))

pub returns-then-is_win-clause-won : goal.returns-then-is_win-clause-won
returns-then-is_win-clause-won g c =
    let plan = plan_in c.args.setting in
    let word = c.args.won.now.word.items in
    let judged = c.judge_word-judged.ensures.judged ∙ ap (judged_of plan) c.as_slice.ensures.value in
    let kept : c.set_reward.new.won.word.items ≡ set word c.args.step c.without.result =
    ap (λ v. v.items) c.set_reward.ensures.word in
    record {
      wins_is =
          ap (wins plan) kept ∙ wins_judged plan (set word c.args.step c.without.result) c.judge_word-judged.result
          judged ∙ sym c.is_win.ensures ∙ c.if-is_win.true;
      reward_is =
          c.set_reward.ensures.reward
          ∙ reward_judged plan (set word c.args.step c.without.result) c.judge_word-judged.result judged
          ∙ ap (λ w. (let r = replayed_of plan w in r.reward)) (sym kept);
    }

pub returns-then-is_win-clause-alters : goal.returns-then-is_win-clause-alters
returns-then-is_win-clause-alters g c =
    let word = c.args.won.now.word.items in
    alters_same c.args.step word (set word c.args.step c.without.result) c.set_reward.new.won.word.items
    (ap (λ v. v.items) c.set_reward.ensures.word)
    (alters_set c.args.step word c.without.result)

pub returns-else-is_win-clause-word : goal.returns-else-is_win-clause-word
returns-else-is_win-clause-word g c =
    let plan = plan_in c.args.setting in
    let word = c.args.won.now.word.items in
    let p = press_at c.args.step c.args.button in
    let pad : c.index-pad.result.now ≡ get_or word c.args.step 0 =
    c.index-pad.ensures ∙ get_or_default _ _ _ 0 c.requires.step in
    let changed : set word c.args.step c.without.result ≡ released word p =
    ap (λ x. set word c.args.step x) (c.without.ensures ∙ ap (without c.args.button) pad) in
    put_back word c.args.step c.without.result c.index-pad.result.now pad
    ∙ sym (tried_lost plan word p c.judge_word-judged.result
    (c.judge_word-judged.ensures.judged ∙ ap (judged_of plan) (c.as_slice.ensures.value ∙ changed))
    (sym c.is_win.ensures ∙ c.if-is_win.false))

pub returns-else-is_win-clause-won : goal.returns-else-is_win-clause-won
returns-else-is_win-clause-won g c =
    let plan = plan_in c.args.setting in
    let word = c.args.won.now.word.items in
    let pad : c.index-pad.result.now ≡ get_or word c.args.step 0 =
    c.index-pad.ensures ∙ get_or_default _ _ _ 0 c.requires.step in
    let back = put_back word c.args.step c.without.result c.index-pad.result.now pad in
    record {
      wins_is = ap (wins plan) back ∙ c.requires.won.wins_is;
      reward_is = c.requires.won.reward_is ∙ ap (λ w. (let r = replayed_of plan w in r.reward)) (sym back);
    }

pub returns-then-is_win-clause-stands : goal.returns-then-is_win-clause-stands
returns-then-is_win-clause-stands g c =
    subst (λ w. StandsAt (plan_in c.args.setting) w c.judge_word-judged.new.self)
    (ap (take c.args.step) c.as_slice.ensures.value
    ∙ take-set c.args.won.now.word.items c.args.step c.without.result) c.judge_word-judged.ensures.stands

pub returns-then-is_win-clause-frames : goal.returns-then-is_win-clause-frames
returns-then-is_win-clause-frames g c =
    subst (λ n. c.judge_word-judged.new.steps
    ≤ c.args.steps.now + c.args.setting.script.now.hold * (n - c.args.step))
    (ap length c.as_slice.ensures.value
    ∙ length-set c.args.won.now.word.items c.args.step c.without.result) c.judge_word-judged.ensures.frames

pub returns-then-is_win-clause-never_falls : goal.returns-then-is_win-clause-never_falls
returns-then-is_win-clause-never_falls g c = c.judge_word-judged.ensures.never_falls

pub returns-else-is_win-clause-stands : goal.returns-else-is_win-clause-stands
returns-else-is_win-clause-stands g c =
    subst (λ w. StandsAt (plan_in c.args.setting) w c.judge_word-judged.new.self)
    (ap (take c.args.step) c.as_slice.ensures.value
    ∙ take-set c.args.won.now.word.items c.args.step c.without.result) c.judge_word-judged.ensures.stands

pub returns-else-is_win-clause-frames : goal.returns-else-is_win-clause-frames
returns-else-is_win-clause-frames g c =
    subst (λ n. c.judge_word-judged.new.steps
    ≤ c.args.steps.now + c.args.setting.script.now.hold * (n - c.args.step))
    (ap length c.as_slice.ensures.value
    ∙ length-set c.args.won.now.word.items c.args.step c.without.result) c.judge_word-judged.ensures.frames

pub returns-else-is_win-clause-never_falls : goal.returns-else-is_win-clause-never_falls
returns-else-is_win-clause-never_falls g c = c.judge_word-judged.ensures.never_falls

pub returns-else-is_win-clause-alters : goal.returns-else-is_win-clause-alters
returns-else-is_win-clause-alters g c =
    let word = c.args.won.now.word.items in
    let pad : c.index-pad.result.now ≡ get_or word c.args.step 0 =
    c.index-pad.ensures ∙ get_or_default _ _ _ 0 c.requires.step in
    alters_same c.args.step word word (set (set word c.args.step c.without.result) c.args.step c.index-pad.result.now)
    (put_back word c.args.step c.without.result c.index-pad.result.now pad) (alters_none c.args.step word)
