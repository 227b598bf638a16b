use Rattle.std.proofs.Common.{◌≡◌, [], ◌∷◌, ◌++◌, ap, ap₂, sym, ◌∙◌}
use Rattle.nj_game.specs.Words.{state_of, held}
use Rattle.nj_clean.proofs.Judging.{judged_next}
use Rattle.nj_clean.proofs.bench.run_step.Goals as goal

pub returns-clause-after : goal.returns-clause-after
returns-clause-after g c plan word same before =
    let child = word ++ c.args.pad ∷ [] in
    let state : c.hold_pad.new.machine ≡ state_of plan child =
    c.hold_pad.ensures.state
    ∙ ap₂ (λ h s. held h c.args.pad s) (c.hold.ensures.value ∙ ap (λ s. s.hold) (sym same)) before.state
    ∙ sym (c.a_word_goes_on.ensures.state plan word c.args.pad) in
    record {
      state = state;
      judged_is =
          judged_next plan word child c.rules.result.now c.hold_pad.new.machine c.ram.result.now c.jammed.result
          c.args.judged c.judge.result
          (ap (λ s. s.rules) same ∙ sym c.rules.ensures.value) before.judged_is state c.ram.ensures.bytes
          c.jammed.ensures
          (c.a_word_goes_on.ensures.judged plan word c.args.pad) c.judge.ensures;
    }
