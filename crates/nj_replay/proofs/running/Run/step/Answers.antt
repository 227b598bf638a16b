use Rattle.std.proofs.Common.{◌≡◌, [], ◌∷◌, ◌++◌, ap₂, sym, ◌∙◌}
use Rattle.nj_game.specs.Words.{state_of, held}
use Rattle.nj_replay.proofs.Standing.{judged_next}
use Rattle.nj_replay.proofs.running.Run.step.Goals as goal

pub returns-clause-after : goal.returns-clause-after
returns-clause-after g c plan word same_rules same_hold before =
    let child = word ++ c.args.pad ∷ [] in
    let state : c.hold_pad.new.machine ≡ state_of plan child =
    c.hold_pad.ensures.state
    ∙ ap₂ (λ h s. held h c.args.pad s) (sym same_hold) before.state
    ∙ sym (c.a_word_goes_on.ensures.state plan word c.args.pad) in
    record {
      state = state;
      judged_is =
          judged_next plan word child c.args.rules.now c.hold_pad.new.machine c.ram.result.now c.jammed.result
          c.args.self.now.judged c.judge-self.result same_rules
          before.judged_is state c.ram.ensures.bytes c.jammed.ensures
          (c.a_word_goes_on.ensures.judged plan word c.args.pad) c.judge-self.ensures;
    }
