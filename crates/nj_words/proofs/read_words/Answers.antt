use Rattle.std.proofs.Common.{◌≡◌, ◌∙◌, IfOk, Some, codes, refl, subst, sym}
use Rattle.nj_words.specs.Parser.{words_of}
use Rattle.nj_words.proofs.Making.{asm_read, check_read, clean_read, first_read, nothing_read, other_read, play_read, replay_read, resume_read, search_read, trace_read, watch_read, workload_read}
use Rattle.nj_words.proofs.read_words.Goals as goal

pub returns-in_default-clause-usage : goal.returns-in_default-clause-usage
returns-in_default-clause-usage c = λ _. nothing_read c.args.words.now c.in_default.ensures.cases

pub returns-in-play-clause-read : goal.returns-in-play-clause-read
returns-in-play-clause-read c =
    let whole = first_read c.args.words.now c.in-Some.command.now c.in-Some.rest.now c.as_str.result.now
    (codes "play") c.in-Some.ensures.cases.0 c.as_str.ensures.value c.in-play.is in
    subst (λ r. IfOk c.play.result (λ command. r ≡ Some command))
    (sym (whole ∙ play_read (words_of c.in-Some.rest.now))) c.play.ensures.read

pub returns-in-play-clause-usage : goal.returns-in-play-clause-usage
returns-in-play-clause-usage c = λ usage.
    first_read c.args.words.now c.in-Some.command.now c.in-Some.rest.now c.as_str.result.now
    (codes "play") c.in-Some.ensures.cases.0 c.as_str.ensures.value c.in-play.is
    ∙ play_read (words_of c.in-Some.rest.now) ∙ c.play.ensures.usage usage

pub returns-in-search-clause-read : goal.returns-in-search-clause-read
returns-in-search-clause-read c =
    let whole = first_read c.args.words.now c.in-Some.command.now c.in-Some.rest.now c.as_str.result.now
    (codes "search") c.in-Some.ensures.cases.0 c.as_str.ensures.value c.in-search.is in
    subst (λ r. IfOk c.search.result (λ command. r ≡ Some command))
    (sym (whole ∙ search_read (words_of c.in-Some.rest.now))) c.search.ensures.read

pub returns-in-search-clause-usage : goal.returns-in-search-clause-usage
returns-in-search-clause-usage c = λ usage.
    first_read c.args.words.now c.in-Some.command.now c.in-Some.rest.now c.as_str.result.now
    (codes "search") c.in-Some.ensures.cases.0 c.as_str.ensures.value c.in-search.is
    ∙ search_read (words_of c.in-Some.rest.now) ∙ c.search.ensures.usage usage

pub returns-in-resume-clause-read : goal.returns-in-resume-clause-read
returns-in-resume-clause-read c =
    let whole = first_read c.args.words.now c.in-Some.command.now c.in-Some.rest.now c.as_str.result.now
    (codes "resume") c.in-Some.ensures.cases.0 c.as_str.ensures.value c.in-resume.is in
    subst (λ r. IfOk c.resume.result (λ command. r ≡ Some command))
    (sym (whole ∙ resume_read (words_of c.in-Some.rest.now))) c.resume.ensures.read

pub returns-in-resume-clause-usage : goal.returns-in-resume-clause-usage
returns-in-resume-clause-usage c = λ usage.
    first_read c.args.words.now c.in-Some.command.now c.in-Some.rest.now c.as_str.result.now
    (codes "resume") c.in-Some.ensures.cases.0 c.as_str.ensures.value c.in-resume.is
    ∙ resume_read (words_of c.in-Some.rest.now) ∙ c.resume.ensures.usage usage

pub returns-in-replay-clause-read : goal.returns-in-replay-clause-read
returns-in-replay-clause-read c =
    let whole = first_read c.args.words.now c.in-Some.command.now c.in-Some.rest.now c.as_str.result.now
    (codes "replay") c.in-Some.ensures.cases.0 c.as_str.ensures.value c.in-replay.is in
    subst (λ r. IfOk c.replay.result (λ command. r ≡ Some command))
    (sym (whole ∙ replay_read (words_of c.in-Some.rest.now))) c.replay.ensures.read

pub returns-in-replay-clause-usage : goal.returns-in-replay-clause-usage
returns-in-replay-clause-usage c = λ usage.
    first_read c.args.words.now c.in-Some.command.now c.in-Some.rest.now c.as_str.result.now
    (codes "replay") c.in-Some.ensures.cases.0 c.as_str.ensures.value c.in-replay.is
    ∙ replay_read (words_of c.in-Some.rest.now) ∙ c.replay.ensures.usage usage

pub returns-in-check-clause-read : goal.returns-in-check-clause-read
returns-in-check-clause-read c =
    let whole = first_read c.args.words.now c.in-Some.command.now c.in-Some.rest.now c.as_str.result.now
    (codes "check") c.in-Some.ensures.cases.0 c.as_str.ensures.value c.in-check.is in
    subst (λ r. IfOk c.check.result (λ command. r ≡ Some command))
    (sym (whole ∙ check_read (words_of c.in-Some.rest.now))) c.check.ensures.read

pub returns-in-check-clause-usage : goal.returns-in-check-clause-usage
returns-in-check-clause-usage c = λ usage.
    first_read c.args.words.now c.in-Some.command.now c.in-Some.rest.now c.as_str.result.now
    (codes "check") c.in-Some.ensures.cases.0 c.as_str.ensures.value c.in-check.is
    ∙ check_read (words_of c.in-Some.rest.now) ∙ c.check.ensures.usage usage

pub returns-in-workload-clause-read : goal.returns-in-workload-clause-read
returns-in-workload-clause-read c =
    let whole = first_read c.args.words.now c.in-Some.command.now c.in-Some.rest.now c.as_str.result.now
    (codes "workload") c.in-Some.ensures.cases.0 c.as_str.ensures.value c.in-workload.is in
    subst (λ r. IfOk c.workload.result (λ command. r ≡ Some command))
    (sym (whole ∙ workload_read (words_of c.in-Some.rest.now))) c.workload.ensures.read

pub returns-in-workload-clause-usage : goal.returns-in-workload-clause-usage
returns-in-workload-clause-usage c = λ usage.
    first_read c.args.words.now c.in-Some.command.now c.in-Some.rest.now c.as_str.result.now
    (codes "workload") c.in-Some.ensures.cases.0 c.as_str.ensures.value c.in-workload.is
    ∙ workload_read (words_of c.in-Some.rest.now) ∙ c.workload.ensures.usage usage

pub returns-in-asm-clause-read : goal.returns-in-asm-clause-read
returns-in-asm-clause-read c =
    let whole = first_read c.args.words.now c.in-Some.command.now c.in-Some.rest.now c.as_str.result.now
    (codes "asm") c.in-Some.ensures.cases.0 c.as_str.ensures.value c.in-asm.is in
    subst (λ r. IfOk c.asm.result (λ command. r ≡ Some command))
    (sym (whole ∙ asm_read (words_of c.in-Some.rest.now))) c.asm.ensures.read

pub returns-in-asm-clause-usage : goal.returns-in-asm-clause-usage
returns-in-asm-clause-usage c = λ usage.
    first_read c.args.words.now c.in-Some.command.now c.in-Some.rest.now c.as_str.result.now
    (codes "asm") c.in-Some.ensures.cases.0 c.as_str.ensures.value c.in-asm.is
    ∙ asm_read (words_of c.in-Some.rest.now) ∙ c.asm.ensures.usage usage

pub returns-in-clean-clause-read : goal.returns-in-clean-clause-read
returns-in-clean-clause-read c =
    let whole = first_read c.args.words.now c.in-Some.command.now c.in-Some.rest.now c.as_str.result.now
    (codes "clean") c.in-Some.ensures.cases.0 c.as_str.ensures.value c.in-clean.is in
    subst (λ r. IfOk c.clean.result (λ command. r ≡ Some command))
    (sym (whole ∙ clean_read (words_of c.in-Some.rest.now))) c.clean.ensures.read

pub returns-in-clean-clause-usage : goal.returns-in-clean-clause-usage
returns-in-clean-clause-usage c = λ usage.
    first_read c.args.words.now c.in-Some.command.now c.in-Some.rest.now c.as_str.result.now
    (codes "clean") c.in-Some.ensures.cases.0 c.as_str.ensures.value c.in-clean.is
    ∙ clean_read (words_of c.in-Some.rest.now) ∙ c.clean.ensures.usage usage

pub returns-in-trace-clause-read : goal.returns-in-trace-clause-read
returns-in-trace-clause-read c =
    let whole = first_read c.args.words.now c.in-Some.command.now c.in-Some.rest.now c.as_str.result.now
    (codes "trace") c.in-Some.ensures.cases.0 c.as_str.ensures.value c.in-trace.is in
    subst (λ r. IfOk c.trace.result (λ command. r ≡ Some command))
    (sym (whole ∙ trace_read (words_of c.in-Some.rest.now))) c.trace.ensures.read

pub returns-in-trace-clause-usage : goal.returns-in-trace-clause-usage
returns-in-trace-clause-usage c = λ usage.
    first_read c.args.words.now c.in-Some.command.now c.in-Some.rest.now c.as_str.result.now
    (codes "trace") c.in-Some.ensures.cases.0 c.as_str.ensures.value c.in-trace.is
    ∙ trace_read (words_of c.in-Some.rest.now) ∙ c.trace.ensures.usage usage

pub returns-in-watch-clause-read : goal.returns-in-watch-clause-read
returns-in-watch-clause-read c =
    let whole = first_read c.args.words.now c.in-Some.command.now c.in-Some.rest.now c.as_str.result.now
    (codes "watch") c.in-Some.ensures.cases.0 c.as_str.ensures.value c.in-watch.is in
    subst (λ r. IfOk c.watch.result (λ command. r ≡ Some command))
    (sym (whole ∙ watch_read (words_of c.in-Some.rest.now))) c.watch.ensures.read

pub returns-in-watch-clause-usage : goal.returns-in-watch-clause-usage
returns-in-watch-clause-usage c = λ usage.
    first_read c.args.words.now c.in-Some.command.now c.in-Some.rest.now c.as_str.result.now
    (codes "watch") c.in-Some.ensures.cases.0 c.as_str.ensures.value c.in-watch.is
    ∙ watch_read (words_of c.in-Some.rest.now) ∙ c.watch.ensures.usage usage

pub returns-in_default-as_str-clause-usage : goal.returns-in_default-as_str-clause-usage
returns-in_default-as_str-clause-usage c = λ _.
    first_read c.args.words.now c.in-Some.command.now c.in-Some.rest.now c.as_str.result.now c.as_str.result.now
    c.in-Some.ensures.cases.0 c.as_str.ensures.value refl
    ∙ other_read c.as_str.result.now (words_of c.in-Some.rest.now) c.in_default-as_str.not-play
    c.in_default-as_str.not-search c.in_default-as_str.not-resume c.in_default-as_str.not-replay
    c.in_default-as_str.not-check c.in_default-as_str.not-workload c.in_default-as_str.not-asm
    c.in_default-as_str.not-clean c.in_default-as_str.not-trace c.in_default-as_str.not-watch
