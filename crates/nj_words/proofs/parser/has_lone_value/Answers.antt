use Rattle.std.proofs.Common.{◌&&◌, arith, rules, sym, ap, ap₂, codes}
use Rattle.std.specs.Str.{bytes_eq}
use Rattle.nj_words.proofs.Lone.{lone_ends, lone_found, lone_mark, lone_next}
use Rattle.nj_words.proofs.parser.has_lone_value.Goals as goal
use Rattle.nj_words.proofs.parser.has_lone_value.Goals.{else-waits-via-then-waits+else-eq-2, else-waits-via-else-waits}

pub returns-then-eq : goal.returns-then-eq
returns-then-eq c =
    lone_mark c.args.words.now c.loop-word.word-index c.word-item.result c.as_str-word.result.now c.loop-word.waits _
    (omega arith) c.word-item.is c.as_str-word.ensures.value c.loop-word.invariant
    (search rules)

pub returns-then-eq-2 : goal.returns-then-eq-2
returns-then-eq-2 c =
    lone_found c.args.words.now c.loop-word.word-index c.word-item.result c.as_str-word.result.now c.loop-word.waits _
    (omega arith) c.word-item.is c.as_str-word.ensures.value c.loop-word.invariant
    (search rules) (search rules) (search rules)

pub loop-word-preserved : goal.loop-word-preserved
loop-word-preserved c =
    let next = lone_next c.args.words.now c.loop-word.word-index c.word-item.result c.as_str-word.result.now
    c.loop-word.waits _ (omega arith) c.word-item.is c.as_str-word.ensures.value
    c.loop-word.invariant c.is_open_option-waits.result (search rules) in
    elim c.else-waits.branch [
      | else-waits-via-then-waits+else-eq-2 w ↦
          next (ap₂ (λ a b. a && b) w.if-waits.true (sym w.if-eq-2.ensures)) c.is_open_option-waits.ensures
      | else-waits-via-else-waits w ↦
          next (ap (λ a. a && bytes_eq c.as_str-word.result.now (codes "-")) w.if-waits.false)
          c.is_open_option-waits.ensures
    ]

pub returns : goal.returns
returns c = lone_ends c.args.words.now c.loop-word.word-index c.loop-word.waits _ (omega arith) c.loop-word.invariant
