use Rattle.std.proofs.Common.{◌≡◌, ◌∙◌, sym, ap, Some, map, find, not, string_bytes, false, true}
use Rattle.std.specs.BTreeMap.{keys}
use Rattle.nj_fields.proofs.Keys.{is_unknown, find-here, find-behind}
use Rattle.nj_fields.proofs.fields.unknown_among.Goals as goal

pub returns-then-not-is_among : goal.returns-then-not-is_among
returns-then-not-is_among c =
    let p = is_unknown c.args.known.now in
    let unknown : p (string_bytes c.in-Some.key.now) ≡ true =
    ap p (sym c.as_str.ensures.value) ∙ ap not (sym c.is_among.ensures) ∙ ap not c.if-not-is_among.true in
    ap Some c.as_str-then-not-is_among.ensures.value
    ∙ find-here string_bytes p c.loop-key.key-iterator c.next.new.self c.in-Some.key.now
    (find p (map string_bytes (keys c.args.members.now))) c.in-Some.ensures.steps unknown c.loop-key.invariant.2

pub loop-key-preserved : goal.loop-key-preserved
loop-key-preserved c =
    let p = is_unknown c.args.known.now in
    let known : p (string_bytes c.in-Some.key.now) ≡ false =
    ap p (sym c.as_str.ensures.value) ∙ ap not (sym c.is_among.ensures) ∙ ap not c.if-not-is_among.false in (
      tt,
      tt,
      find-behind string_bytes p c.loop-key.key-iterator c.next.new.self c.in-Some.key.now
          (find p (map string_bytes (keys c.args.members.now))) c.in-Some.ensures.steps known c.loop-key.invariant.2,
    )
