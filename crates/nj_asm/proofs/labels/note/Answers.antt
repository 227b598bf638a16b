-- The map has one label more.
use Rattle.std.proofs.Common.{sym, ap, ◌∙◌, string_bytes}
use Rattle.std.specs.Option.{is_some}
use Rattle.std.proofs.lemmas.Map.Text.{hash_map_updates_text}
use Rattle.nj_asm.specs.Assembly.{homes}
use Rattle.nj_asm.proofs.LabelLemmas.{noted, none_is}
use Rattle.nj_asm.proofs.labels.note.Goals as goal

pub returns : goal.returns
returns c = λ q.
    hash_map_updates_text (string_bytes c.in_ok-key.key) c.args.labels.now c.insert.new.self _
    c.in_ok-insert.ensures.updates q
    ∙ noted (homes c.args.labels.now) (string_bytes c.in_ok-key.key) c.in-Some.name q c.args.label.now c.args.home
    (c.in_ok-key.ensures.ok ∙ c.as_str.ensures) c.in-Some.is
    (none_is _ (ap is_some (sym c.home_of.ensures) ∙ sym c.is_some.ensures ∙ c.if-is_some.false))
