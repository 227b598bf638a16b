-- With rendering off and no row latched.
use Rattle.std.proofs.Common.{◌≡◌, true, false, not, Option, Some, None, refl, ap, sym, ◌∙◌, inl}
use Rattle.std.specs.Option.{is_some}
use Rattle.std.proofs.lemmas.Bool.{true≢false}
use Rattle.nj_catchup.proofs.blank.blank_end.Goals as goal

none-where : {X : Type 0} (r : Option X) → is_some r ≡ false → r ≡ None
none-where None h = refl
none-where (Some x) h = absurd (true≢false h)

pub returns-then-is_none-clause-blank : goal.returns-then-is_none-clause-blank
returns-then-is_none-clause-blank c = λ n from below. record {
  between = c.hidden_end.ensures.between n from below;
  still = inl (
    sym c.is_rendering.ensures
        ∙ c.if-not-is_rendering.true,
    none-where c.args.screen.now.sprite_row (c.is_none.ensures ∙ ap not c.if-is_none.true),
  );
}
