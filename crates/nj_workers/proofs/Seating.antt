-- Hands for all takers.
use Rattle.std.proofs.Common.{◌≡◌, ℕ, ◌+◌, List, [], ◌∷◌, ◌++◌, length, refl, sym, ap, ◌∙◌, subst, arith, length-append}
use Rattle.std.specs.Prelude.{map, reverse}
use Rattle.std.specs.List.{All}
use Rattle.std.proofs.lemmas.List.{reverse-reverse}
use Rattle.std.proofs.lemmas.List.Elements.{All-nil, All-push}
use Rattle.nj_claims.specs.Passes.{TableView, PassView, first_pass, lent_pass, IsGiven}
use Rattle.nj_pieces.specs.declared.parts.Taker.{Taker}
use Rattle.nj_machine.specs.State.{State, rom_of, power_on}
use Rattle.nj_game.specs.Plan.{Plan}
use Rattle.nj_expand.specs.Held.{Held}
use Rattle.nj_expand.specs.Front.{rom_in}
use Rattle.nj_hands.specs.declared.hand.WorkEnd.{WorkEnd}
use Rattle.nj_workers.specs.Desks.{IsSeated}
use Rattle.nj_workers.proofs.Together.{taker_of}
use Rattle.nj_workers.proofs.Sitting.{still_all}

-- a machine at power-on is of the cartridge
pub of_cartridge : (plan : Plan) (machine : State) → machine ≡ power_on plan.cartridge → rom_of machine ≡ rom_in plan
unfolding rom_in
of_cartridge plan machine is = ap rom_of is

-- none has a hand yet
pub seated_none : (table : TableView) (held : Held) (ends : List WorkEnd) (takers turned : List Taker) → ends ≡ []
    → turned ≡ reverse takers
    → All (IsSeated table held) ends × (map taker_of ends ++ reverse turned ≡ takers)
seated_none table held ends takers turned none is = (
  subst (All (IsSeated table held)) (sym none) (All-nil (IsSeated table held)),
  ap (λ (es : List WorkEnd). map taker_of es ++ reverse turned) none ∙ ap reverse is ∙ reverse-reverse takers,
)

-- what was split from the first pass, which has claimed and seen nothing
pub record IsBlank (table : TableView) (pass : PassView) : Type 0 where
  pub own : pass.table ≡ table.id
  pub claims : pass.claims ≡ []
  pub seen : pass.seen ≡ []
  pub full : pass.full ≡ []

pub blank_given : (table : TableView) (pass given : PassView) (n : ℕ) → pass ≡ record (first_pass table.id) { out = n }
    → IsGiven pass given → IsBlank table given
blank_given table pass given n is from = record {
  own = from.table ∙ ap (λ (p : PassView). p.table) is;
  claims = from.claims;
  seen = from.seen ∙ ap (λ (p : PassView). p.seen) is;
  full = from.full;
}

-- one hand more
pub seated_more : (table : TableView) (held : Held) (ends next : List WorkEnd) (end : WorkEnd)
    (takers rest all : List Taker) → end.hand.search.now ≡ held → rom_of end.hand.machine ≡ rom_in held.plan
    → IsBlank table end.hand.pass → end.rows.items ≡ [] → All (IsSeated table held) ends
    → map taker_of ends ++ reverse takers ≡ all → takers ≡ rest ++ end.hand.taker ∷ []
    → next ≡ ends ++ end ∷ [] → All (IsSeated table held) next × (map taker_of next ++ reverse rest ≡ all)
seated_more table held ends next end takers rest all search cartridge blank rows seated whole takers_are next_is = (
  subst (All (IsSeated table held)) (sym next_is) (All-push (IsSeated table held) ends end seated (record {
    search = search;
    cartridge = cartridge;
    own = blank.own;
    claims = blank.claims;
    seen = blank.seen;
    full = blank.full;
    rows = rows;
  })),
  still_all taker_of ends next end end.hand.taker takers rest all refl next_is takers_are whole,
)

-- one pass more is out
pub lent_more : (table : TableView) (pass lent : PassView) (ends next : List WorkEnd) (end : WorkEnd)
    → pass ≡ record (first_pass table.id) { out = length ends } → lent ≡ lent_pass pass
    → next ≡ ends ++ end ∷ [] → lent ≡ record (first_pass table.id) { out = length next }
lent_more table pass lent ends next end is lent_is next_is =
    let many : length ends + 1 ≡ length next =
    (let e = ap length next_is in omega (arith, length-append ends (end ∷ []))) in
    lent_is ∙ ap lent_pass is ∙ ap (λ (n : ℕ). record (first_pass table.id) { out = n }) many
