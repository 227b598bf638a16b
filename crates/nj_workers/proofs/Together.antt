-- All hands of a step, before they work and after.
use Rattle.std.proofs.Common.{◌≡◌, ℕ, ◌+◌, ◌≤◌, false, List, [], ◌∷◌, length, get_or, refl, sym, ap, ◌∙◌, subst, arith}
use Rattle.std.specs.Prelude.{map}
use Rattle.std.specs.List.{All, sum_by, range_with_len}
use Rattle.std.proofs.lemmas.List.{length-map}
use Rattle.std.proofs.Math.ListN.{get_or-map}
use Rattle.std.proofs.lemmas.List.Elements.{All-nil, All-cons, All-head, All-tail, All-map}
use Rattle.nj_claims.specs.Passes.{TableView}
use Rattle.nj_pieces.specs.declared.parts.Pieces.{Pieces}
use Rattle.nj_pieces.specs.declared.parts.Taker.{Taker}
use Rattle.nj_pieces.specs.Takers.{count_of, workers_of, number_of, taken_of, IsTakerOf, AreTakersOf}
use Rattle.nj_expand.specs.Held.{Held}
use Rattle.nj_expand.specs.Front.{rom_in}
use Rattle.nj_hands.specs.declared.hand.WorkEnd.{WorkEnd}
use Rattle.nj_hands.specs.Shares.{pieces_in}
use Rattle.nj_hands.specs.Hands.{MayWork}
use Rattle.nj_workers.specs.Desks.{IsSeated, AllServed, taken_all}
use Rattle.nj_workers.proofs.Backs.{taken_weigh}

-- a worker's taker
abbrev pub taker_of : WorkEnd → Taker
taker_of end = end.hand.taker

-- what holds of all takers holds of all workers' takers
all_unmapped : (P : Taker → Type 0) (ends : List WorkEnd) (takers : List Taker) → map taker_of ends ≡ takers
    → All P takers → All (λ end. P end.hand.taker) ends
all_unmapped P ends takers same all = from_map ends (subst (All P) (sym same) all) where
  from_map : (ends : List WorkEnd) → All P (map taker_of ends) → All (λ end. P end.hand.taker) ends
  from_map [] all = All-nil (λ end. P end.hand.taker)
  from_map (end ∷ ends) all =
      All-cons (λ end. P end.hand.taker) end ends (All-head P end.hand.taker (map taker_of ends) all)
      (from_map ends (All-tail P end.hand.taker (map taker_of ends) all))

-- seated workers may work
pub may_all : (table : TableView) (pieces : Pieces) (held : Held) (ends : List WorkEnd) (takers : List Taker)
    → held.spent ≡ false → count_of pieces ≡ pieces_in held
    → All (IsSeated table held) ends → map taker_of ends ≡ takers → AreTakersOf pieces takers
    → All (λ end. MayWork table pieces end.hand) ends
may_all table pieces held ends takers spent count seated same are =
    each ends seated (all_unmapped (IsTakerOf pieces) ends takers same (λ k d within. are.each k d within)) where
      each : (ends : List WorkEnd) → All (IsSeated table held) ends → All (λ end. IsTakerOf pieces end.hand.taker) ends
          → All (λ end. MayWork table pieces end.hand) ends
      each [] seated is = All-nil (λ (end : WorkEnd). MayWork table pieces end.hand)
      each (end ∷ ends) seated is =
          let here = All-head (IsSeated table held) end ends seated in
          All-cons (λ (end : WorkEnd). MayWork table pieces end.hand) end ends
          (record {
            spent = ap (λ (h : Held). h.spent) here.search ∙ spent;
            cartridge = here.cartridge ∙ sym (ap (λ (h : Held). rom_in h.plan) here.search);
            own = here.own;
            taker = All-head (λ (end : WorkEnd). IsTakerOf pieces end.hand.taker) end ends is;
            pieces_are = count ∙ sym (ap pieces_in here.search);
          })
          (each ends (All-tail (IsSeated table held) end ends seated)
          (All-tail (λ (end : WorkEnd). IsTakerOf pieces end.hand.taker) end ends is))

-- as many as were asked for
pub many_seated : (pieces : Pieces) (workers : ℕ) (ends : List WorkEnd) (takers : List Taker)
    → map taker_of ends ≡ takers → AreTakersOf pieces takers → workers_of pieces ≡ workers → length ends ≡ workers
many_seated pieces workers ends takers same are many = sym (length-map ends taker_of) ∙ ap length same ∙ are.many ∙ many

-- none of their takers has taken a piece
pub none_all : (ends : List WorkEnd) (takers : List Taker) → map taker_of ends ≡ takers
    → All (λ taker. taken_of taker ≡ []) takers → All (λ end. taken_of end.hand.taker ≡ []) ends
none_all ends takers same none = all_unmapped (λ taker. taken_of taker ≡ []) ends takers same none

-- ---- after the work

-- they may still work
still_may : (table : TableView) (pieces : Pieces) (olds news : List WorkEnd) (counts afters : List ℕ)
    → AllServed table pieces olds news counts afters → All (λ end. MayWork table pieces end.hand) news
still_may table pieces [] [] counts afters served = All-nil (λ (end : WorkEnd). MayWork table pieces end.hand)
still_may table pieces [] (new ∷ news) counts afters served = absurd served
still_may table pieces (old ∷ olds) [] counts afters served = absurd served
still_may table pieces (old ∷ olds) (new ∷ news) [] afters served = absurd served
still_may table pieces (old ∷ olds) (new ∷ news) (count ∷ counts) [] served = absurd served
still_may table pieces (old ∷ olds) (new ∷ news) (count ∷ counts) (after ∷ afters) served =
    All-cons (λ (end : WorkEnd). MayWork table pieces end.hand) new news served.0.may
    (still_may table pieces olds news counts afters served.1)

-- with their numbers
same_numbers : (table : TableView) (pieces : Pieces) (olds news : List WorkEnd) (counts afters : List ℕ)
    → AllServed table pieces olds news counts afters
    → map number_of (map taker_of news) ≡ map number_of (map taker_of olds)
same_numbers table pieces [] [] counts afters served = refl
same_numbers table pieces [] (new ∷ news) counts afters served = absurd served
same_numbers table pieces (old ∷ olds) [] counts afters served = absurd served
same_numbers table pieces (old ∷ olds) (new ∷ news) [] afters served = absurd served
same_numbers table pieces (old ∷ olds) (new ∷ news) (count ∷ counts) [] served = absurd served
same_numbers table pieces (old ∷ olds) (new ∷ news) (count ∷ counts) (after ∷ afters) served =
    ap (λ n. n ∷ map number_of (map taker_of news)) served.0.number
    ∙ ap (λ ns. number_of old.hand.taker ∷ ns) (same_numbers table pieces olds news counts afters served.1)

-- the passes are of the table
pub passes_own : (table : TableView) (pieces : Pieces) (olds news : List WorkEnd) (counts afters : List ℕ)
    → AllServed table pieces olds news counts afters
    → All (λ end. end.hand.pass.table ≡ table.id) news
passes_own table pieces olds news counts afters served k d within =
    (still_may table pieces olds news counts afters served k d within).own

-- the takers are all takers of the pieces
pub takers_back : (table : TableView) (pieces : Pieces) (olds news : List WorkEnd) (counts afters : List ℕ)
    (takers back : List Taker) → AllServed table pieces olds news counts afters
    → map taker_of olds ≡ takers → AreTakersOf pieces takers → back ≡ map taker_of news → AreTakersOf pieces back
takers_back table pieces olds news counts afters takers back served same are back_is =
    subst (AreTakersOf pieces) (sym back_is) (record {
      many = as_many ∙ are.many;
      each = All-map (IsTakerOf pieces) taker_of news
          (λ k d within. (still_may table pieces olds news counts afters served k d within).taker);
      numbers = λ k d within.
          sym (get_or-map number_of (map taker_of news) k d) ∙ ap (λ ns. get_or ns k (number_of d)) numbers_are
          ∙ get_or-map number_of takers k d
          ∙ are.numbers k d (omega (arith, as_many));
    }) where
      numbers_are : map number_of (map taker_of news) ≡ map number_of takers
      numbers_are = same_numbers table pieces olds news counts afters served ∙ ap (map number_of) same

      as_many : length (map taker_of news) ≡ length takers
      as_many = sym (length-map (map taker_of news) number_of) ∙ ap length numbers_are ∙ length-map takers number_of

pub many_back : (table : TableView) (pieces : Pieces) (olds news : List WorkEnd) (counts afters : List ℕ)
    → AllServed table pieces olds news counts afters → length news ≡ length olds
many_back table pieces olds news counts afters served =
    sym (length-map news taker_of) ∙ sym (length-map (map taker_of news) number_of)
    ∙ ap length (same_numbers table pieces olds news counts afters served)
    ∙ length-map (map taker_of olds) number_of ∙ length-map olds taker_of

-- ---- the pieces

-- where no piece is left, each was taken as often as it was dealt
pub all_taken : (count : ℕ) (left : List ℕ) (takers : List Taker) (ends : List WorkEnd) → takers ≡ map taker_of ends
    → left ≡ []
    → ((h : ℕ → ℕ) → sum_by h left + sum_by (λ taker. sum_by h (taken_of taker)) takers
    ≡ sum_by h (range_with_len 0 count))
    → (h : ℕ → ℕ) → sum_by h (range_with_len 0 count) ≡ sum_by h (taken_all ends)
all_taken count left takers ends takers_are none whole h =
    let sum = whole h in
    let nothing : sum_by h left ≡ 0 = ap (sum_by h) none in
    let same : sum_by (λ taker. sum_by h (taken_of taker)) takers ≡ sum_by (λ taker. sum_by h (taken_of taker))
    (map taker_of ends) =
    ap (sum_by (λ taker. sum_by h (taken_of taker))) takers_are in
    omega (arith, taken_weigh h ends)

-- none was taken more often
pub none_twice : (h : ℕ → ℕ) (count : ℕ) (left : List ℕ) (takers : List Taker) (ends : List WorkEnd)
    → takers ≡ map taker_of ends
    → ((h : ℕ → ℕ) → sum_by h left + sum_by (λ taker. sum_by h (taken_of taker)) takers
    ≡ sum_by h (range_with_len 0 count))
    → sum_by h (taken_all ends) ≤ sum_by h (range_with_len 0 count)
none_twice h count left takers ends takers_are whole =
    let sum = whole h in
    let same : sum_by (λ taker. sum_by h (taken_of taker)) takers ≡ sum_by (λ taker. sum_by h (taken_of taker))
    (map taker_of ends) =
    ap (sum_by (λ taker. sum_by h (taken_of taker))) takers_are in
    omega (arith, taken_weigh h ends)
