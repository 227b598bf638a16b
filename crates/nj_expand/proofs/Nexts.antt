-- The next front: the kept, run again, are the candidates' words, states and judgements.
use Rattle.std.proofs.Common.{◌≡◌, ℕ, ◌+◌, ◌*◌, ◌/◌, ◌<◌, ◌≤◌, Bool, true, false, cond, List, [], ◌∷◌, ◌++◌, length, map, get_or, refl, ap, ap₂, sym, subst, ◌∙◌, arith}
use Rattle.std.specs.Prelude.{nat_lt}
use Rattle.std.specs.List.{All}
use Rattle.std.proofs.lemmas.List.{get_or-map, length-map}
use Rattle.std.proofs.lemmas.List.Elements.{All-head, All-tail, All-weaker, All-map}
use Rattle.nj_search_defs.specs.Game.{Word, Game}
use Rattle.nj_search_defs.specs.Candidates.{Candidate, word_of}
use Rattle.nj_search_defs.specs.Pruning.{Mark, generation, top_level, raised}
use Rattle.nj_search_defs.specs.Outcome.{State as Between, seen_of, fresh_of, state_after}
use Rattle.nj_ines.specs.Cartridge.{IsCartridge}
use Rattle.nj_machine.specs.State.{State, rom_of, power_on, ram_of, is_jammed}
use Rattle.nj_machine.specs.Image.{image_len, image_of, of_image, IsImage}
use Rattle.nj_rules.specs.declared.record.Judged.{Judged}
use Rattle.nj_rules.specs.Rules.{judged_of as judged_in}
use Rattle.nj_game.specs.Plan.{Plan}
use Rattle.nj_game.specs.Words.{state_of, status_of, judged_of, held, game_of}
use Rattle.nj_rows.specs.declared.Row.{Row}
use Rattle.nj_pool.specs.Words.{child_word, child_words, HaveParents}
use Rattle.nj_pool.specs.Front.{Front, next_front}
use Rattle.nj_candidate.specs.Rows.{row_of, judged_at}
use Rattle.nj_candidate.specs.Lawful.{AreLawful}
use Rattle.nj_candidate.specs.Front.{rom_in, size_in, image_at}
use Rattle.nj_candidate.specs.Again.{Before, before_of, statuses_of, parent_of, birth_of, state_again, image_again, judged_again, pool_again, AreRunFrom}
use Rattle.nj_expand.specs.Held.{Held, kept_in}
use Rattle.nj_expand.specs.Ranges.{IsFront}
use Rattle.nj_expand.specs.Ending.{top_of_rows}
use Rattle.nj_expand.proofs.Rising.{IsPlaced, stands}
use Rattle.nj_expand.proofs.Lifts.{map-map, top-map}

-- the front before, as the run of the kept reads it
pub before_is : (plan : Plan) (machine : State) (most : ℕ) (pool : Front) (judged shown : List Judged)
    → machine ≡ power_on plan.cartridge → IsFront plan most pool judged → shown ≡ judged
    → (let b : Before = record {
      rom = rom_of machine;
      script = plan.script;
      images = pool.images;
      statuses = statuses_of shown;
    } in b) ≡ before_of plan pool.words
unfolding rom_in judged_of
before_is plan machine most pool judged shown on front same =
    let statuses : statuses_of shown ≡ map (status_of plan) pool.words =
    ap statuses_of (same ∙ front.judged_are) ∙ map-map (λ (j : Judged). j.status.0) (judged_of plan) pool.words in
    λ i. record { rom = ap rom_of on i; script = plan.script; images = front.images i; statuses = statuses i }

-- ---- one candidate

pub laws_of : (plan : Plan) → IsCartridge plan.cartridge
    → ((p : Plan) (word : Word) (pad : ℕ) → state_of p (word ++ pad ∷ []) ≡ held p.script.hold pad (state_of p word))
    → ((p : Plan) (word : Word) (pad : ℕ) → judged_of p (word ++ pad ∷ [])
    ≡ judged_in p.script.rules.rules (ram_of (state_of p (word ++ pad ∷ []))) (status_of p word)
    (is_jammed (state_of p (word ++ pad ∷ []))))
    → ((p : Plan) (word : Word) → IsCartridge p.cartridge → of_image (rom_in p) (image_at p word) ≡ state_of p word)
    → AreLawful plan
laws_of plan nrom state judged again =
    record { again = (λ word. again plan word nrom); state = state plan; judged = judged plan }

module _ (plan : Plan) (laws : AreLawful plan) (words : List Word) where
  state_here : (c : Candidate) → IsPlaced words c
      → state_again (before_of plan words) (row_of (game_of plan) c) ≡ state_of plan (word_of c)
  unfolding state_again row_of
  state_here c placed =
      let st = stands words (c.number / 256) c.parent placed in
      ap (λ x. held plan.script.hold c.pad (of_image (rom_in plan) x))
      (get_or-map (image_at plan) words (c.number / 256) [] [] st.within ∙ ap (image_at plan) st.here)
      ∙ ap (held plan.script.hold c.pad) (laws.again c.parent)
      ∙ sym (laws.state c.parent c.pad)

  image_here : (c : Candidate) → IsPlaced words c
      → image_again (before_of plan words) (row_of (game_of plan) c) ≡ image_at plan (word_of c)
  unfolding image_again image_at
  image_here c placed = ap image_of (state_here c placed)

  status_here : (c : Candidate) → IsPlaced words c
      → get_or (map (status_of plan) words) (parent_of (row_of (game_of plan) c)) 0 ≡ status_of plan c.parent
  unfolding row_of
  status_here c placed =
      let st = stands words (c.number / 256) c.parent placed in
      get_or-map (status_of plan) words (c.number / 256) [] 0 st.within ∙ ap (status_of plan) st.here

  judged_here : (c : Candidate) → IsPlaced words c
      → judged_again (before_of plan words) (row_of (game_of plan) c) ≡ judged_of plan (word_of c)
  unfolding judged_again judged_at
  judged_here c placed =
      ap₂ (judged_at plan.script) (status_here c placed) (state_here c placed) ∙ sym (laws.judged c.parent c.pad)

  word_here : (c : Candidate) → IsPlaced words c → child_word words (birth_of (row_of (game_of plan) c)) ≡ word_of c
  unfolding row_of
  word_here c placed =
      let st = stands words (c.number / 256) c.parent placed in
      ap (λ w. w ++ c.pad ∷ []) st.here

map_agree : {X Y : Type 0} (f g : X → Y) (P : X → Type 0) → ((x : X) → P x → f x ≡ g x) → (xs : List X) → All P xs
    → map f xs ≡ map g xs
map_agree f g P same [] all = refl
map_agree f g P same (x ∷ xs) all =
    ap₂ (λ y ys. y ∷ ys) (same x (All-head P x xs all)) (map_agree f g P same xs (All-tail P x xs all))

-- ---- the kept

-- the rows are those of these candidates, whose parents stand in the front, and they are not too many
pub record AreKept (plan : Plan) (most : ℕ) (words : List Word) (ks : List Candidate) (rows : List Row) : Type 0 where
  pub placed : All (IsPlaced words) ks
  pub rows_are : rows ≡ map (row_of (game_of plan)) ks
  pub few : length ks ≤ most

module _ (plan : Plan) (laws : AreLawful plan) (words : List Word) (ks : List Candidate)
    (placed : All (IsPlaced words) ks) where
  images_next : map (image_again (before_of plan words)) (map (row_of (game_of plan)) ks)
      ≡ map (image_at plan) (map word_of ks)
  images_next =
      map-map (image_again (before_of plan words)) (row_of (game_of plan)) ks
      ∙ map_agree (λ c. image_again (before_of plan words) (row_of (game_of plan) c)) (λ c. image_at plan (word_of c))
      (IsPlaced words) (image_here plan laws words) ks placed
      ∙ sym (map-map (image_at plan) word_of ks)

  judged_next : map (judged_again (before_of plan words)) (map (row_of (game_of plan)) ks)
      ≡ map (judged_of plan) (map word_of ks)
  judged_next =
      map-map (judged_again (before_of plan words)) (row_of (game_of plan)) ks
      ∙ map_agree (λ c. judged_again (before_of plan words) (row_of (game_of plan) c)) (λ c. judged_of plan (word_of c))
      (IsPlaced words) (judged_here plan laws words) ks placed
      ∙ sym (map-map (judged_of plan) word_of ks)

  words_next : child_words words (map birth_of (map (row_of (game_of plan)) ks)) ≡ map word_of ks
  words_next =
      ap (map (child_word words)) (map-map birth_of (row_of (game_of plan)) ks)
      ∙ map-map (child_word words) (λ c. birth_of (row_of (game_of plan) c)) ks
      ∙ map_agree (λ c. child_word words (birth_of (row_of (game_of plan) c))) word_of (IsPlaced words)
      (word_here plan laws words) ks placed

-- the pool of the next front
abbrev pool_next : Plan → List ℕ → ℕ → ℕ → List Word → Front
pool_next plan base limit depth words =
    record { base = base; limit = limit; images = map (image_at plan) words; words = words; depth = depth; born = [] }

module _ (plan : Plan) (words : List Word) (most : ℕ) (ks : List Candidate) (rows : List Row)
    (kept : AreKept plan most words ks rows) where
  placed_within : (c : Candidate) → IsPlaced words c → parent_of (row_of (game_of plan) c) < length words
  unfolding row_of
  placed_within c placed = (stands words (c.number / 256) c.parent placed).within

  -- the parents of the kept stand in the front
  pub rows_within : All (λ row. parent_of row < length words) rows
  rows_within =
      subst (All (λ row. parent_of row < length words)) (sym kept.rows_are)
      (All-map (λ row. parent_of row < length words) (row_of (game_of plan)) ks
      (All-weaker (IsPlaced words) (λ c. parent_of (row_of (game_of plan) c) < length words)
      placed_within ks kept.placed))

  born_within : (before : Before) (base : List ℕ) (limit : ℕ)
      → HaveParents words (let p : Front = pool_again before base limit rows in p.born)
  unfolding pool_again
  born_within before base limit = All-map (λ birth. birth.parent < length words) birth_of rows rows_within

  pub have_parents : (before : Before) (base : List ℕ) (limit : ℕ) (other : Front)
      → other ≡ pool_again before base limit rows → HaveParents words other.born
  have_parents before base limit other is =
      subst (λ (p : Front). HaveParents words p.born) (sym is) (born_within before base limit)

module _ (plan : Plan) (laws : AreLawful plan) (most : ℕ) (pool : Front) (judged : List Judged)
    (ks : List Candidate) (rows : List Row)
    (front : IsFront plan most pool judged) (kept : AreKept plan most pool.words ks rows) where
  pub new_pool : (limit : ℕ) (other new : Front)
      → other ≡ pool_again (before_of plan pool.words) (image_at plan []) limit rows → new ≡ next_front pool other
      → new ≡ pool_next plan (image_at plan []) limit (pool.depth + 1) (map word_of ks)
  unfolding pool_again
  new_pool limit other new is next =
      next
      ∙ ap (next_front pool)
      (is ∙ ap (pool_again (before_of plan pool.words) (image_at plan []) limit) kept.rows_are)
      ∙ (λ i. record {
        base = image_at plan [];
        limit = limit;
        images = images_next plan laws pool.words ks kept.placed i;
        words = words_next plan laws pool.words ks kept.placed i;
        depth = pool.depth + 1;
        born = [];
      })

  pub new_words : (limit : ℕ) (other new : Front)
      → other ≡ pool_again (before_of plan pool.words) (image_at plan []) limit rows → new ≡ next_front pool other
      → new.words ≡ map word_of ks
  new_words limit other new is next = ap (λ p. p.words) (new_pool limit other new is next)

  pub new_front : (other new : Front) (told : List Judged) → 0 < length ks
      → AreRunFrom (before_of plan pool.words) (image_at plan []) (most * (size_in plan + 16)) rows other told
      → new ≡ next_front pool other → IsFront plan most new told
  new_front other new told some again next =
      subst (λ p. IsFront plan most p told)
      (sym (new_pool (most * (size_in plan + 16)) other new again.pool_is next))
      (record {
        nrom = front.nrom;
        images = refl;
        judged_are =
            again.judged_are ∙ ap (map (judged_again (before_of plan pool.words))) kept.rows_are
            ∙ judged_next plan laws pool.words ks kept.placed;
        some = omega (arith, length-map ks word_of, some);
        few = omega (arith, length-map ks word_of, kept.few);
        base = refl;
        size = sym (ap length front.base) ∙ front.size;
        limit = refl;
      })

-- there are as many images as words
pub image_count : (plan : Plan) (most : ℕ) (pool : Front) (judged : List Judged) → IsFront plan most pool judged
    → length pool.images ≡ length pool.words
image_count plan most pool judged front = ap length front.images ∙ length-map pool.words (image_at plan)

-- ---- the machine

pub machine_size : (plan : Plan) (machine : State) → machine ≡ power_on plan.cartridge
    → size_in plan ≡ image_len (rom_of machine)
unfolding size_in rom_in
machine_size plan machine on = ap (λ m. image_len (rom_of m)) (sym on)

pub all_images : (plan : Plan) (machine : State) (most : ℕ) (pool : Front) (judged : List Judged)
    → machine ≡ power_on plan.cartridge → IsFront plan most pool judged
    → ((word : Word) → IsImage (rom_in plan) (image_at plan word)) → All (IsImage (rom_of machine)) pool.images
unfolding rom_in
all_images plan machine most pool judged on front law =
    subst (λ m. All (IsImage (rom_of m)) pool.images) (sym on)
    (subst (All (IsImage (rom_of (power_on plan.cartridge)))) (sym front.images)
    (All-map (IsImage (rom_of (power_on plan.cartridge))) (image_at plan) pool.words
    (λ k d lt. law (get_or pool.words k d))))

-- ---- the state

-- the mark is raised by the greatest level of the rows
pub mark_next : (game : Game) (ks : List Candidate) (rows : List Row) (mark : Mark) (step tolerance top level until : ℕ)
    → rows ≡ map (row_of game) ks → top ≡ top_of_rows rows
    → level ≡ cond (nat_lt mark.level top) top mark.level
    → until ≡ cond (nat_lt mark.level top) (step + tolerance) mark.until
    → (let m : Mark = record { level = level; until = until } in m) ≡ raised game step tolerance ks mark
unfolding raised
mark_next game ks rows mark step tolerance top level until are is levels untils =
    let same : top ≡ top_level game ks = is ∙ ap top_of_rows are ∙ top-map game ks in
    let made : (t : ℕ) (b : Bool) → (let m : Mark = record {
      level = cond b t mark.level;
      until = cond b (step + tolerance) mark.until;
    } in m)
    ≡ cond b (record { level = t; until = step + tolerance }) mark =
    λ t b. elim b as (λ b. (let m : Mark = record {
      level = cond b t mark.level;
      until = cond b (step + tolerance) mark.until;
    } in m)
    ≡ cond b (record { level = t; until = step + tolerance }) mark) [
      | true ↦ refl
      | false ↦ refl
    ] in
    (λ i. record { level = levels i; until = untils i })
    ∙ made top (nat_lt mark.level top)
    ∙ ap (λ t. cond (nat_lt mark.level t) (record { level = t; until = step + tolerance }) mark) same

-- the state after the step
pub state_next : (h : Held) (new : Between) → new.step ≡ h.state.step + 1 → new.front ≡ map word_of (kept_in h)
    → new.seen ≡ seen_of h.bounds h.state
    ++ generation (game_of h.plan) (fresh_of (game_of h.plan) h.bounds h.state) ∷ []
    → new.mark ≡ raised (game_of h.plan) (h.state.step + 1) h.bounds.tolerance (kept_in h) h.state.mark
    → new ≡ state_after (game_of h.plan) h.bounds h.state (kept_in h)
unfolding state_after seen_of
state_next h new step front seen mark = λ i. record { step = step i; front = front i; seen = seen i; mark = mark i }
