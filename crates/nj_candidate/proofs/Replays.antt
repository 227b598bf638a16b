-- The words of a saved front, run again from the start's state.
use Rattle.std.proofs.Common.{◌≡◌, ℕ, suc, ◌+◌, ◌*◌, ◌<◌, ◌≤◌, List, [], ◌∷◌, ◌++◌, length, map, take, get_or, ap, ap₂, sym, subst, ◌∙◌, arith, mul-suc, suc-mul, mul-le-mul_right, mul-add}
use Rattle.std.specs.List.{fold}
use Rattle.std.proofs.lemmas.List.{map_more, take_more, take_all, append-nil, append_assoc}
use Rattle.std.proofs.lemmas.List.Sums.{fold_more}
use Rattle.std.proofs.lemmas.List.FromFn.{length-map-range_with_len, get_or-map-range_with_len}
use Rattle.nj_search_defs.specs.Game.{Word}
use Rattle.nj_ines.specs.Cartridge.{IsCartridge}
use Rattle.nj_machine.specs.State.{State, Rom, rom_of, ram_of, is_jammed}
use Rattle.nj_machine.specs.Image.{image_of, of_image}
use Rattle.nj_rules.specs.declared.record.Judged.{Judged}
use Rattle.nj_rules.specs.Rules.{judged_of as judged_in}
use Rattle.nj_script.specs.Script.{Record}
use Rattle.nj_game.specs.Plan.{Plan}
use Rattle.nj_game.specs.Words.{state_of, status_of, judged_of, held}
use Rattle.nj_pool.specs.Front.{Front, with_word, empty_front, bytes_held}
use Rattle.nj_saved.specs.declared.saved.Saved.{Saved}
use Rattle.nj_saved.specs.Ranges.{words_of}
use Rattle.nj_candidate.specs.declared.again.Again.{Again}
use Rattle.nj_candidate.specs.declared.opening.Begun.{Begun}
use Rattle.nj_candidate.specs.Rows.{judged_at}
use Rattle.nj_candidate.specs.Opening.{IsBegun}
use Rattle.nj_candidate.specs.Front.{rom_in, image_at}
use Rattle.nj_candidate.specs.SavedFront.{word_at, front_in}
use Rattle.nj_candidate.specs.Resuming.{Reached, stepped, replayed, image_replayed, judged_replayed, pool_replayed, AreReplayed, pool_at, AreRunAgain}
use Rattle.nj_candidate.specs.Lawful.{AreLawful}
use Rattle.nj_candidate.proofs.Words.{told_status}
use Rattle.nj_candidate.proofs.Agains.{bytes_more}

-- the laws of words of a plan
pub laws_of : (plan : Plan) → IsCartridge plan.cartridge
    → ((p : Plan) (word : Word) (pad : ℕ) → state_of p (word ++ pad ∷ []) ≡ held p.script.hold pad (state_of p word))
    → ((p : Plan) (word : Word) (pad : ℕ) → judged_of p (word ++ pad ∷ [])
    ≡ judged_in p.script.rules.rules (ram_of (state_of p (word ++ pad ∷ []))) (status_of p word)
    (is_jammed (state_of p (word ++ pad ∷ []))))
    → ((p : Plan) (word : Word) → IsCartridge p.cartridge → of_image (rom_in p) (image_at p word) ≡ state_of p word)
    → AreLawful plan
laws_of plan nrom state judged again =
    record { again = (λ word. again plan word nrom); state = state plan; judged = judged plan }

-- ---- the pads of one word

-- one pad more
pub reached_more : (script : Record) (from : Reached) (word : Word) (i d hold : ℕ) (s moved : State) (was told : Judged)
    → i < length word → hold ≡ script.hold
    → (let r : Reached = record { state = s; judged = was } in r) ≡ replayed script from (take i word)
    → moved ≡ held hold (get_or word i d) s → told ≡ judged_at script was.status.0 moved
    → (let r : Reached = record { state = moved; judged = told } in r) ≡ replayed script from (take (i + 1) word)
unfolding stepped
reached_more script from word i d hold s moved was told lt same before ran judges =
    let is : moved ≡ held script.hold (get_or word i d) s = ran ∙ ap (λ n. held n (get_or word i d) s) same in
    (λ j. record { state = is j; judged = (judges ∙ ap (judged_at script was.status.0) is) j })
    ∙ ap (λ r. stepped script r (get_or word i d)) before
    ∙ sym (fold_more (stepped script) from word i d lt)

-- what a word of a plan leads to
abbrev pub reached : Plan → Word → Reached
reached plan word = record { state = state_of plan word; judged = judged_of plan word }

module _ (plan : Plan) (laws : AreLawful plan) where
  one_pad : (word : Word) (pad : ℕ) → stepped plan.script (reached plan word) pad ≡ reached plan (word ++ pad ∷ [])
  unfolding stepped judged_at
  one_pad word pad =
      let state : held plan.script.hold pad (state_of plan word) ≡ state_of plan (word ++ pad ∷ []) =
      sym (laws.state word pad) in
      let judged : judged_at plan.script (let j : Judged = judged_of plan word in j.status.0)
      (held plan.script.hold pad (state_of plan word)) ≡ judged_of plan (word ++ pad ∷ []) =
      ap₂ (judged_at plan.script) (told_status plan word) state ∙ sym (laws.judged word pad) in
      λ i. record { state = state i; judged = judged i }

  all_pads : (done rest : Word) → replayed plan.script (reached plan done) rest ≡ reached plan (done ++ rest)
  all_pads done [] = ap (reached plan) (sym (append-nil done))
  all_pads done (pad ∷ pads) =
      ap (λ r. fold (stepped plan.script) r pads) (one_pad done pad)
      ∙ all_pads (done ++ pad ∷ []) pads
      ∙ ap (reached plan) (append_assoc done (pad ∷ []) pads)

  -- a word that is run again from the start's state leads to what it means
  pub replayed_is : (word : Word) → replayed plan.script (reached plan []) word ≡ reached plan word
  replayed_is word = all_pads [] word

  images_are : (words : List Word)
      → map (image_replayed plan.script (reached plan [])) words ≡ map (image_at plan) words
  unfolding image_replayed image_at
  images_are words = λ i. map (λ word. image_of (let r : Reached = replayed_is word i in r.state)) words

  judged_are : (words : List Word)
      → map (judged_replayed plan.script (reached plan [])) words ≡ map (judged_of plan) words
  unfolding judged_replayed
  judged_are words = λ i. map (λ word. (let r : Reached = replayed_is word i in r.judged)) words

  -- so the pool of a front that is run again has the words' states
  pub pool_is : (from : Reached) (base : List ℕ) (limit room : ℕ) (words : List Word) (pool : Front)
      → from ≡ reached plan [] → base ≡ image_at plan [] → limit ≡ room
      → pool ≡ pool_replayed plan.script from base limit words → pool ≡ pool_at plan room words
  unfolding pool_replayed pool_at
  pool_is from base limit room words pool start same room_is is =
      is
      ∙ (λ i. pool_replayed plan.script (start i) (same i) (room_is i) words)
      ∙ (λ i. record {
        base = image_at plan [];
        limit = room;
        images = images_are words i;
        words = words;
        depth = 0;
        born = [];
      })

  -- and its judgements are theirs
  pub judged_is : (from : Reached) (words : List Word) (judged : List Judged) → from ≡ reached plan []
      → judged ≡ map (judged_replayed plan.script from) words → judged ≡ map (judged_of plan) words
  judged_is from words judged start is =
      is ∙ ap (λ r. map (judged_replayed plan.script r) words) start ∙ judged_are words

  -- all in one
  pub run_again_is : (from : Reached) (base : List ℕ) (limit room : ℕ) (words : List Word) (again : Again)
      → from ≡ reached plan [] → base ≡ image_at plan [] → limit ≡ room
      → AreReplayed plan.script from base limit words again → AreRunAgain plan room words again
  run_again_is from base limit room words again start same room_is are =
      record {
        pool = pool_is from base limit room words again.pool start same room_is are.pool;
        judged = judged_is from words again.judged.items start are.judged;
      }

  -- the state and judgement of the start
  pub start_reached : (begun : Begun) → IsBegun plan begun
      → (let r : Reached = record {
        state = of_image (rom_of begun.machine) begun.image.items;
        judged = begun.judged;
      } in r) ≡ reached plan []
  start_reached begun is =
      let state : of_image (rom_of begun.machine) begun.image.items ≡ state_of plan [] =
      ap₂ of_image is.cartridge is.image ∙ laws.again [] in
      λ i. record { state = state i; judged = is.judged i }

-- ---- the words of a saved front

pub front_count : (saved : Saved) → length (front_in saved) ≡ words_of saved
unfolding front_in
front_count saved = length-map-range_with_len (word_at saved.words saved.step) 0 (words_of saved)

pub front_at : (saved : Saved) (place : ℕ) → place < words_of saved
    → get_or (front_in saved) place [] ≡ word_at saved.words saved.step place
unfolding front_in
front_at saved place lt =
    get_or-map-range_with_len (word_at saved.words saved.step) 0 (words_of saved) place place [] lt (omega arith)

-- the word at a place ends within the pads
pub word_within : (place count step long : ℕ) → place < count → count * step ≡ long → place * step + step ≤ long
word_within place count step long lt whole =
    let next : suc place * step ≡ place * step + step = suc-mul place step in
    let most : suc place * step ≤ count * step = mul-le-mul_right step (omega (arith, lt)) in
    omega (arith, next, most, whole)

-- the words from which a front is run again, from what, over which base and within which limit
pub record Task : Type 0 where
  pub saved : Saved
  pub script : Record
  pub from : Reached
  pub base : List ℕ
  pub limit : ℕ
  pub rom : Rom
  pub steps : ℕ

-- the words before a place are run again
pub record AreRunTo (task : Task) (place : ℕ) (pool : Front) (judged : List Judged) (room : ℕ) (machine : State)
    (steps : ℕ) : Type 0 where
  pub held : pool ≡ pool_replayed task.script task.from task.base task.limit (take place (front_in task.saved))
  pub told : judged ≡ map (judged_replayed task.script task.from) (take place (front_in task.saved))
  pub bytes : bytes_held pool ≤ place * (length task.base + 16)
  pub long : room ≡ length task.base
  pub cartridge : rom_of machine ≡ task.rom
  pub frames : steps ≤ task.steps + task.script.hold * (task.saved.step * place)
  pub never_falls : task.steps ≤ steps

-- before the first word
pub first_pool : (script : Record) (from : Reached) (base given : List ℕ) (limit : ℕ) (pool : Front) → given ≡ base
    → pool ≡ empty_front given limit
    → pool ≡ pool_replayed script from base limit []
unfolding pool_replayed
first_pool script from base given limit pool same is = is ∙ ap (λ b. empty_front b limit) same

-- what such a pool has beside its states
pub record HasParts (pool : Front) (base : List ℕ) (limit : ℕ) : Type 0 where
  pub over : pool.base ≡ base
  pub most : pool.limit ≡ limit
  pub first : pool.depth ≡ 0

pub has_parts : (script : Record) (from : Reached) (base : List ℕ) (limit : ℕ) (words : List Word) (pool : Front)
    → pool ≡ pool_replayed script from base limit words → HasParts pool base limit
unfolding pool_replayed
has_parts script from base limit words pool is =
    record { over = ap (λ p. p.base) is; most = ap (λ p. p.limit) is; first = ap (λ p. p.depth) is }

-- all words are run again
pub all_words : (task : Task) (place : ℕ) (again : Again) (room : ℕ) (machine : State) (steps : ℕ)
    → words_of task.saved ≤ place
    → AreRunTo task place again.pool again.judged.items room machine steps
    → AreReplayed task.script task.from task.base task.limit (front_in task.saved) again
all_words task place again room machine steps le run =
    let all : take place (front_in task.saved) ≡ front_in task.saved =
    take_all place (front_in task.saved) (omega (arith, le, front_count task.saved)) in
    record {
      pool = run.held ∙ ap (pool_replayed task.script task.from task.base task.limit) all;
      judged = run.told ∙ ap (map (judged_replayed task.script task.from)) all;
    }

-- one state more in the pool
pool_push : (script : Record) (from : Reached) (base : List ℕ) (limit i : ℕ) (words : List Word) (word image : List ℕ)
    (old new : Front) → i < length words
    → word ≡ get_or words i [] → image ≡ image_replayed script from word
    → old ≡ pool_replayed script from base limit (take i words) → new ≡ with_word image word old
    → new ≡ pool_replayed script from base limit (take (i + 1) words)
unfolding pool_replayed
pool_push script from base limit i words word image old new lt here shown was pushed =
    let images : map (image_replayed script from) (take i words) ++ image ∷ []
    ≡ map (image_replayed script from) (take (i + 1) words) =
    ap (λ x. map (image_replayed script from) (take i words) ++ x ∷ []) (shown ∙ ap (image_replayed script from) here)
    ∙ sym (map_more (image_replayed script from) words i [] lt) in
    let all : take i words ++ word ∷ [] ≡ take (i + 1) words =
    ap (λ w. take i words ++ w ∷ []) here ∙ sym (take_more words i [] lt) in
    pushed ∙ ap (with_word image word) was
    ∙ (λ j. record { base = base; limit = limit; images = images j; words = all j; depth = 0; born = [] })

judged_push : (f : Word → Judged) (words : List Word) (i : ℕ) (word : Word) (told : Judged) (old new : List Judged)
    → i < length words → word ≡ get_or words i []
    → told ≡ f word → old ≡ map f (take i words) → new ≡ old ++ told ∷ [] → new ≡ map f (take (i + 1) words)
judged_push f words i word told old new lt here is was pushed =
    pushed ∙ ap₂ (λ xs x. xs ++ x ∷ []) was (is ∙ ap f here) ∙ sym (map_more f words i [] lt)

frames_push : (hold long i since steps after : ℕ) → steps ≤ since + hold * (long * i) → after ≤ steps + hold * long
    → after ≤ since + hold * (long * (i + 1))
frames_push hold long i since steps after before one =
    let next : long * suc i ≡ long * i + long = mul-suc long i in
    let both : hold * (long * i + long) ≡ hold * (long * i) + hold * long = mul-add hold (long * i) long in
    let e : i + 1 ≡ suc i = omega arith in
    rw (e, next) (omega (arith, before, one, both))

-- one word more
pub one_word : (task : Task) (place : ℕ) (pool pushed : Front) (judged more : List Judged) (room long : ℕ)
    (machine moved : State) (steps after : ℕ) (word image : List ℕ) (told : Judged)
    → place < words_of task.saved → AreRunTo task place pool judged room machine steps
    → word ≡ word_at task.saved.words task.saved.step place → length word ≡ task.saved.step
    → (let r : Reached = record { state = moved; judged = told } in r) ≡ replayed task.script task.from word
    → image ≡ image_of moved → length image ≡ length task.base
    → pushed ≡ with_word image word pool → bytes_held pushed ≤ bytes_held pool + (length image + 16)
    → more ≡ judged ++ told ∷ []
    → long ≡ length image → rom_of moved ≡ rom_of machine → after ≤ steps + task.script.hold * length word
    → steps ≤ after
    → AreRunTo task (place + 1) pushed more long moved after
unfolding image_replayed judged_replayed
one_word task place pool pushed judged more room long machine moved steps after word image told lt run is len reaches
    shown size pushes bytes adds same keeps takes later =
    let within : place < length (front_in task.saved) = omega (arith, lt, front_count task.saved) in
    let here : word ≡ get_or (front_in task.saved) place [] = is ∙ sym (front_at task.saved place lt) in
    let one : after ≤ steps + task.script.hold * task.saved.step =
    subst (λ n. after ≤ steps + task.script.hold * n) len takes in
    record {
      held =
          pool_push task.script task.from task.base task.limit place (front_in task.saved) word
          image pool pushed within here
          (shown ∙ ap (λ (r : Reached). image_of r.state) reaches) run.held pushes;
      told =
          judged_push (judged_replayed task.script task.from) (front_in task.saved) place word
          told judged more within here
          (ap (λ (r : Reached). r.judged) reaches) run.told adds;
      bytes = bytes_more place (length task.base) (length image) (bytes_held pool)
          (bytes_held pushed) bytes run.bytes size;
      long = same ∙ size;
      cartridge = keeps ∙ run.cartridge;
      frames = frames_push task.script.hold task.saved.step place task.steps steps after run.frames one;
      never_falls = omega (arith, run.never_falls, later);
    }
