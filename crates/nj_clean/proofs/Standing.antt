-- What stands on the bench: images and judgements of words.
use Rattle.std.proofs.Common.{◌≡◌, ℕ, ◌+◌, ◌-◌, ◌*◌, ◌<◌, ◌≤◌, Bool, zero, suc, List, [], ◌∷◌, ◌++◌, length, take, drop, get_or, refl, ap, ap₂, sym, ◌∙◌, subst, arith, append_assoc, append-nil}
use Rattle.std.proofs.lemmas.List.{take_all, take-append-drop, drop-take}
use Rattle.std.proofs.Math.Seq.{take-suc}
use Rattle.nj_ines.specs.Cartridge.{Cartridge, IsCartridge}
use Rattle.nj_machine.specs.State.{State, power_on, rom_of, ram_of, is_jammed}
use Rattle.nj_machine.specs.Frame.{frames, play, IsReady}
use Rattle.nj_machine.specs.Image.{image_len, image_of, of_image, IsImage}
use Rattle.nj_rules.specs.declared.record.Rules.{Rules}
use Rattle.nj_rules.specs.declared.record.Judged.{Judged}
use Rattle.nj_rules.specs.Rules.{judged_of as judged_in}
use Rattle.nj_script.specs.Script.{Record}
use Rattle.nj_search_defs.specs.Game.{Word}
use Rattle.nj_game.specs.Plan.{Plan, plan_of}
use Rattle.nj_game.specs.Words.{state_of, judged_of}
use Rattle.nj_replay.specs.Replay.{IsAfter}

-- ---- images

pub is_image : (plan : Plan) (word : Word) → IsReady (state_of plan word)
    → rom_of (state_of plan word) ≡ rom_of (power_on plan.cartridge)
    → ((s : State) → IsReady s → IsImage (rom_of s) (image_of s))
    → IsImage (rom_of (power_on plan.cartridge)) (image_of (state_of plan word))
is_image plan word ready rom saved =
    subst (λ r. IsImage r (image_of (state_of plan word))) rom (saved (state_of plan word) ready)

pub state_again : (plan : Plan) (word : Word) → IsReady (state_of plan word)
    → rom_of (state_of plan word) ≡ rom_of (power_on plan.cartridge)
    → ((s : State) → IsReady s → of_image (rom_of s) (image_of s) ≡ s)
    → of_image (rom_of (power_on plan.cartridge)) (image_of (state_of plan word)) ≡ state_of plan word
state_again plan word ready rom again =
    ap (λ r. of_image r (image_of (state_of plan word))) (sym rom) ∙ again (state_of plan word) ready

pub image_length : (plan : Plan) (word : Word) → IsReady (state_of plan word)
    → rom_of (state_of plan word) ≡ rom_of (power_on plan.cartridge)
    → ((s : State) → IsReady s → length (image_of s) ≡ image_len (rom_of s))
    → length (image_of (state_of plan word)) ≡ image_len (rom_of (power_on plan.cartridge))
image_length plan word ready rom len = len (state_of plan word) ready ∙ ap image_len rom

-- an image that is loaded
pub image_at_hand : (plan : Plan) (word : Word) (machine : State) (image shown : List ℕ) →
    rom_of machine ≡ rom_of (power_on plan.cartridge) →
    image ≡ image_of (state_of plan word) → shown ≡ image →
    IsImage (rom_of (power_on plan.cartridge)) (image_of (state_of plan word)) → IsImage (rom_of machine) shown
image_at_hand plan word machine image shown rom is same known =
    subst (λ r. IsImage r shown) (sym rom) (subst (IsImage (rom_of (power_on plan.cartridge))) (sym (same ∙ is)) known)

pub loaded_at_hand : (plan : Plan) (word : Word) (machine loaded : State) (image shown : List ℕ) →
    rom_of machine ≡ rom_of (power_on plan.cartridge) →
    image ≡ image_of (state_of plan word) → shown ≡ image → loaded ≡ of_image (rom_of machine) shown →
    of_image (rom_of (power_on plan.cartridge)) (image_of (state_of plan word)) ≡ state_of plan word
    → loaded ≡ state_of plan word
loaded_at_hand plan word machine loaded image shown rom is same told again = told ∙ ap₂ of_image rom (same ∙ is) ∙ again

-- ---- the start

pub start_state : (cart : Cartridge) (script : Record) (start pads : List ℕ) (begun s : State) → begun ≡ power_on cart
    → pads ≡ start → s ≡ frames begun pads
    → state_of (plan_of cart script start) [] ≡ play cart start → s ≡ state_of (plan_of cart script start) []
start_state cart script start pads begun s on same ran law = ran ∙ ap₂ frames on same ∙ sym law

pub start_judged : (plan : Plan) (rules : Rules) (machine : State) (ram : List ℕ) (jammed : Bool) (judged : Judged) →
    rules ≡ plan.script.rules → machine ≡ state_of plan [] →
    ram ≡ ram_of machine → jammed ≡ is_jammed machine → judged ≡ judged_in rules.rules ram 0 jammed →
    judged_of plan [] ≡ judged_in plan.script.rules.rules (ram_of (state_of plan [])) 0 (is_jammed (state_of plan []))
    → judged ≡ judged_of plan []
start_judged plan rules machine ram jammed judged same is is_ram is_jam told law =
    told
    ∙ ap₂ (λ r m. judged_in r m 0 jammed) (ap (λ r. r.rules) same) (is_ram ∙ ap ram_of is)
    ∙ ap (λ j. judged_in plan.script.rules.rules (ram_of (state_of plan [])) 0 j) (is_jam ∙ ap is_jammed is)
    ∙ sym law

-- ---- more pads of a word

pub no_more : (plan : Plan) (word : Word) (m : State) (j : Judged) → IsAfter plan word m j
    → IsAfter plan (word ++ []) m j
no_more plan word m j after = subst (λ w. IsAfter plan w m j) (sym (append-nil word)) after

pub one_more : (plan : Plan) (word : Word) (pads : List ℕ) (i item : ℕ) (m : State) (j : Judged) → i < length pads →
    item ≡ get_or pads i item →
    IsAfter plan ((word ++ take i pads) ++ item ∷ []) m j → IsAfter plan (word ++ take (i + 1) pads) m j
one_more plan word pads i item m j within is after =
    let grown : take (i + 1) pads ≡ take i pads ++ item ∷ [] =
    ap (λ n. take n pads) (let one : i + 1 ≡ suc i = omega arith in one) ∙ take-suc pads i item within
    ∙ ap (λ x. take i pads ++ x ∷ []) (sym is) in
    subst (λ w. IsAfter plan w m j)
    (append_assoc word (take i pads) (item ∷ []) ∙ ap (λ ps. word ++ ps) (sym grown)) after

pub all_of : (plan : Plan) (word : Word) (pads : List ℕ) (i : ℕ) (m : State) (j : Judged) → length pads ≤ i →
    IsAfter plan (word ++ take i pads) m j → IsAfter plan (word ++ pads) m j
all_of plan word pads i m j past after = subst (λ ps. IsAfter plan (word ++ ps) m j) (take_all i pads past) after

take_past : (n : ℕ) → take {A = ℕ} n [] ≡ []
take_past zero = refl
take_past (suc n) = refl

-- the first of the first
take-take : (n m : ℕ) (xs : List ℕ) → take n (take (n + m) xs) ≡ take n xs
take-take zero m xs = refl
take-take (suc n) m [] = ap (take (suc n)) (take_past (suc n + m))
take-take (suc n) m (x ∷ xs) =
    ap (λ k. take (suc n) (take k (x ∷ xs))) (let e : suc n + m ≡ suc (n + m) = omega arith in e)
    ∙ ap (λ ys. x ∷ ys) (take-take n m xs)

-- the pads of a word between two steps
pub pads_between : (word : Word) (at_ to : ℕ) → at_ ≤ to
    → take at_ word ++ take (to - at_) (drop at_ word) ≡ take to word
pads_between word at_ to order =
    let whole : at_ + (to - at_) ≡ to = omega (arith, order) in
    ap₂ (λ xs ys. xs ++ ys)
    (sym (take-take at_ (to - at_) word))
    (sym (drop-take at_ (to - at_) word))
    ∙ take-append-drop at_ (take (at_ + (to - at_)) word)
    ∙ ap (λ n. take n word) whole

-- fewer of the first are the same where more of them are
pub take_fewer : (xs ys : List ℕ) (n m : ℕ) → n ≤ m → take m xs ≡ take m ys → take n xs ≡ take n ys
take_fewer xs ys n m order e =
    let whole : n + (m - n) ≡ m = omega (arith, order) in
    sym (take-take n (m - n) xs)
    ∙ ap (λ k. take n (take k xs)) whole
    ∙ ap (take n) e
    ∙ ap (λ k. take n (take k ys)) (sym whole)
    ∙ take-take n (m - n) ys
