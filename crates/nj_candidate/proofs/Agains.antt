-- The states of rows, run again one after another.
use Rattle.std.proofs.Common.{◌≡◌, ℕ, suc, ◌+◌, ◌*◌, ◌<◌, ◌≤◌, List, [], ◌∷◌, ◌++◌, length, map, take, get_or, ap, ap₂, sym, ◌∙◌, arith, suc-mul, mul-suc, mul-le-mul_right}
use Rattle.std.proofs.lemmas.List.{map_more}
use Rattle.nj_machine.specs.State.{State}
use Rattle.nj_machine.specs.Image.{image_of, of_image}
use Rattle.nj_rules.specs.declared.record.Judged.{Judged}
use Rattle.nj_game.specs.Words.{held}
use Rattle.nj_rows.specs.declared.Row.{Row}
use Rattle.nj_pool.specs.Front.{Front, with_birth, empty_front}
use Rattle.nj_candidate.specs.Rows.{judged_at}
use Rattle.nj_candidate.specs.Again.{Before, parent_of, birth_of, state_again, image_again, judged_again, pool_again}

-- ---- one row

pub child_state : (before : Before) (row : Row) (image : List ℕ) (s : State)
    → image ≡ get_or before.images (parent_of row) []
    → s ≡ held before.script.hold row.pad (of_image before.rom image) → s ≡ state_again before row
unfolding state_again
child_state before row image s loaded ran =
    ran ∙ ap (λ x. held before.script.hold row.pad (of_image before.rom x)) loaded

pub child_judged : (before : Before) (row : Row) (s : State) (judged : Judged) (status : ℕ) → s ≡ state_again before row
    → status ≡ get_or before.statuses (parent_of row) 0
    → judged ≡ judged_at before.script status s → judged ≡ judged_again before row
unfolding judged_again
child_judged before row s judged status is was told = told ∙ ap₂ (judged_at before.script) was is

pub child_image : (before : Before) (row : Row) (s : State) (image : List ℕ) → s ≡ state_again before row
    → image ≡ image_of s → image ≡ image_again before row
unfolding image_again
child_image before row s image is saved = saved ∙ ap image_of is

-- ---- one row more

-- a pool with one state more
pub pool_more : (before : Before) (base : List ℕ) (limit : ℕ) (kept : List Row) (i : ℕ) (d : Row) (image : List ℕ)
    (old new : Front) → i < length kept
    → image ≡ image_again before (get_or kept i d) → old ≡ pool_again before base limit (take i kept)
    → new ≡ with_birth image (birth_of (get_or kept i d)) old
    → new ≡ pool_again before base limit (take (i + 1) kept)
unfolding pool_again
pool_more before base limit kept i d image old new lt shown was pushed =
    let images : map (image_again before) (take i kept) ++ image ∷ [] ≡ map (image_again before) (take (i + 1) kept) =
    ap (λ x. map (image_again before) (take i kept) ++ x ∷ []) shown
    ∙ sym (map_more (image_again before) kept i d lt) in
    let born : map birth_of (take i kept) ++ birth_of (get_or kept i d) ∷ [] ≡ map birth_of (take (i + 1) kept) =
    sym (map_more birth_of kept i d lt) in
    pushed ∙ ap (with_birth image (birth_of (get_or kept i d))) was
    ∙ (λ j. record { base = base; limit = limit; images = images j; words = []; depth = 0; born = born j })

-- the judgements with one more
pub judged_more : (before : Before) (kept : List Row) (i : ℕ) (d : Row) (judged : Judged) (old new : List Judged)
    → i < length kept
    → judged ≡ judged_again before (get_or kept i d) → old ≡ map (judged_again before) (take i kept)
    → new ≡ old ++ judged ∷ []
    → new ≡ map (judged_again before) (take (i + 1) kept)
judged_more before kept i d judged old new lt told was pushed =
    pushed ∙ ap₂ (λ xs x. xs ++ x ∷ []) was told ∙ sym (map_more (judged_again before) kept i d lt)

-- the bytes with one state more
pub bytes_more : (i size long old new : ℕ) → new ≤ old + (long + 16) → old ≤ i * (size + 16) → long ≡ size
    → new ≤ (i + 1) * (size + 16)
bytes_more i size long old new pushed was same =
    let more : suc i * (size + 16) ≡ i * (size + 16) + (size + 16) = suc-mul i (size + 16) in
    let e : i + 1 ≡ suc i = omega arith in
    rw e (omega (arith, pushed, more, was, same))

-- there is room for one state more
pub room_left : (i n size limit long held : ℕ) → held ≤ i * (size + 16) → i < n → n * (size + 16) ≤ limit → long ≡ size
    → held + (long + 16) ≤ limit
room_left i n size limit long held was lt most is =
    let more : suc i * (size + 16) ≡ i * (size + 16) + (size + 16) = suc-mul i (size + 16) in
    let few : suc i * (size + 16) ≤ n * (size + 16) = mul-le-mul_right (size + 16) (omega (arith, lt)) in
    omega (arith, more, few, was, most, is)

-- the frames of one row more
pub frames_more : (hold i steps old now : ℕ) → steps ≤ old + hold * i → now ≤ steps + hold → now ≤ old + hold * (i + 1)
frames_more hold i steps old now before one =
    let e : hold * suc i ≡ hold * i + hold = mul-suc hold i in
    let f : i + 1 ≡ suc i = omega arith in
    rw f (omega (arith, before, one, e))

pub pool_base : (before : Before) (base : List ℕ) (limit : ℕ) (rows : List Row) (pool : Front)
    → pool ≡ pool_again before base limit rows → pool.base ≡ base
unfolding pool_again
pool_base before base limit rows pool e = ap (λ p. p.base) e

pub pool_limit : (before : Before) (base : List ℕ) (limit : ℕ) (rows : List Row) (pool : Front)
    → pool ≡ pool_again before base limit rows → pool.limit ≡ limit
unfolding pool_again
pool_limit before base limit rows pool e = ap (λ p. p.limit) e

pub pool_none : (before : Before) (base given : List ℕ) (limit : ℕ) (pool : Front) → given ≡ base
    → pool ≡ empty_front given limit → pool ≡ pool_again before base limit []
unfolding pool_again
pool_none before base given limit pool is e = e ∙ ap (λ b. empty_front b limit) is
