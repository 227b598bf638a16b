-- The states of a step's kept rows, in parts that are joined in their order.
use Rattle.std.proofs.Common.{◌≡◌, ℕ, ◌+◌, ◌*◌, ◌≤◌, List, [], ◌∷◌, ◌++◌, length, ap, ap₂, sym, subst, ◌∙◌, arith, length-append, append_assoc, append-nil, mul-le-mul_right}
use Rattle.std.specs.Prelude.{Result, IfOk, reverse, sum_by, None}
use Rattle.std.specs.declared.alloc.AllocError.{AllocError}
use Rattle.std.proofs.Math.Nat.{add-mul}
use Rattle.std.proofs.lemmas.List.{map-append, reverse-append, reverse-reverse}
use Rattle.std.proofs.lemmas.List.Sums.{sum_by-append}
use Rattle.nj_rules.specs.declared.record.Judged.{Judged}
use Rattle.nj_rows.specs.declared.Row.{Row}
use Rattle.nj_seen.specs.Rows.{winner_row}
use Rattle.nj_pool.specs.Front.{Front, need, bytes_held, with_births}
use Rattle.nj_candidate.specs.declared.again.Again.{Again}
use Rattle.nj_candidate.specs.Front.{size_in, image_at}
use Rattle.nj_candidate.specs.Again.{Before, birth_of, before_of, image_again, judged_again, pool_again, AreRunFrom}
use Rattle.nj_expand.specs.declared.kept.Kept.{Kept}
use Rattle.nj_expand.specs.Held.{Held, live_rows, kept_in}
use Rattle.nj_expand.specs.Ending.{AreFew, IsKeptOf, IsNewTable, AreNextKeys}
use Rattle.nj_expand.specs.Kept.{IsAgain, ArePartsOf, IsKept}
use Rattle.nj_expand.proofs.Lifts.{Prefers}
use Rattle.nj_expand.proofs.Nexts.{rows_within}
use Rattle.nj_expand.proofs.Ends.{are_kept, kept_count}

-- ---- what is kept

pub kept_is : (h : Held) (kept : Kept) → AreFew h → Prefers → winner_row (live_rows h) ≡ None
    → IsKeptOf h kept.rows.items → IsNewTable h kept.table → AreNextKeys h kept.keys → IsKept h kept
kept_is h kept few law none is table keys =
    let are = are_kept h kept.rows.items few law is.kept in
    let count = kept_count h kept.rows.items are.rows_are in
    record {
      none_wins = none;
      rows = is;
      count = count;
      few = omega (arith, count, are.few);
      parents = rows_within h.plan h.state.front h.bounds.most (kept_in h) kept.rows.items are;
      table = table;
      keys = keys;
    }

-- ---- the states of rows

pub again_is : (h : Held) (rows : List Row) (again : Again) → IsAgain h rows again
    → AreRunFrom (before_of h.plan h.state.front) (image_at h.plan []) (h.bounds.most * (size_in h.plan + 16)) rows
    again.pool again.judged.items
unfolding IsAgain
again_is h rows again is = is

-- what was run from the parts of a search was run from its front
pub run_from : (h now : Held) (rows : List Row) (before : Before) (base : List ℕ) (limit : ℕ)
    (result : Result Again AllocError) → h ≡ now
    → before ≡ before_of h.plan h.state.front → base ≡ image_at h.plan []
    → limit ≡ h.bounds.most * (size_in h.plan + 16)
    → IfOk result (λ again. AreRunFrom before base limit rows again.pool again.judged.items)
    → IfOk result (IsAgain now rows)
unfolding IsAgain
run_from h now rows before base limit result same was base_is limit_is ran =
    subst (λ (h : Held). IfOk result (IsAgain h rows)) same
    (subst (λ l. IfOk result (λ again. AreRunFrom (before_of h.plan h.state.front) (image_at h.plan []) l rows
    again.pool again.judged.items)) limit_is
    (subst (λ b. IfOk result (λ again. AreRunFrom (before_of h.plan h.state.front) b limit rows again.pool
    again.judged.items)) base_is
    (subst (λ b. IfOk result (λ again. AreRunFrom b base limit rows again.pool again.judged.items)) was ran)))

-- what a pool of them has
base_again : (before : Before) (base : List ℕ) (limit : ℕ) (rows : List Row) (pool : Front)
    → pool ≡ pool_again before base limit rows → pool.base ≡ base
unfolding pool_again
base_again before base limit rows pool is = ap (λ p. p.base) is

limit_again : (before : Before) (base : List ℕ) (limit : ℕ) (rows : List Row) (pool : Front)
    → pool ≡ pool_again before base limit rows → pool.limit ≡ limit
unfolding pool_again
limit_again before base limit rows pool is = ap (λ p. p.limit) is

words_again : (before : Before) (base : List ℕ) (limit : ℕ) (rows : List Row) (pool : Front)
    → pool ≡ pool_again before base limit rows → pool.words ≡ []
unfolding pool_again
words_again before base limit rows pool is = ap (λ p. p.words) is

-- two of them
both_again : (before : Before) (base : List ℕ) (limit : ℕ) (rows more : List Row)
    → with_births (pool_again before base limit rows) (pool_again before base limit more)
    ≡ pool_again before base limit (rows ++ more)
unfolding pool_again
both_again before base limit rows more =
    let images = map-append (image_again before) rows more in
    let born = map-append birth_of rows more in
    sym (λ i. record {
      base = base;
      limit = limit;
      images = images i;
      words = [];
      depth = 0;
      born = born i;
    })

bytes_both : (pool other new : Front) (n m size : ℕ) → other.base ≡ pool.base → new ≡ with_births pool other
    → bytes_held pool ≤ n * size → bytes_held other ≤ m * size → bytes_held new ≤ (n + m) * size
bytes_both pool other new n m size same is few less =
    let whole : bytes_held new ≡ sum_by (need pool.base) pool.images + sum_by (need pool.base) other.images =
    ap bytes_held is ∙ sum_by-append (need pool.base) pool.images other.images in
    let rest : sum_by (need other.base) other.images ≡ sum_by (need pool.base) other.images =
    ap (λ b. sum_by (need b) other.images) same in
    let product : (n + m) * size ≡ n * size + m * size = add-mul n m size in
    omega (arith, whole, rest, product, few, less)

run_both : (before : Before) (base : List ℕ) (limit : ℕ) (rows more : List Row) (pool other new : Front)
    (judged told now : List Judged)
    → AreRunFrom before base limit rows pool judged → AreRunFrom before base limit more other told
    → new ≡ with_births pool other → now ≡ judged ++ told → AreRunFrom before base limit (rows ++ more) new now
run_both before base limit rows more pool other new judged told now was behind is are =
    let same : other.base ≡ pool.base =
    base_again before base limit more other behind.pool_is
    ∙ sym (base_again before base limit rows pool was.pool_is) in
    record {
      pool_is = is ∙ ap₂ with_births was.pool_is behind.pool_is ∙ both_again before base limit rows more;
      bytes =
          subst (λ n. bytes_held new ≤ n * (length base + 16)) (sym (length-append rows more))
          (bytes_both pool other new (length rows) (length more) (length base + 16) same is was.bytes behind.bytes);
      judged_are =
          are ∙ ap₂ (λ xs ys. xs ++ ys) was.judged_are behind.judged_are
          ∙ sym (map-append (judged_again before) rows more);
    }

-- ---- parts on their way

-- the states so far, and the parts that are left, which stand turned round
pub record AreJoining (h : Held) (rows : List Row) (all : Again) (left : List Again) : Type 0 where
  pub done : List Row
  pub rest : List Row
  pub whole : rows ≡ done ++ rest
  pub all_is : IsAgain h done all
  pub parts : ArePartsOf h rest (reverse left)

-- the same with the next part
pub record IsNext (h : Held) (rows : List Row) (all part : Again) (left : List Again) : Type 0 where
  pub done : List Row
  pub run : List Row
  pub rest : List Row
  pub whole : rows ≡ done ++ (run ++ rest)
  pub all_is : IsAgain h done all
  pub part_is : IsAgain h run part
  pub parts : ArePartsOf h rest (reverse left)

pub begun_joining : (h : Held) (rows : List Row) (parts turned left : List Again) (first : Again)
    → ArePartsOf h rows parts → turned ≡ reverse parts → turned ≡ left ++ first ∷ [] → AreJoining h rows first left
begun_joining h rows parts turned left first are is popped =
    let same : parts ≡ first ∷ reverse left =
    sym (reverse-reverse parts) ∙ ap reverse (sym is ∙ popped) ∙ reverse-append left (first ∷ []) in
    let p = subst (ArePartsOf h rows) same are in
    record { done = p.0; rest = p.1; whole = p.2; all_is = p.3; parts = p.4 }

pub next_joining : (h : Held) (rows : List Row) (all part : Again) (left later : List Again)
    → AreJoining h rows all left → left ≡ later ++ part ∷ [] → IsNext h rows all part later
next_joining h rows all part left later joining popped =
    let same : reverse left ≡ part ∷ reverse later = ap reverse popped ∙ reverse-append later (part ∷ []) in
    let p = subst (ArePartsOf h joining.rest) same joining.parts in
    record {
      done = joining.done;
      run = p.0;
      rest = p.1;
      whole = joining.whole ∙ ap (λ rows. joining.done ++ rows) p.2;
      all_is = joining.all_is;
      part_is = p.3;
      parts = p.4;
    }

pub base_next : (h : Held) (rows : List Row) (all part : Again) (left : List Again) → IsNext h rows all part left
    → part.pool.base ≡ all.pool.base
base_next h rows all part left next =
    let was = again_is h next.done all next.all_is in
    let behind = again_is h next.run part next.part_is in
    base_again _ _ _ next.run part.pool behind.pool_is ∙ sym (base_again _ _ _ next.done all.pool was.pool_is)

pub births_next : (h : Held) (rows : List Row) (all part : Again) (left : List Again) → IsNext h rows all part left
    → part.pool.words ≡ []
births_next h rows all part left next =
    words_again _ _ _ next.run part.pool (again_is h next.run part next.part_is).pool_is

pub room_next : (h : Held) (rows : List Row) (all part : Again) (left : List Again)
    → length (image_at h.plan []) ≡ size_in h.plan → length rows ≤ h.bounds.most → IsNext h rows all part left
    → bytes_held all.pool + bytes_held part.pool ≤ all.pool.limit
room_next h rows all part left long few next =
    let was = again_is h next.done all next.all_is in
    let behind = again_is h next.run part next.part_is in
    let size = length (image_at h.plan []) + 16 in
    let limit : all.pool.limit ≡ h.bounds.most * (size_in h.plan + 16) =
    limit_again _ _ _ next.done all.pool was.pool_is in
    let same : h.bounds.most * (size_in h.plan + 16) ≡ h.bounds.most * size =
    ap (λ n. h.bounds.most * (n + 16)) (sym long) in
    let product : (length next.done + length next.run) * size ≡ length next.done * size + length next.run * size =
    add-mul (length next.done) (length next.run) size in
    let count : length rows ≡ length next.done + (length next.run + length next.rest) =
    ap length next.whole ∙ length-append next.done (next.run ++ next.rest)
    ∙ ap (λ n. length next.done + n) (length-append next.run next.rest) in
    let most : (length next.done + length next.run) * size ≤ h.bounds.most * size =
    mul-le-mul_right size (omega (arith, count, few)) in
    omega (arith, was.bytes, behind.bytes, product, most, same, limit)

pub still_joining : (h : Held) (rows : List Row) (all part new : Again) (left : List Again)
    → IsNext h rows all part left → new.pool ≡ with_births all.pool part.pool
    → new.judged.items ≡ all.judged.items ++ part.judged.items → AreJoining h rows new left
unfolding IsAgain
still_joining h rows all part new left next pool judged =
    record {
      done = next.done ++ next.run;
      rest = next.rest;
      whole = next.whole ∙ sym (append_assoc next.done next.run next.rest);
      all_is =
          run_both (before_of h.plan h.state.front) (image_at h.plan []) (h.bounds.most * (size_in h.plan + 16))
          next.done next.run all.pool part.pool new.pool all.judged.items part.judged.items new.judged.items
          next.all_is next.part_is pool judged;
      parts = next.parts;
    }

-- when no part is left, all are joined
pub all_joined : (h : Held) (rows : List Row) (all : Again) (left : List Again) → AreJoining h rows all left
    → length left ≡ 0 → IsAgain h rows all
all_joined h rows all [] joining none =
    let whole : rows ≡ joining.done =
    joining.whole ∙ ap (λ rest. joining.done ++ rest) joining.parts ∙ append-nil joining.done in
    subst (λ rows. IsAgain h rows all) (sym whole) joining.all_is
all_joined h rows all (part ∷ left) joining none = absurd (omega arith)
