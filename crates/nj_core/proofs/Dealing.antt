-- Pieces dealt one by one, each to the worker whose number is its place mod the number of workers.
use Rattle.std.proofs.Common.{◌≡◌, ◌≢◌, ℕ, ◌+◌, ◌%◌, ◌<◌, Bool, true, false, cond, eqb, List, [], ◌∷◌, ◌++◌, length, get_or, set, refl, sym, ◌∙◌, ap, inl, inr, arith, if◌then◌else◌}
use Rattle.std.specs.Prelude.{filter, map}
use Rattle.std.specs.List.{enumerate_from, range_with_len}
use Rattle.std.proofs.lemmas.List.{same_lists, length-set, get_or-set_same, get_or-set_other, map-append, map-id, append-nil}
use Rattle.std.proofs.lemmas.List.Elements.{filter-append}
use Rattle.std.proofs.lemmas.List.FromFn.{length-map-range_with_len, get_or-map-range_with_len}
use Rattle.std.proofs.lemmas.Bool.{cases_eq, eq-eqb, ne_eqb}
use Rattle.nj_core.specs.declared.claim.Claim.{Claim}
use Rattle.nj_core.specs.Machine.{Piece, WorkerState, dealt_to, beginning, opening}

module _ {V : Type 0} (items : V → Piece) (n : ℕ) where
  -- whether an entry is for worker w
  abbrev is_for : ℕ → ℕ × V → Bool
  is_for w entry = eqb (entry.0 % n) w

  -- what is handed to worker w of these entries
  abbrev pub handed : List (ℕ × V) → ℕ → List Piece
  handed entries w = map (λ (e : ℕ × V). items e.1) (filter (is_for w) entries)

  -- the workers after these entries are dealt
  abbrev pub after_dealing : List (ℕ × V) → List WorkerState
  after_dealing entries = map (λ w. beginning (handed entries w)) (range_with_len 0 n)

  pub length_after : (entries : List (ℕ × V)) → length (after_dealing entries) ≡ n
  length_after entries = length-map-range_with_len (λ w. beginning (handed entries w)) 0 n

  after_at : (entries : List (ℕ × V)) (k : ℕ) (d : WorkerState) → k < n
      → get_or (after_dealing entries) k d ≡ beginning (handed entries k)
  after_at entries k d lt = get_or-map-range_with_len (λ w. beginning (handed entries w)) 0 n k k d lt (omega arith)

  handed_push : (entries : List (ℕ × V)) (entry : ℕ × V) (w : ℕ)
      → handed (entries ++ entry ∷ []) w
      ≡ (if is_for w entry then handed entries w ++ items entry.1 ∷ [] else handed entries w)
  handed_push entries entry w =
      ap (map (λ (e : ℕ × V). items e.1)) (filter-append (is_for w) entries (entry ∷ []))
      ∙ map-append (λ (e : ℕ × V). items e.1) (filter (is_for w) entries) (filter (is_for w) (entry ∷ []))
      ∙ go (is_for w entry) where
        go : (b : Bool) → handed entries w ++ map (λ (e : ℕ × V). items e.1) (cond b (entry ∷ []) [])
            ≡ (if b then handed entries w ++ items entry.1 ∷ [] else handed entries w)
        go true = refl
        go false = append-nil (handed entries w)

  handed_same : (entries : List (ℕ × V)) (entry : ℕ × V) (w : ℕ) → entry.0 % n ≡ w
      → handed (entries ++ entry ∷ []) w ≡ handed entries w ++ items entry.1 ∷ []
  handed_same entries entry w same =
      handed_push entries entry w
      ∙ ap (λ (b : Bool). if b then handed entries w ++ items entry.1 ∷ [] else handed entries w)
      (eq-eqb (entry.0 % n) w same)

  handed_other : (entries : List (ℕ × V)) (entry : ℕ × V) (w : ℕ) → entry.0 % n ≢ w
      → handed (entries ++ entry ∷ []) w ≡ handed entries w
  handed_other entries entry w differ =
      handed_push entries entry w
      ∙ ap (λ (b : Bool). if b then handed entries w ++ items entry.1 ∷ [] else handed entries w)
      (ne_eqb (entry.0 % n) w differ)

  -- a worker with one piece more at the end of its list
  abbrev with_piece : Piece → WorkerState → WorkerState
  with_piece piece worker = record worker { waiting = worker.waiting ++ piece ∷ [] }

  -- one entry more is dealt
  pub dealt_more : (entries : List (ℕ × V)) (dealt : List WorkerState) (place : ℕ) (v : V) (x new : WorkerState)
      (piece : Piece) → 0 < n
      → dealt ≡ after_dealing entries → x ≡ get_or dealt (place % n) x → piece ≡ items v → new ≡ with_piece piece x
      → set dealt (place % n) new ≡ after_dealing (entries ++ (place, v) ∷ [])
  dealt_more entries dealt place v x new piece some so_far read of is =
      let m : ℕ = place % n in
      let low : m < n = omega arith in
      let length_dealt : length dealt ≡ n = ap length so_far ∙ length_after entries in
      let length_left : length (set dealt m new) ≡ n = length-set dealt m new ∙ length_dealt in
      let length_right = length_after (entries ++ (place, v) ∷ []) in
      let was : x ≡ beginning (handed entries m) = read ∙ ap (λ (ws : List WorkerState). get_or ws m x) so_far
      ∙ after_at entries m x low in
      let now : new ≡ beginning (handed (entries ++ (place, v) ∷ []) m) =
      is ∙ (λ i. with_piece (of i) (was i)) ∙ ap beginning (sym (handed_same entries (place, v) m refl)) in
      same_lists (set dealt m new) (after_dealing (entries ++ (place, v) ∷ [])) (omega arith) (λ k d lt.
      (let within : k < n = omega arith in
      let right = after_at (entries ++ (place, v) ∷ []) k d within in
      elim (cases_eq m k) [
        | inl same ↦
            ap (λ j. get_or (set dealt m new) j d) (sym same) ∙ get_or-set_same dealt m new d (omega arith) ∙ now
            ∙ ap (λ j. beginning (handed (entries ++ (place, v) ∷ []) j)) same ∙ sym right
        | inr differ ↦
            get_or-set_other dealt m k new d (λ e. differ (sym e))
            ∙ ap (λ (ws : List WorkerState). get_or ws k d) so_far ∙ after_at entries k d within
            ∙ ap beginning (sym (handed_other entries (place, v) k differ)) ∙ sym right
      ]))

  -- all entries are dealt as the opening state has them
  handed_all : (k : ℕ) (vs : List V) (w : ℕ) → handed (enumerate_from k vs) w
      ≡ map (λ (e : ℕ × Piece). e.1) (filter (λ (e : ℕ × Piece). eqb (e.0 % n) w) (enumerate_from k (map items vs)))
  handed_all k [] w = refl
  handed_all k (v ∷ vs) w = go (eqb (k % n) w) (handed_all (k + 1) vs w) where
    go : (b : Bool) → handed (enumerate_from (k + 1) vs) w
        ≡ map (λ (e : ℕ × Piece).
        e.1) (filter (λ (e : ℕ × Piece). eqb (e.0 % n) w) (enumerate_from (k + 1) (map items vs)))
        → map (λ (e : ℕ × V). items e.1) (cond b ((k, v) ∷ filter (is_for w) (enumerate_from (k + 1) vs))
        (filter (is_for w) (enumerate_from (k + 1) vs)))
        ≡ map (λ (e : ℕ × Piece). e.1)
        (cond b ((k, items v) ∷ filter (λ (e : ℕ × Piece). eqb (e.0 % n) w) (enumerate_from (k + 1) (map items vs)))
        (filter (λ (e : ℕ × Piece). eqb (e.0 % n) w) (enumerate_from (k + 1) (map items vs))))
    go true rest = ap (λ ps. items v ∷ ps) rest
    go false rest = rest

  pub opened : (vs : List V) (entries : List (ℕ × V)) (dealt : List WorkerState) (owners : List Claim)
      → map (λ (e : ℕ × V). (e.0, e.1)) entries ≡ enumerate_from 0 vs → dealt ≡ after_dealing entries → owners ≡ []
      → record { workers = dealt; owners = owners } ≡ opening [] (map items vs) n
  unfolding opening
  opened vs entries dealt owners all so_far none =
      let is : entries ≡ enumerate_from 0 vs = sym (map-id entries) ∙ all in
      let workers : dealt ≡ map (λ w. beginning (dealt_to n (map items vs) w)) (range_with_len 0 n) =
      so_far ∙ ap after_dealing is ∙ (λ i. map (λ w. beginning (handed_all 0 vs w i)) (range_with_len 0 n)) in
      λ i. record { workers = workers i; owners = none i }
