-- The first pair of the name, or a new last one, has the file's bytes.
use Rattle.std.proofs.Common.{◌≡◌, ap, ◌∙◌, length, take, ◌++◌, refl, inl, inr}
use Rattle.std.proofs.lemmas.Result.{on_ok_weaker, on_err_weaker}
use Rattle.nj_outside.specs.Told.{bytes_at}
use Rattle.nj_memory.specs.Memory.{Pair, named, files_of, IsFirst}
use Rattle.nj_memory.proofs.Pairs.{bytes_found, piece_put, piece_kept, new_put}
use Rattle.nj_memory.proofs.shelf.put_piece.Goals as goal

pub put_bytes-requires : goal.put_bytes-requires
put_bytes-requires c =
    let first : IsFirst c.args.files.now.items c.args.name.now c.in-Some.place =
    rw c.as_slice.ensures.value at c.in-Some.ensures.found in
    let same : length (bytes_at (files_of (named c.args.files.now.items)) c.args.name.now)
    ≡ length c.index_mut.result.now.1.items =
    ap length (bytes_found _ _ _ _ first c.index_mut.ensures.value) in
    elim c.requires [ inl start ↦ inl start | inr end ↦ inr (end ∙ same) ]

pub returns-in-Some-clause-put : goal.returns-in-Some-clause-put
returns-in-Some-clause-put c =
    let first : IsFirst c.args.files.now.items c.args.name.now c.in-Some.place =
    rw c.as_slice.ensures.value at c.in-Some.ensures.found in
    let new : Pair = (c.index_mut.result.now.0, c.put_bytes.new.bytes) in
    let P : Type 0 = new.1.items ≡ take c.args.at c.index_mut.result.now.1.items ++ c.args.piece.now in
    on_ok_weaker c.put_bytes.result
    (λ (put : P). piece_put c.args.files.now.items c.args.name.now c.in-Some.place c.args.at c.args.piece.now
    c.index_mut.result.now new first c.index_mut.ensures.value refl put)
    c.put_bytes.ensures.put

pub returns-in-Some-clause-unchanged : goal.returns-in-Some-clause-unchanged
returns-in-Some-clause-unchanged c =
    let new : Pair = (c.index_mut.result.now.0, c.put_bytes.new.bytes) in
    let P : Type 0 = new.1.items ≡ c.index_mut.result.now.1.items in
    on_err_weaker c.put_bytes.result
    (λ (kept : P). piece_kept c.args.files.now.items c.in-Some.place c.index_mut.result.now new
    c.index_mut.ensures.value refl kept)
    c.put_bytes.ensures.unchanged

pub returns-in_ok-push-in-None-clause-put : goal.returns-in_ok-push-in-None-clause-put
returns-in_ok-push-in-None-clause-put c =
    rw c.in_ok-push-in-None.ensures.items
    (new_put _ _ _ _ _ (rw c.as_slice.ensures.value at c.in-None.ensures.missing) c.in_ok-name-in-None.ensures.ok
    c.in_ok-bytes-in-None.ensures.items)
