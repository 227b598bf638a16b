use Rattle.std.proofs.Common.{arith, refl, subst, ◌+◌, slice_index_or}
use Rattle.std.specs.Fork.{ChangesAt}
use Rattle.nj_threads.proofs.apart.for_each_apart.Goals as goal

pub returns-clause-changes : goal.returns-clause-changes
returns-clause-changes g c =
    let xs = c.args.all.now in let ys = c.each_from.new.all in
    λ i d l. (
      refl,
      subst (λ n. ChangesAt g.F.Fn c.args.f.now n (slice_index_or xs i d) (slice_index_or ys i d)) {x = 0 + i}
          (omega arith) (c.each_from.ensures.each i d l),
    )
