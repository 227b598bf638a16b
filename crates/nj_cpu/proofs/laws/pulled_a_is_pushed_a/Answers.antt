use Rattle.nj_cpu.proofs.Stack.{push_pull}
use Rattle.nj_cpu.proofs.laws.pulled_a_is_pushed_a.Goals as goal

-- the byte at the stack is the one that was pushed
pub returns : goal.returns
returns g c = record {
  pulled = λ cpu later held remembers ha hs first same second.
      let all = push_pull g.B.Bus.acts remembers cpu later held ha hs first same second in
      record { a = all.0; flags = all.1 };
  stack = λ cpu later held remembers ha hs first same second.
      (push_pull g.B.Bus.acts remembers cpu later held ha hs first same second).2;
}
