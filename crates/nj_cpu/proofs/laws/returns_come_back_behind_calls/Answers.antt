use Rattle.nj_cpu.proofs.Stack.{call_return}
use Rattle.nj_cpu.proofs.laws.returns_come_back_behind_calls.Goals as goal

-- the two bytes at the stack are those of the call
pub returns : goal.returns
returns g c = record {
  behind = λ cpu later held remembers hs first same second.
      (call_return g.B.Bus.acts remembers cpu later held hs first same second).0;
  stack = λ cpu later held remembers hs first same second.
      (call_return g.B.Bus.acts remembers cpu later held hs first same second).1;
}
