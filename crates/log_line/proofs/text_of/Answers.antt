-- `log_line::text_of` meets its contract. Assumes nothing.
use Prim.Native.Nat.{ℕ, ◌+◌, ◌-◌}
use mathlib.Core.Path.{◌≡◌, ap}
use lib.ListN.{take, drop}
use Rattle.octets.specs.Octets.{part}
use native.Mathlib.Omega.{arith}
use Rattle.log_line.proofs.text_of.Goals as goal

pub returns : goal.returns
unfolding part
returns c = let a = c.args in let n : a.f.start + a.f.len - a.f.start ≡ a.f.len = omega arith in ap (λ (k : ℕ). take k (drop a.f.start a.line.now)) n
