-- `octets::put_zeros` meets its contract. Assumes nothing.
use mathlib.Core.Path.{◌≡◌, ap, ◌∙◌}
use Prim.Native.Nat.{ℕ, ◌+◌, ◌-◌}
use native.Mathlib.Omega.{arith}
use lib.ListN.{length, take, drop, replicate, length-take, length-drop, length-replicate}
use Rattle.octets.proofs.Laws.{store_part}
use Rattle.octets.proofs.put_zeros.Goals as goal

pub returns : goal.returns
returns c =
    let a = c.args in
    let room : length (take (a.at + a.n - a.at) (drop a.at a.bytes.now)) ≡ a.n = simp (length-take, length-drop) (omega arith) in
    let size : length (replicate {A = ℕ} a.n 0) ≡ a.n = length-replicate a.n 0 in
    store_part a.bytes.now (replicate a.n 0) _ a.at _ (c.fill.ensures.after (λ y e. e) ∙ ap (λ k. replicate k 0) room) (omega arith) (omega arith)
