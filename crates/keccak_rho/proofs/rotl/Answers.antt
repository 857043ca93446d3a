-- `keccak_rho::rotl` meets its contract: a lane that is not rotated is `rot` by 0. Assumes nothing.
use mathlib.Core.Path.{◌≡◌, sym, ap, ap₂, ◌∙◌}
use Prim.Native.Nat.{ℕ, ◌*◌, ◌/◌, ◌%◌, ◌^◌, ◌<◌}
use native.Mathlib.Omega.{arith}
use lib.Bits.{bit_or, or_zero_r}
use borrow.Author.Rules.{rules}
use Rattle.keccak_steps.specs.Lanes.{rot}
use Rattle.keccak_rho.proofs.rotl.Goals as goal

not_rotated : (x : ℕ) → x < 2 ^ 64 → rot x 0 ≡ x
not_rotated x h =
    let low : x * 2 ^ 0 % 2 ^ 64 ≡ x = omega arith in
    let high : x / 2 ^ 64 ≡ 0 = omega arith in
    ap₂ bit_or low high ∙ or_zero_r x

pub returns-then-n-eq0 : goal.returns-then-n-eq0
returns-then-n-eq0 c = let x = c.args.x in
    sym (ap (rot x) c.if-n-eq0.true ∙ not_rotated x (search rules))
