-- `keccak_blocks::xor_block` meets its contract: lane i of the block is what the i-th call of `lane_at` ensures, and past the block's 136 bytes
-- there are only zeros. Assumes nothing.
use mathlib.Core.Path.{◌≡◌, sym, ap, ◌∙◌}
use mathlib.Core.List.{List, [], ◌∷◌}
use Prim.Native.Nat.{ℕ, ◌+◌, ◌≤◌}
use native.Mathlib.Omega.{arith}
use lib.Bits.{xor_zero_r}
use lib.ListN.{length, get_or, get_or-eq_default}
use Rattle.keccak_steps.specs.Lanes.{◌⊕◌}
use Rattle.keccak_blocks.specs.Blocks.{lane_at, xor_block}
use Rattle.keccak_blocks.proofs.xor_block.Goals as goal

past : (b : List ℕ) (at : ℕ) → length b ≤ at → lane_at b at ≡ 0
unfolding lane_at
past b at h =
    let z : (k : ℕ) → get_or b (at + k) 0 ≡ 0 = λ k. get_or-eq_default b 0 (omega arith) in
    let z0 : get_or b at 0 ≡ 0 = get_or-eq_default b 0 h in
    omega (arith, z 1, z 2, z 3, z 4, z 5, z 6, z 7)

kept : (b : List ℕ) (x at : ℕ) → length b ≤ at → x ≡ x ⊕ lane_at b at
kept b x at h = sym (ap (λ (y : ℕ). x ⊕ y) (past b at h) ∙ xor_zero_r x)

pub returns : goal.returns
unfolding xor_block
returns c = let c16 = c in
    let c15 = c16 in
    let c14 = c15 in
    let c13 = c14 in
    let c12 = c13 in
    let c11 = c12 in
    let c10 = c11 in
    let c9 = c10 in
    let c8 = c9 in
    let c7 = c8 in
    let c6 = c7 in
    let c5 = c6 in
    let c4 = c5 in
    let c3 = c4 in
    let c2 = c3 in
    let c1 = c2 in
    let a = c1.args.a in
    let b = c1.args.block.now in
    let capacity : (x at : ℕ) → 136 ≤ at → x ≡ x ⊕ lane_at b at = λ x at h. kept b x at (omega arith) in
    λ i.
    get_or a 0 0 ⊕ c1.lane_at.ensures i
    ∷ get_or a 1 0 ⊕ c2.lane_at-2.ensures i
    ∷ get_or a 2 0 ⊕ c3.lane_at-3.ensures i
    ∷ get_or a 3 0 ⊕ c4.lane_at-4.ensures i
    ∷ get_or a 4 0 ⊕ c5.lane_at-5.ensures i
    ∷ get_or a 5 0 ⊕ c6.lane_at-6.ensures i
    ∷ get_or a 6 0 ⊕ c7.lane_at-7.ensures i
    ∷ get_or a 7 0 ⊕ c8.lane_at-8.ensures i
    ∷ get_or a 8 0 ⊕ c9.lane_at-9.ensures i
    ∷ get_or a 9 0 ⊕ c10.lane_at-10.ensures i
    ∷ get_or a 10 0 ⊕ c11.lane_at-11.ensures i
    ∷ get_or a 11 0 ⊕ c12.lane_at-12.ensures i
    ∷ get_or a 12 0 ⊕ c13.lane_at-13.ensures i
    ∷ get_or a 13 0 ⊕ c14.lane_at-14.ensures i
    ∷ get_or a 14 0 ⊕ c15.lane_at-15.ensures i
    ∷ get_or a 15 0 ⊕ c16.lane_at-16.ensures i
    ∷ get_or a 16 0 ⊕ c.lane_at-17.ensures i
    ∷ capacity (get_or a 17 0) 136 (omega arith) i
    ∷ capacity (get_or a 18 0) 144 (omega arith) i
    ∷ capacity (get_or a 19 0) 152 (omega arith) i
    ∷ capacity (get_or a 20 0) 160 (omega arith) i
    ∷ capacity (get_or a 21 0) 168 (omega arith) i
    ∷ capacity (get_or a 22 0) 176 (omega arith) i
    ∷ capacity (get_or a 23 0) 184 (omega arith) i
    ∷ capacity (get_or a 24 0) 192 (omega arith) i
    ∷ []
