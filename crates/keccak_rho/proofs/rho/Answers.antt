-- `keccak_rho::rho` meets its contract: lane i is what the i-th call of `rotl` ensures, and the table is the walk that `offsets` computes.
-- Assumes nothing.
use mathlib.Core.List.{[], ◌∷◌}
use Rattle.keccak_rho.proofs.rho.Goals as goal

pub returns : goal.returns
returns c = let c24 = c in
    let c23 = c24 in
    let c22 = c23 in
    let c21 = c22 in
    let c20 = c21 in
    let c19 = c20 in
    let c18 = c19 in
    let c17 = c18 in
    let c16 = c17 in
    let c15 = c16 in
    let c14 = c15 in
    let c13 = c14 in
    let c12 = c13 in
    let c11 = c12 in
    let c10 = c11 in
    let c9 = c10 in
    let c8 = c9 in
    let c7 = c8 in
    let c6 = c7 in
    let c5 = c6 in
    let c4 = c5 in
    let c3 = c4 in
    let c2 = c3 in
    let c1 = c2 in
    λ i.
    c1.rotl.ensures i ∷ c2.rotl-2.ensures i ∷ c3.rotl-3.ensures i ∷ c4.rotl-4.ensures i ∷ c5.rotl-5.ensures i
    ∷ c6.rotl-6.ensures i ∷ c7.rotl-7.ensures i ∷ c8.rotl-8.ensures i ∷ c9.rotl-9.ensures i ∷ c10.rotl-10.ensures i
    ∷ c11.rotl-11.ensures i ∷ c12.rotl-12.ensures i ∷ c13.rotl-13.ensures i ∷ c14.rotl-14.ensures i ∷ c15.rotl-15.ensures i
    ∷ c16.rotl-16.ensures i ∷ c17.rotl-17.ensures i ∷ c18.rotl-18.ensures i ∷ c19.rotl-19.ensures i ∷ c20.rotl-20.ensures i
    ∷ c21.rotl-21.ensures i ∷ c22.rotl-22.ensures i ∷ c23.rotl-23.ensures i ∷ c24.rotl-24.ensures i ∷ c.rotl-25.ensures i ∷ []
