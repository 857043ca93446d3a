-- `keccak_complement::chi_complemented` meets its contract: each lane's term is right for all bits, with the masks of the lanes that it reads and of
-- the lane that it makes. Assumes nothing.
use mathlib.Core.Path.{◌≡◌, refl}
use mathlib.Core.List.{[], ◌∷◌}
use Prim.Native.Nat.{ℕ}
use lib.ListN.{get_or}
use borrow.Author.Rules.{rules}
use mir.Syntax.{w64}
use mir.Val.{Fits}
use Rattle.keccak_complement.specs.Complement.{mask, added, complement, complement_before_chi}
use Rattle.keccak_complement.proofs.Bits.{Term, first, second, third, none, all, inverse, and, or, xor, value, table, same}
use Rattle.keccak_complement.proofs.chi_complemented.Goals as goal

-- a lane of chi, with p, q and r added to the lanes that it reads and m to what it makes of them
abbrev chi_lane : Term → Term → Term → Term → Term
chi_lane p q r m = xor (xor (xor first p) (and (inverse (xor second q)) (xor third r))) m

pub returns : goal.returns
unfolding complement complement_before_chi added mask
returns c = let a = c.args.a in
    let fits : (k : ℕ) → Fits w64 (get_or a k 0) = λ k. search rules in
    let lane : (t p q r m : Term) → table t ≡ table (chi_lane p q r m) → (k l n : ℕ)
    → value 64 (get_or a k 0) (get_or a l 0) (get_or a n 0) t ≡ value 64 (get_or a k 0) (get_or a l 0) (get_or a n 0) (chi_lane p q r m) =
    λ t p q r m e k l n. same t (chi_lane p q r m) e 64 (get_or a k 0) (get_or a l 0) (get_or a n 0) (fits k).fits (fits l).fits (fits n).fits
    in
    λ i.
    lane (xor first (or second third)) all none all none refl 0 1 2 i
    ∷ lane (xor first (or (inverse second) third)) none all all all refl 1 2 3 i
    ∷ lane (xor first (and second third)) all all none all refl 2 3 4 i
    ∷ lane (xor first (or second third)) all none all none refl 3 4 0 i
    ∷ lane (xor first (and second third)) none all none none refl 4 0 1 i
    ∷ lane (xor first (or second third)) all none all none refl 5 6 7 i
    ∷ lane (xor first (and second third)) none all none none refl 6 7 8 i
    ∷ lane (xor first (or second (inverse third))) all none none none refl 7 8 9 i
    ∷ lane (xor first (or second third)) none none all all refl 8 9 5 i
    ∷ lane (xor first (and second third)) none all none none refl 9 5 6 i
    ∷ lane (xor first (or second third)) all none all none refl 10 11 12 i
    ∷ lane (xor first (and second third)) none all none none refl 11 12 13 i
    ∷ lane (xor first (and (inverse second) third)) all none none all refl 12 13 14 i
    ∷ lane (xor (inverse first) (or second third)) none none all none refl 13 14 10 i
    ∷ lane (xor first (and second third)) none all none none refl 14 10 11 i
    ∷ lane (xor first (and second third)) none all none none refl 15 16 17 i
    ∷ lane (xor first (or second third)) all none all none refl 16 17 18 i
    ∷ lane (xor first (or (inverse second) third)) none all all all refl 17 18 19 i
    ∷ lane (xor (inverse first) (and second third)) all all none none refl 18 19 15 i
    ∷ lane (xor first (or second third)) all none all none refl 19 15 16 i
    ∷ lane (xor first (and (inverse second) third)) all none none all refl 20 21 22 i
    ∷ lane (xor (inverse first) (or second third)) none none all none refl 21 22 23 i
    ∷ lane (xor first (and second third)) none all none none refl 22 23 24 i
    ∷ lane (xor first (or second third)) all none all none refl 23 24 20 i
    ∷ lane (xor first (and second third)) none all none none refl 24 20 21 i
    ∷ []
