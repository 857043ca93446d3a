-- The tests of a ping that was sent before the bucket's own, in the code's order and in the rules': the same answer. Assumes nothing.
use mathlib.Core.Path.{◌≡◌, refl}
use mathlib.Core.Bool.{Bool, true, false, not}
use mathlib.Core.List.{[], ◌∷◌}
use Prim.Native.Nat.{ℕ}
use Rattle.lists.specs.Lists.{first}
use Rattle.call_touched.specs.Steps.{is_wrong_key, is_own_key}
use Rattle.call_touched.proofs.Touch.{leads}
use Rattle.call_touched.specs.Placed.{In}
use Rattle.call_touched.specs.Steps.{kept_place}
use Rattle.call_ping_sent.specs.Steps.{placed_by}

-- 2 to 12
pub same_placed : (back hashed whole own kept form : Bool) (i : ℕ)
    → placed_by (first ((back, 2) ∷ (not hashed, 4) ∷ (not whole, 5) ∷ (not form, 6) ∷ (own, 7) ∷ (not kept, 12) ∷ [])) (In i)
    ≡ placed_by
    (first
    ((back, 2)
    ∷ (not hashed, 4)
    ∷ (is_wrong_key (leads whole own kept i), 5)
    ∷ (not form, 6)
    ∷ (is_own_key (leads whole own kept i), 7)
    ∷ []))
    (kept_place (leads whole own kept i))
same_placed true hashed whole own kept form i = refl
same_placed false false whole own kept form i = refl
same_placed false true false own kept form i = refl
same_placed false true true true kept false i = refl
same_placed false true true true kept true i = refl
same_placed false true true false true false i = refl
same_placed false true true false true true i = refl
same_placed false true true false false false i = refl
same_placed false true true false false true i = refl
