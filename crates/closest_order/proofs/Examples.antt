-- The order of four kept buckets, and what is taken of three, by computation.
use Prim.Native.Nat.{ℕ, ◌+◌, ◌^◌}
use mathlib.Core.Path.{◌≡◌, refl}
use mathlib.Core.List.{List, [], ◌∷◌}
use lib.ListN.{get_or}
use Rattle.closest_order.specs.Taking.{is_set, rising, falling, taking_order, taken_from}

in_order : taking_order (2 ^ 255 + 2 ^ 253 + 2 ^ 7) 4 ≡ 255 ∷ 253 ∷ 252 ∷ 254 ∷ []
unfolding is_set rising falling taking_order
in_order = refl

-- the own key as the target: nearest bucket first
own_target : taking_order 0 4 ≡ 252 ∷ 253 ∷ 254 ∷ 255 ∷ []
unfolding is_set rising falling taking_order
own_target = refl

-- of the buckets 0, 1 and 2 with these many nodes
taken : List ℕ → List ℕ
taken seated = taken_from (λ i. get_or seated i 0) 0 (0 ∷ 1 ∷ 2 ∷ [])

two : taken (15 ∷ 16 ∷ 16 ∷ []) ≡ 0 ∷ 1 ∷ []
unfolding taken taken_from
two = refl

one : taken (16 ∷ 16 ∷ 16 ∷ []) ≡ 0 ∷ []
unfolding taken taken_from
one = refl

all_three : taken (9 ∷ 0 ∷ 6 ∷ []) ≡ 0 ∷ 1 ∷ 2 ∷ []
unfolding taken taken_from
all_three = refl
