-- Laws of what slices keep: parts of them, and what is written into them. Assumes nothing.
use mathlib.Core.Path.{◌≡◌}
use mathlib.Core.List.{[], ◌∷◌, ◌++◌}
use Prim.Native.Nat.{ℕ, zero, suc, ◌+◌, ◌^◌, ◌<◌}
use native.Mathlib.Decide.{dec_lt}
use native.Mathlib.Omega.{arith}
use mir.Syntax.{w8}
use mir.Val.{Fits}
use lib.ListN.{length, take, drop, get_or, length-take, length-drop, get_or-eq_default}
use lib.Seq.{get_or-take, get_or-drop}
use Rattle.octets.specs.Octets.{Bytes, IsBytes, Slice, part}

-- what a function knows of a slice s that it was lent, in its proof: slice s c.shared-slice-known.given (omega arith)
pub slice : (s : Bytes) → ((i : ℕ) → Fits w8 (get_or s i 0)) → length s < 2 ^ 63 → Slice s
slice s known room = record { bytes = λ i. (known i).fits; size = room }

pub bytes_drop : (n : ℕ) (s : Bytes) → IsBytes s → IsBytes (drop n s)
bytes_drop n s h i = rw get_or-drop (h (n + i))

pub bytes_take : (n : ℕ) (s : Bytes) → IsBytes s → IsBytes (take n s)
bytes_take n s h i = elim (dec_lt i n) [
  | yes l ↦ rw (get_or-take n s i 0 l) (h i)
  | no l ↦ let e : get_or (take n s) i 0 ≡ 0 = get_or-eq_default (take n s) 0 (omega (arith, length-take n s)) in omega arith
]

pub bytes_part : (s : Bytes) (at n : ℕ) → IsBytes s → IsBytes (part s at n)
unfolding part
bytes_part s at n h = bytes_take n (drop at s) (bytes_drop at s h)

pub bytes_append : (s t : Bytes) → IsBytes s → IsBytes t → IsBytes (s ++ t)
bytes_append [] t hs ht i = ht i
bytes_append (b ∷ s) t hs ht zero = hs 0
bytes_append (b ∷ s) t hs ht (suc i) = bytes_append s t (λ k. hs (suc k)) ht i

-- what is left of a slice, and a part of one, are what a slice can hold
pub slice_drop : (n : ℕ) (s : Bytes) → Slice s → Slice (drop n s)
slice_drop n s h = record { bytes = bytes_drop n s h.bytes; size = omega (arith, h.size, length-drop n s) }

pub slice_part : (s : Bytes) (at n : ℕ) → Slice s → Slice (part s at n)
unfolding part
slice_part s at n h = record { bytes = bytes_part s at n h.bytes; size = omega (arith, h.size, length-take n (drop at s), length-drop at s) }
