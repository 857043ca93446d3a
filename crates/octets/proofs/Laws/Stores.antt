-- Laws of stores. Assumes nothing.
use mathlib.Core.Path.{◌≡◌, refl, sym, ap, ◌∙◌}
use mathlib.Core.Logic.{◌≢◌}
use mathlib.Core.List.{List, [], ◌∷◌, ◌++◌, append_assoc}
use Prim.Native.Nat.{ℕ, suc, ◌+◌, ◌≤◌, ◌<◌}
use native.Mathlib.Omega.{arith}
use lib.ListN.{length, take, drop, set, get_or, length-set}
use native.Mathlib.Numerals.{add-one}
use lib.Seq.{set_comm, sets, sets-eq, take-suc, length-take-le}
use borrow.Rule.Slice.PartMut.{put_mid}
use Rattle.std.proofs.lemmas.List.Edits.{paste_all}
use Rattle.std.proofs.lemmas.Slice.{put_mid-paste}
use Rattle.octets.specs.Octets.{store}

pub length-store : {A : Type 0} (v s : List A) (at : ℕ) → length (store s at v) ≡ length s
length-store [] s at = refl
length-store (b ∷ v) s at = length-store v (set s at b) (suc at) ∙ length-set s at b

-- what is written in two goes is written one after the other
pub store-append : {A : Type 0} (v w s : List A) (at : ℕ) → store s at (v ++ w) ≡ store (store s at v) (at + length v) w
store-append [] w s at = ap (λ (n : ℕ). store s n w) (omega arith)
store-append (b ∷ v) w s at =
    store-append v w (set s at b) (suc at)
    ∙ ap (λ (n : ℕ). store (store (set s at b) (suc at) v) n w) (omega arith)

-- a byte past the store can be written first
pub store-set : {A : Type 0} (v s : List A) (at j : ℕ) (b : A) → at + length v ≤ j → store (set s j b) at v ≡ set (store s at v) j b
store-set [] s at j b h = refl
store-set (x ∷ v) s at j b h =
    let ne : j ≢ at = omega arith in
    ap (λ l. store l (suc at) v) (set_comm s j at b x ne)
    ∙ store-set v (set s at x) (suc at) j b (omega arith)

-- the last byte of a store can be written first
pub store_last : {A : Type 0} (v s : List A) (at : ℕ) (b : A) → store (set s (at + length v) b) at v ≡ store s at (v ++ (b ∷ []))
store_last v s at b = store-set v s at (at + length v) b (omega arith) ∙ sym (store-append v (b ∷ []) s at)

store_sets : {A : Type 0} (v s : List A) (at : ℕ) → store s at v ≡ sets s at v
store_sets [] s at = refl
store_sets (b ∷ v) s at = store_sets v (set s at b) (suc at)

-- a store within bounds: what is before, what is stored, what is after
pub store-eq : {A : Type 0} (v s : List A) (at : ℕ) → at + length v ≤ length s → store s at v ≡ take at s ++ v ++ drop (at + length v) s
store-eq v s at h = store_sets v s at ∙ sets-eq v s at h

-- what a write to the part of a slice from index `at` leaves
pub store_part : {A : Type 0} (s v w : List A) (at k : ℕ) → w ≡ v → k ≡ length v → at + length v ≤ length s → put_mid at k s w ≡ store s at v
store_part s v w at k e n h =
    put_mid-paste at k s w v k e refl n
    ∙ paste_all s at v k n
    ∙ ap (λ (j : ℕ). take at s ++ (v ++ drop (at + j) s)) n
    ∙ sym (append_assoc (take at s) v (drop (at + length v) s))
    ∙ sym (store-eq v s at h)

-- one element more is stored
pub store_next : {A : Type 0} (s v : List A) (at : ℕ) (b : A) → set (store s at v) (at + length v) b ≡ store s at (v ++ (b ∷ []))
store_next s v at b = sym (store-append v (b ∷ []) s at)

-- one byte more of src is stored
pub store-take : (s src : List ℕ) (at i : ℕ) → i < length src → set (store s at (take i src)) (at + i) (get_or src i 0) ≡ store s at (take (i + 1) src)
store-take s src at i h =
    let n : length (take i src) ≡ i = length-take-le i src (omega arith) in
    let t : take i src ++ (get_or src i 0 ∷ []) ≡ take (i + 1) src = rw add-one (sym (take-suc src i 0 h)) in
    ap (λ (k : ℕ). set (store s at (take i src)) (at + k) (get_or src i 0)) (sym n)
    ∙ store_next s (take i src) at (get_or src i 0)
    ∙ ap (λ (v : List ℕ). store s at v) t
