-- Laws of parts, and of parts of stores. Assumes nothing.
use mathlib.Core.Path.{◌≡◌, refl, sym, ap, ◌∙◌}
use mathlib.Core.List.{List, [], ◌∷◌, ◌++◌, append_assoc}
use Prim.Native.Nat.{ℕ, zero, suc, ◌+◌, ◌-◌, ◌≤◌, ◌<◌}
use native.Mathlib.Omega.{arith}
use lib.ListN.{length, take, drop, set, get_or, length-set, length-take, length-drop}
use lib.Seq.{take-set-le, drop-set-lt, drop-set-add, drop-drop, take-take, take_all, get_or-drop, get_or-take, take_at, drop_at, get_or-set_same, get_or-set_other, drop-cons}
use Rattle.octets.specs.Octets.{part, store}
use Rattle.octets.proofs.Laws.Stores.{length-store}

pub length_part : {A : Type 0} (s : List A) (at n : ℕ) → at + n ≤ length s → length (part s at n) ≡ n
unfolding part
length_part s at n h = simp (length-take, length-drop) (omega arith)

-- the first n of a list are enough for a part that ends by n
part-take : {A : Type 0} (n i m : ℕ) (l : List A) → i + m ≤ n → part (take n l) i m ≡ part l i m
unfolding part
part-take n zero m l h = take-take m n l (omega arith)
part-take zero (suc i) m l h = absurd (omega arith)
part-take (suc n) (suc i) m [] h = refl
part-take (suc n) (suc i) m (x ∷ l) h = part-take n i m l (omega arith)

pub part-part : {A : Type 0} (s : List A) (at n i m : ℕ) → i + m ≤ n → part (part s at n) i m ≡ part s (at + i) m
unfolding part
part-part s at n i m h = part-take n i m (drop at s) h ∙ ap (λ l. take m l) (drop-drop i at s)

part_set_before : {A : Type 0} (s : List A) (at : ℕ) (b : A) (a n : ℕ) → a + n ≤ at → part (set s at b) a n ≡ part s a n
unfolding part
part_set_before s at b a n h =
    let e : at ≡ a + (at - a) = omega arith in
    ap (λ (j : ℕ). part (set s j b) a n) e
    ∙ ap (λ l. take n l) (drop-set-add a s (at - a) b)
    ∙ take-set-le n (drop a s) (at - a) b (omega arith)

pub part_store_before : {A : Type 0} (v s : List A) (at a n : ℕ) → a + n ≤ at → part (store s at v) a n ≡ part s a n
unfolding part
part_store_before [] s at a n h = refl
part_store_before (b ∷ v) s at a n h =
    part_store_before v (set s at b) (suc at) a n (omega arith) ∙ part_set_before s at b a n h

pub part-store-after : {A : Type 0} (v s : List A) (at a n : ℕ) → at + length v ≤ a → part (store s at v) a n ≡ part s a n
unfolding part
part-store-after [] s at a n h = refl
part-store-after (b ∷ v) s at a n h =
    part-store-after v (set s at b) (suc at) a n (omega arith)
    ∙ ap (λ l. take n l) (drop-set-lt a s at b (omega arith))

get_d_store_before : {A : Type 0} (d : A) (v s : List A) (at j : ℕ) → j < at → get_or (store s at v) j d ≡ get_or s j d
get_d_store_before d [] s at j h = refl
get_d_store_before d (b ∷ v) s at j h =
    get_d_store_before d v (set s at b) (suc at) j (omega arith) ∙ get_or-set_other s at j b d (omega arith)

-- what was stored is there
pub part-store : {A : Type 0} (v s : List A) (at : ℕ) → at + length v ≤ length s → part (store s at v) at (length v) ≡ v
unfolding part
part-store [] s at h = refl
part-store {A} (b ∷ v) s at h =
    let after : List A = store (set s at b) (suc at) v in
    let len : length after ≡ length s = length-store v (set s at b) (suc at) ∙ length-set s at b in
    let head : get_or after at b ≡ b = get_d_store_before b v (set s at b) (suc at) at (omega arith) ∙ get_or-set_same s at b b (omega arith) in
    let tail : part after (suc at) (length v) ≡ v = part-store v (set s at b) (suc at) (omega (arith, length-set s at b)) in
    ap (λ l. take (suc (length v)) l) (drop-cons after at b (omega arith))
    ∙ ap (λ x. x ∷ part after (suc at) (length v)) head
    ∙ ap (λ l. b ∷ l) tail

-- a store over the whole leaves what was stored
pub store_all : {A : Type 0} (s v : List A) → length v ≡ length s → store s 0 v ≡ v
unfolding part
store_all s v e =
    sym (take_all (length v) (store s 0 v) (omega (arith, length-store v s 0))) ∙ part-store v s 0 (omega arith)

pub get_d_part : (s : List ℕ) (at n i : ℕ) → i < n → get_or (part s at n) i 0 ≡ get_or s (at + i) 0
unfolding part
get_d_part s at n i h = get_or-take n (drop at s) i 0 h ∙ get_or-drop at s i 0

-- the middle one of three pieces
pub part_middle : {A : Type 0} (s x y z : List A) (n m : ℕ) → s ≡ x ++ y ++ z → length x ≡ n → length y ≡ m → part s n m ≡ y
unfolding part
part_middle s x y z n m e hx hy =
    ap (λ l. take m (drop n l)) (e ∙ append_assoc x y z)
    ∙ ap (λ l. take m l) (drop_at x (y ++ z) n hx)
    ∙ take_at y z m hy

-- the whole list is a part, and so is all of it from an index on
pub part_all : {A : Type 0} (s : List A) (n : ℕ) → length s ≤ n → part s 0 n ≡ s
unfolding part
part_all s n h = take_all n s h

pub part_rest : {A : Type 0} (s : List A) (at : ℕ) → part s at (length s - at) ≡ drop at s
unfolding part
part_rest s at = take_all (length s - at) (drop at s) (omega (arith, length-drop at s))
