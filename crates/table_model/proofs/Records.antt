-- Byte forms of one size, one after the other: reading one, writing one, and reading all. Assumes nothing.
use mathlib.Core.Path.{◌≡◌, refl, sym, ap, ◌∙◌}
use mathlib.Core.List.{List, [], ◌∷◌, ◌++◌, append_assoc, flat_map}
use Prim.Native.Nat.{ℕ, zero, suc, ◌+◌, ◌*◌, ◌≤◌, ◌<◌}
use native.Mathlib.Omega.{arith}
use lib.ListN.{length, get_or, set, take, drop, length-append, take-append-drop, drop_of_length-le}
use lib.Seq.{take_at, drop_at, drop-drop}
use Rattle.octets.specs.Octets.{Bytes, part, store}
use Rattle.octets.proofs.Laws.{part_middle, length_part, store-eq}
use Rattle.lists.specs.Lists.{All}
use Rattle.table_model.specs.Layout.{tabulate}

-- as many elements as are there are stored over them
pub store_middle : {A : Type 0} (x y y' z : List A) (at : ℕ) → length x ≡ at → length y' ≡ length y → store (x ++ y ++ z) at y' ≡ x ++ y' ++ z
store_middle {A} x y y' z at n m =
    let s : List A = x ++ y ++ z in
    let len : length s ≡ at + length y + length z = length-append (x ++ y) z ∙ omega (arith, length-append x y) in
    let front : take at s ≡ x = ap (λ l. take at l) (append_assoc x y z) ∙ take_at x (y ++ z) at n in
    let back : drop (at + length y') s ≡ z = drop_at (x ++ y) z (at + length y') (length-append x y ∙ omega arith) in
    store-eq y' s at (omega arith) ∙ ap (λ l. l ++ y' ++ drop (at + length y') s) front ∙ ap (λ l. x ++ y' ++ l) back

-- a part stored where it was changes nothing
pub store-part : {A : Type 0} (s : List A) (at n : ℕ) → at + n ≤ length s → store s at (part s at n) ≡ s
unfolding part
store-part s at n h =
    let size : length (part s at n) ≡ n = length_part s at n h in
    store-eq (part s at n) s at (omega arith)
    ∙ ap (λ (m : ℕ). take at s ++ part s at n ++ drop (at + m) s) size
    ∙ append_assoc (take at s) (part s at n) (drop (at + n) s)
    ∙ ap (λ l. take at s ++ (take n (drop at s) ++ l)) (sym (drop-drop n at s))
    ∙ ap (λ l. take at s ++ l) (take-append-drop n (drop at s))
    ∙ take-append-drop at s

module _ {A : Type 0} where
  pub length-tabulate : (n : ℕ) (f : ℕ → A) → length (tabulate n f) ≡ n
  unfolding tabulate
  length-tabulate zero f = refl
  length-tabulate (suc n) f = ap suc (length-tabulate n (λ i. f (suc i)))

  pub get_d_tabulate : (n : ℕ) (f : ℕ → A) (i : ℕ) (d : A) → i < n → get_or (tabulate n f) i d ≡ f i
  unfolding tabulate
  get_d_tabulate zero f i d h = absurd (omega arith)
  get_d_tabulate (suc n) f zero d h = refl
  get_d_tabulate (suc n) f (suc i) d h = get_d_tabulate n (λ k. f (suc k)) i d (omega arith)

  pub All-tabulate : (P : A → Type 0) (n : ℕ) (f : ℕ → A) → ((i : ℕ) → i < n → P (f i)) → All P (tabulate n f)
  unfolding tabulate
  All-tabulate P zero f h = tt
  All-tabulate P (suc n) f h = (h 0 (omega arith), All-tabulate P n (λ i. f (suc i)) (λ i k. h (suc i) (omega arith)))

  -- a list by its elements
  pub tabulate_get_d : (n : ℕ) (f : ℕ → A) (l : List A) (d : A) → length l ≡ n → ((i : ℕ) → i < n → f i ≡ get_or l i d) → tabulate n f ≡ l
  unfolding tabulate
  tabulate_get_d zero f [] d e h = refl
  tabulate_get_d zero f (a ∷ l) d e h = absurd (omega arith)
  tabulate_get_d (suc n) f [] d e h = absurd (omega arith)
  tabulate_get_d (suc n) f (a ∷ l) d e h =
      let first : f 0 ≡ a = h 0 (omega arith) in
      let rest : tabulate n (λ i. f (suc i)) ≡ l = tabulate_get_d n (λ i. f (suc i)) l d (omega arith) (λ i k. h (suc i) (omega arith)) in
      ap (λ x. x ∷ tabulate n (λ i. f (suc i))) first ∙ ap (λ m. a ∷ m) rest

  -- f gives the byte form of an element, of `size` bytes
  module _ (f : A → Bytes) (size : ℕ) where
    abbrev pub Sized : List A → Type 0
    Sized l = All (λ a. length (f a) ≡ size) l

    pub length_flat_map : (l : List A) → Sized l → length (flat_map f l) ≡ length l * size
    unfolding flat_map
    length_flat_map [] h = omega arith
    length_flat_map (a ∷ l) h = length-append (f a) (flat_map f l) ∙ omega (arith, h.0, length_flat_map l h.1)

    -- the element at an index is read where it stands
    pub part_flat_map : (l : List A) (i : ℕ) (d : A) → Sized l → i < length l
        → (s pre : Bytes) (at : ℕ) → s ≡ pre ++ flat_map f l → length pre ≡ at → part s (at + i * size) size ≡ f (get_or l i d)
    unfolding flat_map
    part_flat_map [] i d h k s pre at e n = absurd (omega arith)
    part_flat_map (a ∷ l) zero d h k s pre at e n =
        part_middle s pre (f a) (flat_map f l) (at + 0 * size) size (e ∙ simp append_assoc) (omega arith) h.0
    part_flat_map (a ∷ l) (suc i) d h k s pre at e n =
        let len : length (pre ++ f a) ≡ at + size = length-append pre (f a) ∙ omega (arith, h.0) in
        let place : at + size + i * size ≡ at + suc i * size = omega arith in
        rw place at (part_flat_map l i d h.1 (omega arith) s (pre ++ f a) (at + size) (e ∙ simp append_assoc) len)

    -- an element stored over the one at an index takes its place
    pub store_flat_map : (l : List A) (i : ℕ) (b : A) → Sized l → length (f b) ≡ size → i < length l
        → (pre : Bytes) → store (pre ++ flat_map f l) (length pre + i * size) (f b) ≡ pre ++ flat_map f (set l i b)
    unfolding flat_map
    store_flat_map [] i b h k j pre = absurd (omega arith)
    store_flat_map (a ∷ l) zero b h k j pre =
        ap (λ m. store m (length pre + 0 * size) (f b)) (sym (append_assoc pre (f a) (flat_map f l)))
        ∙ store_middle pre (f a) (f b) (flat_map f l) (length pre + 0 * size) (omega arith) (k ∙ sym h.0)
        ∙ append_assoc pre (f b) (flat_map f l)
    store_flat_map (a ∷ l) (suc i) b h k j pre =
        let place : length pre + suc i * size ≡ length (pre ++ f a) + i * size = omega (arith, length-append pre (f a), h.0) in
        let ih : store ((pre ++ f a) ++ flat_map f l) (length (pre ++ f a) + i * size) (f b) ≡ (pre ++ f a) ++ flat_map f (set l i b) =
        store_flat_map l i b h.1 k (omega arith) (pre ++ f a) in
        ap (λ (n : ℕ). store (pre ++ (f a ++ flat_map f l)) n (f b)) place
        ∙ ap (λ m. store m (length (pre ++ f a) + i * size) (f b)) (sym (append_assoc pre (f a) (flat_map f l)))
        ∙ ih
        ∙ append_assoc pre (f a) (flat_map f (set l i b))

    -- bytes are the forms of what is read from them, where each of their parts is
    pub flat_map_tabulate : (n : ℕ) (g : ℕ → A) (s : Bytes) (at : ℕ) → length s ≡ at + n * size
        → ((i : ℕ) → i < n → f (g i) ≡ part s (at + i * size) size) → flat_map f (tabulate n g) ≡ drop at s
    unfolding flat_map tabulate part
    flat_map_tabulate zero g s at e h = sym (drop_of_length-le s {i = at} (omega arith))
    flat_map_tabulate (suc n) g s at e h =
        let start : at + 0 * size ≡ at = omega arith in
        let first : f (g 0) ≡ take size (drop at s) = h 0 (omega arith) ∙ ap (λ (m : ℕ). take size (drop m s)) start in
        let rest : flat_map f (tabulate n (λ i. g (suc i))) ≡ drop (at + size) s =
        flat_map_tabulate n (λ i. g (suc i)) s (at + size) (omega arith)
        (λ i k. let place : at + suc i * size ≡ at + size + i * size = omega arith in
        h (suc i) (omega arith) ∙ ap (λ (m : ℕ). take size (drop m s)) place) in
        ap (λ m. m ++ flat_map f (tabulate n (λ i. g (suc i)))) first
        ∙ ap (λ m. take size (drop at s) ++ m) (rest ∙ sym (drop-drop size at s))
        ∙ take-append-drop size (drop at s)
