-- Laws of the strict reader: bounds of an item, the items of a payload one after the other, integers. Assumes nothing.
use Prim.Native.Nat.{ℕ, zero, suc, pred, ◌+◌, ◌-◌, ◌≤◌, ◌<◌}
use Rattle.std.specs.Prelude.{Option, Some, None}
use mathlib.Core.Path.{◌≡◌, refl, sym, ap, subst, ◌∙◌}
use mathlib.Core.Logic.{◌≢◌}
use mathlib.Core.Bool.{Bool, true, false, cond, ◌&&◌}
use mathlib.Core.List.{[], ◌∷◌}
use native.Mathlib.Nat.{add_assoc, zero-add, not-suc-le-zero, le_of_suc-le-suc}
use native.Mathlib.Omega.{arith}
use borrow.Author.Tests.{ne_eqb, le-ltb}
use lib.ListN.{length, get_or, take, drop, length-drop, drop_of_length-le}
use lib.Seq.{drop-drop}
use Rattle.octets.specs.Octets.{Bytes, part, number}
use Rattle.octets.proofs.Laws.{part_rest}
use Rattle.rlp.specs.Reading.{item, within, long, sized, strict, is_one, head, extent, is_whole, whole_after, whole, count_after, count, offset, leading_zero, uint_of}
use Rattle.rlp.specs.declared.Item.{Item}
use Rattle.rlp.proofs.Cases.{by_cases, by_leb, by_ltb, by_eqb}

-- ---- bounds

-- an item that is read has at least a byte, and lies within s
abbrev pub InBounds : Bytes → Option Item → Type 0
InBounds s (Some i) = (0 < i.skip + i.size) × (i.skip + i.size ≤ length s)
InBounds s None = Unit {0}

module _ (s : Bytes) where
  within-bounds : (list : Bool) (skip size : ℕ) → 0 < skip → skip ≤ length s → InBounds s (within s list skip size)
  within-bounds list skip size p h = by_leb (InBounds s) size (length s - skip) (λ e. (omega arith, omega arith)) (λ e. tt)

  long-bounds : (list : Bool) (k : ℕ) → 0 < length s → InBounds s (long s list k)
  unfolding long
  long-bounds list k h =
      by_leb (InBounds s) k (length s - 1)
      (λ e. by_eqb (InBounds s) (get_or s 1 0) 0 (λ _. tt)
      (λ _. by_ltb (InBounds s) (number (part s 1 k)) 56 (λ _. tt) (λ _. within-bounds list (1 + k) _ (omega arith) (omega arith))))
      (λ _. tt)

  sized-bounds : (list : Bool) (tag : ℕ) → 0 < length s → InBounds s (sized s list tag)
  unfolding sized
  sized-bounds list tag h =
      by_ltb (InBounds s) tag 56 (λ _. within-bounds list 1 tag (omega arith) h) (λ _. long-bounds list (tag - 55) h)

  strict-bounds : (h : Option Item) → InBounds s h → InBounds s (strict s h)
  unfolding strict
  strict-bounds h b = by_cases (InBounds s) (is_one h) (λ _. by_ltb (InBounds s) (get_or s 1 0) 0x80 (λ _. tt) (λ _. b)) (λ _. b)

  pub head-bounds : InBounds s (head s)
  unfolding head
  head-bounds =
      by_eqb (InBounds s) (length s) 0 (λ _. tt)
      (λ e.
      let p : 0 < length s = omega arith in
      by_ltb (InBounds s) (get_or s 0 0) 0x80 (λ _. (omega arith, omega arith))
      (λ _. by_ltb (InBounds s) (get_or s 0 0) 0xc0 (λ _. strict-bounds _ (sized-bounds false _ p)) (λ _. sized-bounds true _ p)))

  pub item-bounds : {list : Bool} {skip size : ℕ} → head s ≡ item list skip size → (0 < skip + size) × (skip + size ≤ length s)
  item-bounds e = subst (InBounds s) e head-bounds

  pub extent-bound : extent (head s) ≤ length s
  extent-bound = go (head s) head-bounds
    where
      go : (h : Option Item) → InBounds s h → extent h ≤ length s
      go (Some i) b = b.1
      go None b = omega arith

-- an offset lies within s, or at its end
pub offset_bound : (n : ℕ) (s : Bytes) → offset n s ≤ length s
offset_bound zero s = omega arith
offset_bound (suc n) s =
    omega (arith, extent-bound s, offset_bound n (drop (extent (head s)) s), length-drop (extent (head s)) s)

-- ---- the item at `at`

-- what `read_header(&s[at..])` gave is what stands at `at`
pub head_at : (s : Bytes) (at : ℕ) {h h' : Option Item} → h ≡ head (take (length s - at) (drop at s)) → h ≡ h' → head (drop at s) ≡ h'
unfolding part
head_at s at e f = ap head (sym (part_rest s at)) ∙ sym e ∙ f

-- an item that was read at `at` has a byte, and ends within s
pub item_at : (s : Bytes) (at : ℕ) {list : Bool} {skip size : ℕ} → at ≤ length s → head (drop at s) ≡ item list skip size
    → (0 < skip + size) × (at + skip + size ≤ length s)
item_at s at l e = let b = item-bounds (drop at s) e in (b.0, omega (arith, b.1, length-drop at s))

-- the item that `read_header(&s[at..])` gave ends within s
pub item_ends : (s : Bytes) (at : ℕ) {i : Item} → at ≤ length s → head (take (length s - at) (drop at s)) ≡ Some i → at + i.skip + i.size ≤ length s
item_ends s at l e = (item_at s at l (head_at s at refl e)).1

-- what is left after an item that was read at `at`
pub drop_item : (s : Bytes) (at skip size : ℕ) → drop (skip + size) (drop at s) ≡ drop (at + skip + size) s
drop_item s at skip size = rw (drop-drop, add_assoc)

-- ---- the items of a payload, one after the other

-- bytes that are passed over first are dropped
pass_over : {A : Type 0} (f : ℕ → Bytes → A) → ((n b : ℕ) (s : Bytes) → f (suc n) (b ∷ s) ≡ f n s) → (n : ℕ) (s : Bytes) → n ≤ length s → f n s ≡ f 0 (drop n s)
pass_over f e zero s h = refl
pass_over f e (suc n) [] h = absurd (not-suc-le-zero h)
pass_over f e (suc n) (b ∷ s) h = e n b s ∙ pass_over f e n s (le_of_suc-le-suc h)

-- from an item of n bytes, the first of which is b, to the next
next : {A : Type 0} (f : ℕ → Bytes → A) → ((n b : ℕ) (s : Bytes) → f (suc n) (b ∷ s) ≡ f n s) → (n b : ℕ) (s : Bytes) → 0 < n → n ≤ suc (length s)
    → f (pred n) s ≡ f 0 (drop n (b ∷ s))
next f e zero b s p h = absurd (omega arith)
next f e (suc n) b s p h = pass_over f e n s (le_of_suc-le-suc h)

-- after an item come the others
pub whole_next : (s : Bytes) → 0 < extent (head s) → whole s ≡ whole (drop (extent (head s)) s)
unfolding whole
whole_next [] p = absurd (omega (arith, extent-bound []))
whole_next (b ∷ s) p = go (head (b ∷ s)) p ∙ next whole_after (λ n b s. refl) (extent (head (b ∷ s))) b s p (extent-bound (b ∷ s))
  where
    go : (h : Option Item) → 0 < extent h → (is_whole h && whole_after (pred (extent h)) s) ≡ whole_after (pred (extent h)) s
    go (Some i) p = refl
    go None p = absurd (omega arith)

pub count_next : (s : Bytes) → 0 < extent (head s) → count s ≡ suc (count (drop (extent (head s)) s))
unfolding count
count_next [] p = absurd (omega (arith, extent-bound []))
count_next (b ∷ s) p = go (head (b ∷ s)) p ∙ ap suc (next count_after (λ n b s. refl) (extent (head (b ∷ s))) b s p (extent-bound (b ∷ s)))
  where
    go : (h : Option Item) → 0 < extent h → cond (is_whole h) (suc (count_after (pred (extent h)) s)) 0 ≡ suc (count_after (pred (extent h)) s)
    go (Some i) p = refl
    go None p = absurd (omega arith)

-- a header without extent is broken
stuck : (s : Bytes) → extent (head s) ≡ 0 → head s ≡ None
stuck s = go (head s) (head-bounds s)
  where
    go : (h : Option Item) → InBounds s h → extent h ≡ 0 → h ≡ None
    go (Some i) b e = absurd (omega (arith, b.0))
    go None b e = refl

pub whole_broken : (s : Bytes) → 0 < length s → head s ≡ None → whole s ≡ false
unfolding whole
whole_broken [] h e = absurd (not-suc-le-zero h)
whole_broken (b ∷ s) h e = ap (λ (h : Option Item). is_whole h && whole_after (pred (extent h)) s) e

pub count_broken : (s : Bytes) → head s ≡ None → count s ≡ 0
unfolding count
count_broken [] e = refl
count_broken (b ∷ s) e = ap (λ (h : Option Item). cond (is_whole h) (suc (count_after (pred (extent h)) s)) 0) e

pub offset_broken : (s : Bytes) (n : ℕ) → head s ≡ None → offset n s ≡ 0
offset_broken s zero e = refl
offset_broken s (suc n) e = rw e (zero-add _ ∙ offset_broken s n e)

pub whole-nil : whole [] ≡ true
unfolding whole
whole-nil = refl

pub count-nil : count [] ≡ 0
unfolding count
count-nil = refl

-- a turn of a loop over the items: the item at `at` ends at `end`
module _ (s : Bytes) (at end : ℕ) (ends : end ≡ at + extent (head (drop at s))) where
  rest : drop end s ≡ drop (extent (head (drop at s))) (drop at s)
  rest = ap (λ (n : ℕ). drop n s) ends ∙ sym (drop-drop (extent (head (drop at s))) at s)

  pub end-bound : at ≤ length s → (at ≤ end) × (end ≤ length s)
  end-bound h = (omega arith, omega (arith, extent-bound (drop at s), length-drop at s))

  pub whole-on : end ≢ at → whole (drop end s) ≡ whole (drop at s)
  whole-on ne = ap whole rest ∙ sym (whole_next (drop at s) (omega arith))

  pub whole-off : end ≡ at → at < length s → whole (drop at s) ≡ false
  whole-off e l = whole_broken (drop at s) (omega (arith, length-drop at s)) (stuck (drop at s) (omega arith))

  pub count-on : end ≢ at → suc (count (drop end s)) ≡ count (drop at s)
  count-on ne = ap (λ (t : Bytes). suc (count t)) rest ∙ sym (count_next (drop at s) (omega arith))

  pub count-off : end ≡ at → count (drop at s) ≡ 0
  count-off e = count_broken (drop at s) (stuck (drop at s) (omega arith))

  pub offset-on : (n : ℕ) → 0 < n → end + offset (n - 1) (drop end s) ≡ at + offset n (drop at s)
  offset-on zero p = absurd (omega arith)
  offset-on (suc n) p =
      let m : suc n - 1 ≡ n = omega arith in
      let r : offset (suc n - 1) (drop end s) ≡ offset n (drop (extent (head (drop at s))) (drop at s)) = rw (m, rest) in
      omega arith

  pub offset-off : end ≡ at → (n : ℕ) → offset n (drop at s) ≡ 0
  offset-off e n = offset_broken (drop at s) n (stuck (drop at s) (omega arith))

pub whole_end : (s : Bytes) (at : ℕ) → length s ≤ at → whole (drop at s) ≡ true
whole_end s at h = ap whole (drop_of_length-le s h) ∙ whole-nil

pub count_end : (s : Bytes) (at : ℕ) → length s ≤ at → count (drop at s) ≡ 0
count_end s at h = ap count (drop_of_length-le s h) ∙ count-nil

-- ---- an integer's reading

pub uint-value : (s : Bytes) → length s ≤ 8 → leading_zero s ≡ false → Some (number s) ≡ uint_of s
unfolding uint_of
uint-value s h z = simp (le-ltb _ _ h, z)

pub no_leading_zero : (s : Bytes) → (0 < length s → get_or s 0 0 ≢ 0) → leading_zero s ≡ false
no_leading_zero [] e = refl
no_leading_zero (b ∷ s) e = ne_eqb b 0 (e (omega arith))
