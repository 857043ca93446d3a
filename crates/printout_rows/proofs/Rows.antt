-- The pieces of a row, which are written one after the other, and its length. Assumes nothing.
use mathlib.Core.Path.{◌≡◌, refl, sym, ap, ◌∙◌}
use mathlib.Core.List.{List, [], ◌∷◌, ◌++◌, append_assoc}
use Prim.Native.Nat.{ℕ, ◌+◌, ◌≤◌}
use native.Mathlib.Omega.{arith}
use lib.ListN.{length, take, length-append, length-take}
use Rattle.octets.specs.Octets.{Bytes, store}
use Rattle.octets.proofs.Writing.{Wrote}
use Rattle.octets.proofs.Progress.{Progress, concat, start, finish}
use Rattle.text.specs.Rows.{tabbed, row_end, row}
use Rattle.text.proofs.Decimals.{length_bound}
use Rattle.text.proofs.Hex.{length-hex}
use Rattle.entry.specs.declared.PingState.{PingState}
use Rattle.entry.specs.declared.PingState.TheVariants.{Quiet, Out}
use Rattle.entry.proofs.Laws.{PingFits}
use Rattle.printout_rows.specs.Rows.{key_text, ping_text}

-- ---- the pieces of a row

-- each field with its tab, then what comes last
abbrev pub tabs : List Bytes → List Bytes → List Bytes
tabs [] last = last
tabs (f ∷ fs) last = (0x09 ∷ f) ∷ tabs fs last

pub tabs_are : (fields last : List Bytes) → concat (tabs fields last) ≡ tabbed fields ++ concat last
tabs_are [] last = refl
tabs_are (f ∷ fs) last =
    ap (λ (x : Bytes). 0x09 ∷ f ++ x) (tabs_are fs last) ∙ ap (λ (x : Bytes). 0x09 ∷ x) (sym (append_assoc f (tabbed fs) (concat last)))

abbrev pub pieces : Bytes → List Bytes → List Bytes
pieces first more = first ∷ tabs more (row_end ∷ [])

pub pieces_are : (first : Bytes) (more : List Bytes) → concat (pieces first more) ≡ row first more
pieces_are first more = ap (λ (x : Bytes). first ++ x) (tabs_are more (row_end ∷ [])) ∙ sym (append_assoc first (tabbed more) row_end)

pub tabbed-append : (a b : List Bytes) → tabbed (a ++ b) ≡ tabbed a ++ tabbed b
tabbed-append [] b = refl
tabbed-append (f ∷ a) b = ap (λ (t : Bytes). 0x09 ∷ f ++ t) (tabbed-append a b) ∙ ap (λ (t : Bytes). 0x09 ∷ t) (sym (append_assoc f (tabbed a) (tabbed b)))

-- ---- its length

-- the lengths of texts, with one for the tab before each
abbrev pub total : List Bytes → ℕ
total [] = 0
total (f ∷ fs) = 1 + length f + total fs

length-tabbed : (fs : List Bytes) → length (tabbed fs) ≡ total fs
length-tabbed [] = refl
length-tabbed (f ∷ fs) = omega (arith, length-append f (tabbed fs), length-tabbed fs)

pub length-row : (first : Bytes) (more : List Bytes) → length (row first more) ≡ length first + total more + 1
length-row first more = omega (arith, length-append (first ++ tabbed more) row_end, length-append first (tabbed more), length-tabbed more)

-- ---- writing it

-- a row is being written at `at` of d₀: d is how the bytes now stand, n the index after what is written, and `rest` is still to come
abbrev pub Writing : Bytes → ℕ → Bytes → List Bytes → List Bytes → Bytes → ℕ → Type 0
Writing d₀ at first more rest d n = Progress d₀ at (pieces first more) rest d n

module _ (d : Bytes) (at : ℕ) (first : Bytes) (more : List Bytes) where
  pub begin : at + length (row first more) ≤ length d → Writing d at first more (pieces first more) d at
  begin h = start d at (pieces first more) (omega (arith, h, ap length (pieces_are first more)))

  pub end : {d' : Bytes} {n : ℕ} → Writing d at first more [] d' n → Wrote d at (row first more) d' n
  end p = finish p (pieces_are first more)

-- ---- a field whose text is that of a known value

module _ {A : Type 0} (text : A → Bytes) {x y : A} (e : x ≡ y) where
  pub field_fits : (at : ℕ) {n : ℕ} → at + length (0x09 ∷ text x) ≤ n → at + length (0x09 ∷ text y) ≤ n
  field_fits at h = omega (arith, ap (λ (a : A). length (text a)) e)

  pub field-wrote : (d : Bytes) (at : ℕ) {d' : Bytes} {r : ℕ} → Wrote d at (0x09 ∷ text y) d' r → Wrote d at (0x09 ∷ text x) d' r
  field-wrote d at w =
      (w.0 ∙ ap (λ (a : A). at + length (0x09 ∷ text a)) (sym e), w.1 ∙ ap (λ (a : A). store d at (0x09 ∷ text a)) (sym e))

-- ---- how long a field gets

pub key_bound : (key : Bytes) → length (key_text key) ≤ 16
key_bound key = omega (arith, length-hex (take 8 key), length-take 8 key)

pub ping_bound : (p : PingState) → PingFits p → length (ping_text p) ≤ 20
ping_bound Quiet h = omega arith
ping_bound (Out t) h = length_bound t.0 h
