-- What a whole burst is, test by test. Assumes nothing.
use mathlib.Core.Path.{◌≡◌, refl, sym, ◌∙◌}
use mathlib.Core.Bool.{Bool, true, false, ◌&&◌}
use Prim.Native.Nat.{ℕ, ◌*◌, ◌≤◌}
use borrow.Author.Tests.{leb-true, eqb-true, le-leb, eq-eqb}
use lib.Dec.{eqb, leb}
use lib.ListN.{length}
use Rattle.call_burst_lists.specs.Lists.{Burst, most, sum, is_whole}

-- the tests but the sum, passed
pub record Sized (b : Burst) (room : ℕ) : Type 0 where
  pub count : length b.lengths ≤ most
  pub signers : length b.signers ≡ 64 * length b.lengths
  pub addresses : length b.addresses ≡ 17 * length b.lengths
  pub ports : length b.ports ≡ length b.lengths
  pub millis : length b.millis ≡ length b.lengths
  pub unix : length b.unix ≡ length b.lengths
  pub list : room ≡ length b.lengths

left : (x y : Bool) → (x && y) ≡ true → x ≡ true
left true y h = refl
left false y h = h

right : (x y : Bool) → (x && y) ≡ true → y ≡ true
right true y h = h
right false y h = cc

no : (x : Bool) → (x ≡ true → ⊥) → x ≡ false
no true h = absurd (h refl)
no false h = refl

module _ (b : Burst) (room : ℕ) where
  abbrev n : ℕ
  n = length b.lengths

  pub sized-sum : Sized b room → is_whole b room ≡ eqb (sum b.lengths) (length b.buffer)
  unfolding is_whole
  sized-sum z =
      rw (
        le-leb n most z.count,
        eq-eqb (length b.signers) (64 * n) z.signers,
        eq-eqb (length b.addresses) (17 * n) z.addresses,
        eq-eqb (length b.ports) n z.ports,
        eq-eqb (length b.millis) n z.millis,
        eq-eqb (length b.unix) n z.unix,
        eq-eqb room n z.list,
      )

  pub sized : is_whole b room ≡ true → Sized b room
  unfolding is_whole
  sized h₀ =
      let h₁ = right (leb n most) _ h₀ in
      let h₂ = right (eqb (length b.signers) (64 * n)) _ h₁ in
      let h₃ = right (eqb (length b.addresses) (17 * n)) _ h₂ in
      let h₄ = right (eqb (length b.ports) n) _ h₃ in
      let h₅ = right (eqb (length b.millis) n) _ h₄ in
      let h₆ = right (eqb (length b.unix) n) _ h₅ in
      record {
        count = leb-true n most (left (leb n most) _ h₀);
        signers = eqb-true (length b.signers) (64 * n) (left (eqb (length b.signers) (64 * n)) _ h₁);
        addresses = eqb-true (length b.addresses) (17 * n) (left (eqb (length b.addresses) (17 * n)) _ h₂);
        ports = eqb-true (length b.ports) n (left (eqb (length b.ports) n) _ h₃);
        millis = eqb-true (length b.millis) n (left (eqb (length b.millis) n) _ h₄);
        unix = eqb-true (length b.unix) n (left (eqb (length b.unix) n) _ h₅);
        list = eqb-true room n (left (eqb room n) _ h₆);
      }

  pub sums : is_whole b room ≡ true → sum b.lengths ≡ length b.buffer
  sums h = eqb-true (sum b.lengths) (length b.buffer) (sym (sized-sum (sized h)) ∙ h)

  -- where a test fails
  pub not-whole : (Sized b room → ⊥) → is_whole b room ≡ false
  not-whole h = no (is_whole b room) (λ e. h (sized e))
