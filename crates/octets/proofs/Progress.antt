-- A run of writes, one after the other, is one write of all that was written.
use Prim.Native.Nat.{ℕ, ◌+◌, ◌≤◌}
use mathlib.Core.Path.{◌≡◌, refl, sym, ap, subst, ◌∙◌}
use mathlib.Core.List.{List, [], ◌∷◌, ◌++◌, append_assoc, append-nil}
use native.Mathlib.Omega.{arith}
use lib.ListN.{length, length-append}
use Rattle.octets.specs.Octets.{Bytes}
use Rattle.octets.proofs.Laws.{length-store}
use Rattle.octets.proofs.Writing.{Wrote, wrote_append}

-- byte strings one after the other
abbrev pub concat : List Bytes → Bytes
concat [] = []
concat (x ∷ xs) = x ++ concat xs

-- the byte strings `all` are being written at `at` of d₀: d is how the buffer now stands, n the place after what is written, and `rest` is still to come
pub record Progress (d₀ : Bytes) (at : ℕ) (all rest : List Bytes) (d : Bytes) (n : ℕ) : Type 0 where
  pub done : Bytes
  pub split : done ++ concat rest ≡ concat all
  pub wrote : Wrote d₀ at done d n
  pub fits : at + length (concat all) ≤ length d₀

pub start : (d : Bytes) (at : ℕ) (all : List Bytes) → at + length (concat all) ≤ length d → Progress d at all all d at
start d at all h = record { done = []; split = refl; wrote = (omega arith, refl); fits = h }

module _ {d₀ : Bytes} {at : ℕ} {all : List Bytes} {d : Bytes} {n : ℕ} where
  -- there is room for the next
  pub room : {x : Bytes} {xs : List Bytes} → Progress d₀ at all (x ∷ xs) d n → n + length x ≤ length d
  room {x} {xs} p =
      let l₁ = length-append p.done (x ++ concat xs) in
      let l₂ = length-append x (concat xs) in
      let s = ap length p.split in
      let k : length d ≡ length d₀ = ap length p.wrote.1 ∙ length-store p.done d₀ at in
      omega (arith, p.fits, p.wrote.0)

  -- the next was written
  pub step : {x : Bytes} {xs : List Bytes} {d' : Bytes} {n' : ℕ} → Progress d₀ at all (x ∷ xs) d n → Wrote d n x d' n' → Progress d₀ at all xs d' n'
  step {x} {xs} {d'} {n'} p w =
      record {
        done = p.done ++ x;
        split = append_assoc p.done x (concat xs) ∙ p.split;
        wrote = wrote_append d₀ at p.done x d d' n n' p.wrote w;
        fits = p.fits;
      }

  -- all is written
  pub finish : Progress d₀ at all [] d n → {bytes : Bytes} → concat all ≡ bytes → Wrote d₀ at bytes d n
  finish p e = subst (λ (x : Bytes). Wrote d₀ at x d n) (sym (append-nil p.done) ∙ p.split ∙ e) p.wrote

  -- what is still to come, by another name
  pub renamed : {xs ys : List Bytes} → xs ≡ ys → Progress d₀ at all xs d n → Progress d₀ at all ys d n
  renamed e p = subst (λ (r : List Bytes). Progress d₀ at all r d n) e p
