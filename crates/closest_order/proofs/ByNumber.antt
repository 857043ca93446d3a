-- What a table's slots hold, read by the numbers of its buckets. Assumes nothing.
use Prim.Native.Nat.{ℕ, zero, suc, ◌+◌, ◌<◌}
use mathlib.Core.Path.{◌≡◌, refl, sym, ap, ◌∙◌}
use mathlib.Core.List.{List, ◌++◌, flat_map}
use native.Mathlib.Omega.{arith}
use Rattle.table_model.specs.Layout.{tabulate}
use Rattle.closest_order.specs.Taking.{rising}

-- a list made by slots, read by bucket numbers
pub by_number : {A B : Type 0} (h : A → List B) (g : ℕ → List B) (n lowest : ℕ) (f : ℕ → A) → ((j : ℕ) → j < n → g (lowest + j) ≡ h (f j))
    → flat_map h (tabulate n f) ≡ flat_map g (rising lowest n)
unfolding tabulate rising flat_map
by_number h g zero lowest f e = refl
by_number h g (suc n) lowest f e =
    let at : lowest + 0 ≡ lowest = omega arith in
    let first : g lowest ≡ h (f 0) = ap g (sym at) ∙ e 0 (omega arith) in
    let rest : flat_map h (tabulate n (λ i. f (suc i))) ≡ flat_map g (rising (suc lowest) n) =
    by_number h g n (suc lowest) (λ i. f (suc i)) (λ j k. let next : suc lowest + j ≡ lowest + suc j = omega arith in ap g next ∙ e (suc j) (omega arith)) in
    ap (λ l. l ++ flat_map h (tabulate n (λ i. f (suc i)))) (sym first) ∙ ap (λ l. g lowest ++ l) rest
