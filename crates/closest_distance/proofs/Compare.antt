-- Byte strings of one length in the library's order, the first byte that differs decides, are in the order of their big-endian numbers. Assumes nothing.
use mathlib.Core.Path.{◌≡◌, sym, ap, ◌∙◌}
use mathlib.Core.List.{[], ◌∷◌}
use Prim.Native.Nat.{ℕ, suc, ◌+◌, ◌*◌, ◌<◌}
use native.Mathlib.Nat.{suc_inj}
use native.Mathlib.Omega.{arith}
use borrow.Author.Tests.{ltb-true, ltb-false, eqb-true, eqb-false, le-leb, lt-leb}
use lib.Dec.{ltb, leb, eqb}
use lib.ListN.{length}
use Rattle.std.proofs.Common.{Some}
use Rattle.std.specs.Ordering.{nat_cmp, partial_le}
use Rattle.std.specs.Cmp.Lexicographic.{slice_partial_cmp}
use Rattle.octets.specs.Octets.{Bytes, IsBytes, number, number_from}
use Rattle.lists.proofs.Laws.{by_test}

-- what begins lower stays lower
lower : (s t : Bytes) (p q : ℕ) → length s ≡ length t → IsBytes s → p < q → number_from p s < number_from q t
unfolding number_from
lower [] [] p q same bytes h = h
lower [] (y ∷ t) p q same bytes h = absurd (omega arith)
lower (x ∷ s) [] p q same bytes h = absurd (omega arith)
lower (x ∷ s) (y ∷ t) p q same bytes h = lower s t (p * 256 + x) (q * 256 + y) (suc_inj same) (λ i. bytes (suc i)) (omega (arith, bytes 0))

from_here : (s t : Bytes) (k : ℕ) → length s ≡ length t → IsBytes s → IsBytes t
    → partial_le (slice_partial_cmp (λ x y. Some (nat_cmp x y))) s t ≡ leb (number_from k s) (number_from k t)
unfolding number_from
from_here [] [] k same bytes_s bytes_t = sym (le-leb k k (omega arith))
from_here [] (y ∷ t) k same bytes_s bytes_t = absurd (omega arith)
from_here (x ∷ s) [] k same bytes_s bytes_t = absurd (omega arith)
from_here (x ∷ s) (y ∷ t) k same bytes_s bytes_t =
    let rest : length s ≡ length t = suc_inj same in
    let low : ℕ = number_from (k * 256 + x) s in
    let high : ℕ = number_from (k * 256 + y) t in
    by_test (ltb x y)
    (λ h. let less : x < y = ltb-true x y h in
    let less' : low < high = lower s t (k * 256 + x) (k * 256 + y) rest (λ i. bytes_s (suc i)) (omega arith) in
    rw h (sym (le-leb low high (omega arith))))
    (λ h. by_test (eqb x y)
    (λ e. let is : x ≡ y = eqb-true x y e in
    rw (h, e) (from_here s t (k * 256 + x) rest (λ i. bytes_s (suc i)) (λ i. bytes_t (suc i)) ∙ ap (λ (z : ℕ). leb low (number_from (k * 256 + z) t)) is))
    (λ e. let more : y < x = omega (arith, ltb-false x y h, eqb-false x y e) in
    let more' : high < low = lower t s (k * 256 + y) (k * 256 + x) (sym rest) (λ i. bytes_t (suc i)) (omega arith) in
    rw (h, e) (sym (lt-leb low high more'))))

pub not_above : (s t : Bytes) → length s ≡ length t → IsBytes s → IsBytes t
    → partial_le (slice_partial_cmp (λ x y. Some (nat_cmp x y))) s t ≡ leb (number s) (number t)
not_above s t = from_here s t 0
