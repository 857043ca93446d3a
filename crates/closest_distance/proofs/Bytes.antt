-- The bytes of a distance: those of the hashes, byte by byte, and the number that they make is the distance. Assumes nothing.
use mathlib.Core.Path.{◌≡◌, refl, sym, ap, ◌∙◌}
use mathlib.Core.List.{[], ◌∷◌, ◌++◌}
use Prim.Native.Nat.{ℕ, ◌+◌, ◌*◌, ◌/◌, ◌%◌, ◌<◌}
use native.Mathlib.Numerals.{add-one}
use native.Mathlib.Omega.{arith}
use lib.Arith.{digits_div, digits_mod}
use lib.Bits.{bit_xor, xor_lt}
use lib.ListN.{length, get_or, take, set}
use lib.Seq.{take-suc-set, take_all}
use Rattle.octets.specs.Octets.{Bytes, IsBytes, number, big_endian}
use Rattle.octets.proofs.Laws.{number-big_endian, part_all}
use Rattle.distance.specs.Distance.{distance}
use Rattle.distance.proofs.Laws.{up_to, up_to_next, distance-less}

module _ (a b : Bytes) (la : length a ≡ 32) (lb : length b ≡ 32) (ba : IsBytes a) (bb : IsBytes b) where
  -- the number of a distance's bytes
  pub number-far : number (big_endian 32 (distance a b)) ≡ distance a b
  number-far = number-big_endian 32 (distance a b) (distance-less a b la lb ba bb)

  -- i bytes are written, and one more
  pub far-turn : (s : Bytes) (i : ℕ) → i < 32 → length s ≡ 32 → take i s ≡ big_endian i (up_to a b i)
      → take (i + 1) (set s i (bit_xor (get_or a i 0) (get_or b i 0))) ≡ big_endian (i + 1) (up_to a b (i + 1))
  unfolding big_endian
  far-turn s i h n e =
      let x : ℕ = bit_xor (get_or a i 0) (get_or b i 0) in
      let small : x < 256 = xor_lt 8 (get_or a i 0) (get_or b i 0) (ba i) (bb i) in
      let front : take (i + 1) (set s i x) ≡ big_endian i (up_to a b i) ++ (x ∷ []) =
      rw add-one (take-suc-set s i x (omega arith) ∙ ap (λ l. l ++ (x ∷ [])) e) in
      let high : (up_to a b i * 256 + x) / 256 ≡ up_to a b i = digits_div (up_to a b i) small in
      let low : (up_to a b i * 256 + x) % 256 ≡ x = digits_mod (up_to a b i) small in
      front
      ∙ sym (rw (up_to_next a b la lb ba bb i h, add-one, high, low) refl)

  -- all of them are
  pub far-all : (s : Bytes) → length s ≡ 32 → take 32 s ≡ big_endian 32 (up_to a b 32) → s ≡ big_endian 32 (distance a b)
  far-all s n e =
      let whole : up_to a b 32 ≡ distance a b = rw (part_all a 32 (omega arith), part_all b 32 (omega arith)) refl in
      sym (take_all 32 s (omega arith)) ∙ e ∙ ap (big_endian 32) whole

-- nothing is written yet
pub far_none : (a b s : Bytes) → take 0 s ≡ big_endian 0 (up_to a b 0)
unfolding big_endian
far_none a b s = refl
