-- The code absorbs the message's whole blocks, and then the padded rest: these are the blocks of the padded message. Assumes nothing.
use mathlib.Core.Path.{◌≡◌, refl, sym, ap, ap₂, ◌∙◌}
use mathlib.Core.List.{List, [], ◌∷◌, ◌++◌}
use Prim.Native.Nat.{ℕ, zero, suc, ◌+◌, ◌-◌, ◌*◌, ◌/◌, ◌%◌, ◌<◌, ◌≤◌}
use native.Mathlib.Nat.{mul-suc}
use native.Mathlib.Omega.{arith}
use lib.ListN.{length, get_or, take, drop, replicate, length-append, length-drop, length-replicate}
use lib.Seq.{drop-drop, take_all, take-append-le, drop-append-le}
use Rattle.std.specs.Simd.{first_chunks}
use Rattle.keccak_steps.specs.Permutation.{keccak_f}
use Rattle.keccak_pad.specs.Padding.{padding, padded}
use Rattle.keccak_blocks.specs.Blocks.{xor_block, squeezed}
use Rattle.keccak.specs.Sponge.{block_at, absorbed, keccak256}

-- the first k blocks do not depend on what follows them
before : (m t : List ℕ) (k : ℕ) → 136 * k ≤ length m → absorbed (m ++ t) k ≡ absorbed m k
unfolding absorbed
before m t zero h = refl
before m t (suc k) h =
    let whole : 136 * k + 136 ≤ length m = omega (arith, mul-suc 136 k) in
    let block : block_at (m ++ t) k ≡ block_at m k =
    ap (take 136) (drop-append-le (136 * k) m t (omega arith))
    ∙ take-append-le 136 (drop (136 * k) m) t (omega (arith, length-drop (136 * k) m)) in
    ap₂ (λ (a b : List ℕ). keccak_f (xor_block a b)) (before m t k (omega arith)) block

length-padding : (n : ℕ) → length (padding n) ≡ n
unfolding padding
length-padding zero = refl
length-padding (suc zero) = refl
length-padding (suc (suc n)) =
    ap suc (length-append (replicate n 0) (0x80 ∷ []) ∙ ap (λ (k : ℕ). k + 1) (length-replicate n 0) ∙ omega arith)

-- k is the number of whole blocks of m
module _ (m : List ℕ) (k : ℕ) (within : 136 * k ≤ length m) (rest : length m < 136 * k + 136) where
  same-padding : length (drop (136 * k) m) % 136 ≡ length m % 136
  same-padding = omega (arith, length-drop (136 * k) m)

  last_block : block_at (padded m) k ≡ padded (drop (136 * k) m)
  unfolding padded
  last_block =
      let d = drop (136 * k) m in
      let q : ℕ = 136 - length m % 136 in
      let size : length (d ++ padding q) ≡ 136 = omega (arith, length-append d (padding q), length-padding q, length-drop (136 * k) m) in
      ap (take 136) (drop-append-le (136 * k) m (padding q) within)
      ∙ take_all 136 (d ++ padding q) (omega arith)
      ∙ ap (λ (n : ℕ). d ++ padding (136 - n)) (sym same-padding)

  blocks : length (padded m) / 136 ≡ suc k
  unfolding padded
  blocks =
      let q : ℕ = 136 - length m % 136 in
      omega (arith, length-append m (padding q), length-padding q)

  last : keccak_f (xor_block (absorbed m k) (padded (drop (136 * k) m))) ≡ absorbed (padded m) (suc k)
  unfolding absorbed padded
  last =
      ap₂ (λ (a b : List ℕ). keccak_f (xor_block a b))
      (sym (before m (padding (136 - length m % 136)) k within))
      (sym last_block)

  pub keccak256-is : squeezed (keccak_f (xor_block (absorbed m k) (padded (drop (136 * k) m)))) ≡ keccak256 m
  unfolding keccak256
  keccak256-is = ap squeezed (last ∙ ap (absorbed (padded m)) (sym blocks))

-- block i of the whole blocks of a message
chunk_at : (k : ℕ) (m : List ℕ) (i : ℕ) (d : List ℕ) → i < k → get_or (first_chunks 136 k m) i d ≡ block_at m i
chunk_at zero m i d h = absurd (omega arith)
chunk_at (suc k) m zero d h = refl
chunk_at (suc k) m (suc i) d h =
    let on : 136 + 136 * i ≡ 136 * suc i = omega arith in
    chunk_at k (drop 136 m) i d (omega arith) ∙ ap (take 136) (drop-drop (136 * i) 136 m ∙ ap (λ (n : ℕ). drop n m) on)

-- the loop of `keccak256`, whose state s is that of the first k blocks of m
module _ (m s : List ℕ) (k : ℕ) (state : s ≡ absorbed m k) where
  -- a turn absorbs the next block
  pub turn : (chunks : List (List ℕ)) (n : ℕ) (d : List ℕ) → chunks ≡ first_chunks 136 n m → k < n → keccak_f (xor_block s (get_or chunks k d)) ≡ absorbed m (k + 1)
  unfolding absorbed
  turn chunks n d e h =
      let next : suc k ≡ k + 1 = omega arith in
      ap₂ (λ (a b : List ℕ). keccak_f (xor_block a b)) state (ap (λ (l : List (List ℕ)). get_or l k d) e ∙ chunk_at n m k d h) ∙ ap (absorbed m) next

  -- after the loop, the padded rest is the last block
  pub finish : (tail : List ℕ) → k ≡ length m / 136 → tail ≡ drop (length m / 136 * 136) m → squeezed (keccak_f (xor_block s (padded tail))) ≡ keccak256 m
  finish tail e rest =
      let whole : length m / 136 * 136 ≡ 136 * k = omega arith in
      ap₂ (λ (a b : List ℕ). squeezed (keccak_f (xor_block a (padded b)))) state (rest ∙ ap (λ (n : ℕ). drop n m) whole)
      ∙ keccak256-is m k (omega arith) (omega arith)
