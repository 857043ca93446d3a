-- A sweep's answers, and that on the bytes of a sound table it is the model's sweep. Assumes nothing.
use mathlib.Core.Path.{◌≡◌, ap, ◌∙◌}
use mathlib.Core.Bool.{true, false, cond}
use mathlib.Core.List.{List, [], ◌∷◌, map}
use Prim.Native.Nat.{ℕ, ◌≤◌, ◌<◌}
use native.Mathlib.Omega.{arith}
use borrow.Author.Tests.{lt-ltb, le-ltb}
use lib.Dec.{ltb, eqb}
use lib.ListN.{length}
use Rattle.octets.specs.Octets.{Bytes, store, big_endian}
use Rattle.octets.proofs.Laws.{length_part}
use Rattle.lists.specs.Lists.{first}
use Rattle.bucket_model.specs.Contents.{Contents}
use Rattle.bucket_model.specs.Rules.{on_sweep}
use Rattle.table_model.specs.Layout.{encode_table, own_of, clock_of, buckets_of}
use Rattle.table_model.specs.Sound.{table_sound}
use Rattle.table_model.proofs.Table.{store-clock-table}
use Rattle.table_model.proofs.Sound.{SoundTable, table_header, form_is_sound, own_back, clock-back, buckets-back}
use Rattle.call_history.specs.Model.{sweep}
use Rattle.call_model.specs.Reading.{reading}
use Rattle.call_model.specs.Calls.{answer_on, bytes_after}
use Rattle.call_sweep.specs.Steps.{sweep_answer, sweep_table}

-- ---- the answer, and what it leaves

module _ (s : Bytes) (now : ℕ) where
  pub sweep-unsound : table_sound s ≡ false → (1 ≡ sweep_answer s now) × (s ≡ sweep_table s now)
  unfolding sweep_answer sweep_table
  sweep-unsound h = (simp h, simp h)

  pub sweep-back : table_sound s ≡ true → now < clock_of s → (2 ≡ sweep_answer s now) × (s ≡ sweep_table s now)
  unfolding sweep_answer sweep_table
  sweep-back h k = (simp (h, lt-ltb now (clock_of s) k), simp (h, lt-ltb now (clock_of s) k))

  pub sweep-done : table_sound s ≡ true → clock_of s ≤ now
      → (0 ≡ sweep_answer s now) × (encode_table (own_of s) now (map (on_sweep now) (buckets_of s)) ≡ sweep_table s now)
  unfolding sweep_answer sweep_table
  sweep-done h k = (simp (h, le-ltb now (clock_of s) k), simp (h, le-ltb now (clock_of s) k))

-- they are those of the rules for any bytes
pub by_rules : (s : Bytes) (now : ℕ) {n : ℕ} {t : Bytes} → (n ≡ sweep_answer s now) × (t ≡ sweep_table s now)
    → (n ≡ answer_on reading s (sweep now)) × (t ≡ bytes_after reading s (sweep now))
unfolding sweep_answer sweep_table answer_on bytes_after
by_rules s now h = h

-- the two stores of an accepted sweep
pub sweep_end : (s : Bytes) (now : ℕ) → table_sound s ≡ true → clock_of s ≤ now → {s₁ s₂ : Bytes}
    → s₁ ≡ encode_table (own_of s) (clock_of s) (map (on_sweep now) (buckets_of s))
    → s₂ ≡ store s₁ 32 (big_endian 8 now)
    → (0 ≡ sweep_answer s now) × (s₂ ≡ sweep_table s now)
sweep_end s now h k {s₁} {s₂} e₁ e₂ =
    let done = sweep-done s now h k in
    let own : length (own_of s) ≡ 32 = length_part s 0 32 (omega (arith, (table_header s h).size)) in (
      done.0,
      e₂
          ∙ ap (λ l. store l 32 (big_endian 8 now)) e₁
          ∙ store-clock-table (own_of s) (clock_of s) (map (on_sweep now) (buckets_of s)) own now
          ∙ done.1,
    )

-- ---- on the bytes of a sound table

module _ (own : Bytes) (clock : ℕ) (buckets : List Contents) (t : SoundTable own clock buckets) (now : ℕ) where
  -- 1 never applies
  pub answer-model : sweep_answer (encode_table own clock buckets) now ≡ first ((ltb now clock, 2) ∷ [])
  unfolding sweep_answer
  answer-model = simp (form_is_sound own clock buckets t, clock-back own clock buckets t)

  pub table-model : sweep_table (encode_table own clock buckets) now
      ≡ cond (eqb (first ((ltb now clock, 2) ∷ [])) 0) (encode_table own now (map (on_sweep now) buckets)) (encode_table own clock buckets)
  unfolding sweep_table
  table-model = simp (answer-model, own_back own clock buckets t, buckets-back own clock buckets t)
