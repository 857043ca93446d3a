-- A table with nothing held: its bytes, and that it is sound. Assumes nothing.
use mathlib.Core.Path.{◌≡◌, refl, ap, ◌∙◌}
use mathlib.Core.List.{◌∷◌, ◌++◌, flat_map}
use Prim.Native.Nat.{ℕ, zero, suc, ◌+◌, ◌*◌, ◌<◌}
use native.Mathlib.Omega.{arith}
use lib.ListN.{length, replicate, length-replicate, get_or-replicate, replicate-append-replicate}
use Rattle.distance.specs.Distance.{home}
use Rattle.bucket_model.specs.Contents.{no_contents, encode_entries, encode_list, encode_bucket}
use Rattle.bucket_model.proofs.Kept.{sound-fresh}
use Rattle.table_model.specs.Layout.{number_at}
use Rattle.table_model.specs.Claims.{FreshForm}

-- an empty bucket is zeros
empty_zeros : encode_bucket no_contents ≡ replicate 2862 0
unfolding encode_bucket encode_list encode_entries
empty_zeros = ap (λ l. 0 ∷ 0 ∷ l) (replicate-append-replicate 2288 572 0)

pub fresh_zeros : (count : ℕ) → flat_map encode_bucket (replicate count no_contents) ≡ replicate (count * 2862) 0
unfolding flat_map
fresh_zeros zero = refl
fresh_zeros (suc n) =
    let e : 2862 + n * 2862 ≡ suc n * 2862 = omega arith in
    ap (λ l. l ++ flat_map encode_bucket (replicate n no_contents)) empty_zeros
    ∙ ap (λ l. replicate 2862 0 ++ l) (fresh_zeros n)
    ∙ replicate-append-replicate 2862 (n * 2862) 0
    ∙ ap (λ (m : ℕ). replicate m 0) e

pub fresh_form : FreshForm
fresh_form own count n one most =
    let size : length (replicate count no_contents) ≡ count = length-replicate count no_contents in
    record {
      own_size = n;
      clock_fits = omega arith;
      one = omega arith;
      most = omega arith;
      each = λ j h.
          let k : j < count = omega arith in
          rw (get_or-replicate count j no_contents no_contents k)
          (record { rules = sound-fresh (home own (number_at (length (replicate count no_contents)) j)) 0; values = (tt, tt) });
    }
