-- What is printed with an entry is its logarithmic distance. Assumes nothing.
use mathlib.Core.Path.{◌≡◌, sym, ◌∙◌}
use mathlib.Core.List.{List, [], ◌∷◌}
use Prim.Native.Nat.{ℕ, suc, ◌+◌, ◌-◌, ◌<◌}
use native.Mathlib.Omega.{arith}
use borrow.Author.Tests.{eqb-true}
use lib.ListN.{length, get_or}
use Rattle.octets.specs.Octets.{Bytes, IsBytes}
use Rattle.octets.proofs.Laws.{bytes_part}
use Rattle.lists.proofs.Laws.{All-imp}
use Rattle.keccak.specs.Sponge.{keccak256}
use Rattle.distance.specs.Distance.{log_distance, home}
use Rattle.distance.proofs.Buckets.{home_bits}
use Rattle.entry.specs.declared.Entry.{Entry}
use Rattle.bucket_model.specs.Contents.{Contents, no_contents}
use Rattle.bucket_model.specs.Facts.{Every, EntrySound}
use Rattle.table_model.specs.Layout.{own_of, clock_of, count_of, number_at, buckets_of}
use Rattle.table_model.specs.Facts.{SoundBucket}
use Rattle.table_model.proofs.Sound.{sound_is_table}
use Rattle.table_model.proofs.Table.{count_read}
use Rattle.printout.specs.Claims.{AtDistance, Rising, PrintedDistance}

rising : (P : ℕ → Contents → Type 0) (n : ℕ) (bs : List Contents) → ((j : ℕ) → j < length bs → P (n + j) (get_or bs j no_contents))
    → Rising P n bs
rising P n [] each = tt
rising P n (b ∷ bs) each =
    let e : n + 0 ≡ n = omega arith in (
      rw e at (each 0 (omega arith)),
      rising P (suc n) bs
          (λ j k. let f : n + suc j ≡ suc n + j = omega arith in rw f at (each (suc j) (omega arith))),
    )

entry_distance : (own : Bytes) (n clock : ℕ) (e : Entry) → length own ≡ 32 → IsBytes own → EntrySound (home own n) clock e → AtDistance own (n + 1) e
entry_distance own n clock e l b h = eqb-true (log_distance own (keccak256 e.key)) (n + 1) (sym (home_bits own e.key n l b) ∙ h.at_home)

pub printed-distance : PrintedDistance
printed-distance s bs h =
    rising (λ n b. Every (AtDistance (own_of s) n) b) (257 - count_of s) (buckets_of s)
    (λ j k.
    let t = sound_is_table s bs h in
    let n : ℕ = number_at (count_of s) j in
    let b : Contents = get_or (buckets_of s) j no_contents in
    let held : SoundBucket (home (own_of s) n) (clock_of s) b = simp (count_read s) at (t.each j k) in
    let e : n + 1 ≡ 257 - count_of s + j = omega (arith, count_read s, t.most) in
    let each : (x : Entry) → EntrySound (home (own_of s) n) (clock_of s) x → AtDistance (own_of s) (257 - count_of s + j) x =
    λ x y. entry_distance (own_of s) n (clock_of s) x t.own_size (bytes_part s 0 32 bs) y ∙ e in (
      All-imp (EntrySound (home (own_of s) n) (clock_of s)) (AtDistance (own_of s) (257 - count_of s + j)) each b.entries held.rules.entries_sound,
      All-imp (EntrySound (home (own_of s) n) (clock_of s)) (AtDistance (own_of s) (257 - count_of s + j)) each b.replacements held.rules.replacements_sound,
    ))
