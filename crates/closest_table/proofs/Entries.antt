-- A turn over a bucket's entries, read from the last to the first. Assumes nothing.
use mathlib.Core.Path.{◌≡◌, sym, ap, ◌∙◌}
use mathlib.Core.List.{List}
use Prim.Native.Nat.{ℕ, suc, ◌+◌, ◌-◌, ◌*◌, ◌≤◌, ◌<◌}
use native.Mathlib.Omega.{arith}
use lib.ListN.{take, length-take}
use lib.Seq.{take_all}
use Rattle.octets.specs.Octets.{Bytes, part, big_endian}
use Rattle.keccak.specs.Sponge.{keccak256}
use Rattle.distance.specs.Distance.{distance}
use Rattle.entry.specs.declared.Entry.{Entry}
use Rattle.entry.specs.Layout.{decode_entry}
use Rattle.closest_nearest.specs.declared.Near.{Near}
use Rattle.closest_nearest.specs.declared.Nearest.{Nearest}
use Rattle.closest_nearest.specs.Sort.{insert_by, insert_all}
use Rattle.closest_nearest.specs.Nearest.{farness, holding, held, Ordered}
use Rattle.closest_nearest.proofs.Sort.{take-insert}
use Rattle.closest_nearest.proofs.Held.{held-holding}
use Rattle.table_model.proofs.Entries.{behind, behind_none, behind_turn, key_at}
use Rattle.closest_table.specs.Closest.{far_of, candidates_of}

module _ (s : Bytes) (at n i : ℕ) (h : 0 < i) (k : i ≤ n) where
  pub gather-turn : (target : Bytes) (slot : ℕ) (m : List Near) {best next : Nearest} {hash far : Bytes}
      → best ≡ holding (take 16 (insert_all farness (candidates_of target slot i (behind s at n i)) m))
      → hash ≡ keccak256 (part s (at + (i - 1) * 143) 64)
      → far ≡ big_endian 32 (distance target hash)
      → next ≡ holding (take 16 (insert_by farness (record { slot = slot; index = i - 1; far = far }) (held best)))
      → next ≡ holding (take 16 (insert_all farness (candidates_of target slot (i - 1) (behind s at n (i - 1))) m))
  unfolding candidates_of insert_all
  gather-turn target slot m {best} {next} {hash} {far} e eh ef en =
      let entry : Entry = decode_entry (part s (at + (i - 1) * 143) 143) in
      let l : List Near = insert_all farness (candidates_of target slot i (behind s at n i)) m in
      let x : Near = record { slot = slot; index = i - 1; far = far_of target entry } in
      let is : far ≡ far_of target entry =
      ef ∙ ap (λ b. big_endian 32 (distance target b)) (eh ∙ ap keccak256 (sym (key_at s (at + (i - 1) * 143)))) in
      let index : i ≡ suc (i - 1) = omega arith in
      en
      ∙ ap (λ b. let y : Near = record { slot = slot; index = i - 1; far = b } in holding (take 16 (insert_by farness y (held best)))) is
      ∙ ap (λ b. holding (take 16 (insert_by farness x (held b)))) e
      ∙ ap (λ b. holding (take 16 (insert_by farness x b))) (held-holding (take 16 l))
      ∙ ap holding (take-insert farness 16 x l)
      ∙ ap (λ (k : ℕ). holding (take 16 (insert_by farness x (insert_all farness (candidates_of target slot k (behind s at n i)) m)))) index
      ∙ ap (λ b. holding (take 16 (insert_all farness (candidates_of target slot (i - 1) b) m))) (sym (behind_turn s at n i h k))

-- nothing put in yet
pub gather_none : (s : Bytes) (at n : ℕ) (target : Bytes) (slot : ℕ) (nearest : Nearest) → Ordered nearest
    → nearest ≡ holding (take 16 (insert_all farness (candidates_of target slot n (behind s at n n)) (held nearest)))
unfolding candidates_of insert_all
gather_none s at n target slot nearest o =
    o.form
    ∙ ap holding (sym (take_all 16 (held nearest) (omega (arith, o.few, length-take nearest.count nearest.list))))
    ∙ ap (λ b. holding (take 16 (insert_all farness (candidates_of target slot n b) (held nearest)))) (sym (behind_none s at n))
