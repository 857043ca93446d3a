-- The head of a key's bucket, by where the key leads. Assumes nothing.
use mathlib.Core.Path.{◌≡◌, refl, sym, ap, ◌∙◌}
use mathlib.Core.Bool.{true, false}
use Prim.Native.Nat.{ℕ, zero, suc, ◌+◌, ◌≤◌}
use native.Mathlib.Omega.{arith}
use lib.Dec.{eqb}
use lib.ListN.{length, get_or}
use Rattle.octets.specs.Octets.{Bytes, part}
use Rattle.octets.proofs.Laws.{get_d_part, part-part}
use Rattle.entry.specs.declared.Entry.{Entry}
use Rattle.entry.specs.Layout.{decode_entry}
use Rattle.bucket_model.specs.Contents.{entries_at, decode_bucket}
use Rattle.table_model.specs.Layout.{offset_of, bucket_at}
use Rattle.table_model.proofs.Header.{header-sound}
use Rattle.call_history.specs.Model.{slot}
use Rattle.call_model.specs.Calls.{env_of}
use Rattle.call_model.specs.Reading.{reading}
use Rattle.call_touched.specs.Steps.{SoundAt}
use Rattle.call_key.specs.declared.HeadNode.{HeadNode}
use Rattle.call_key.specs.Number.{key_number}
use Rattle.call_key.specs.Head.{head_entry, no_head, first_of, head_on}

-- ---- the first entry of a bucket

first_entry : (t : Bytes) (n : ℕ) → (n ≡ 0 → ⊥) → first_of (entries_at t 2 n) ≡ head_entry (decode_entry (part t 2 143))
unfolding entries_at
first_entry t zero h = absurd (h refl)
first_entry t (suc n) h = refl

no-entry : (t : Bytes) (n : ℕ) → n ≡ 0 → first_of (entries_at t 2 n) ≡ no_head 0
unfolding entries_at
no-entry t zero h = refl
no-entry t (suc n) h = absurd (omega arith)

module _ (s : Bytes) (i : ℕ) (h : SoundAt s i) where
  pub room : offset_of i + 2862 ≤ length s
  room = let header = header-sound s h.header in omega (arith, h.kept, header.size)

  abbrev at : ℕ
  at = offset_of i

  count-is : get_or (part s at 2862) 0 0 ≡ get_or s at 0
  count-is = let z : at + 0 ≡ at = omega arith in get_d_part s at 2862 0 (omega arith) ∙ ap (λ (k : ℕ). get_or s k 0) z

  pub none-there : {r : HeadNode} → get_or s at 0 ≡ 0 → r ≡ no_head 0 → r ≡ first_of (bucket_at s i).entries
  unfolding decode_bucket
  none-there n e = e ∙ sym (no-entry (part s at 2862) (get_or (part s at 2862) 0 0) (count-is ∙ n))

  pub one-there : {r : HeadNode} {e : Entry} → (get_or s at 0 ≡ 0 → ⊥) → e ≡ decode_entry (part s (at + 2) 143) → r ≡ head_entry e → r ≡ first_of (bucket_at s i).entries
  unfolding decode_bucket
  one-there n e er =
      er ∙ ap head_entry (e ∙ ap decode_entry (sym (part-part s at 2862 2 143 (omega arith))))
      ∙ sym (first_entry (part s at 2862) (get_or (part s at 2862) 0 0) (λ z. n (sym count-is ∙ z)))

-- ---- by the number

module _ (s key : Bytes) where
  pub refused-head : {r : HeadNode} {n : ℕ} → (eqb (key_number s key) 0 ≡ false) × (n ≡ key_number s key) → r ≡ no_head n → r ≡ head_on s key
  unfolding head_on
  refused-head (g, e) er = er ∙ ap no_head e ∙ sym (rw g refl)

  pub told-head : {r : HeadNode} {i : ℕ} → (eqb (key_number s key) 0 ≡ true) × (i ≡ slot (env_of reading s) key) → r ≡ first_of (bucket_at s i).entries → r ≡ head_on s key
  unfolding head_on
  told-head (g, e) er = er ∙ ap (λ (j : ℕ). first_of (bucket_at s j).entries) e ∙ sym (rw g refl)
