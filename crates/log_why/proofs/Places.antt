-- Where a node stands in the table that a replay has led to. Assumes nothing.
use Prim.Native.Nat.{ℕ, ◌-◌, ◌≤◌, ◌<◌}
use mathlib.Core.Path.{◌≡◌, sym, ap, ◌∙◌}
use mathlib.Core.Bool.{true}
use mathlib.Core.List.{[]}
use native.Mathlib.Omega.{arith}
use lib.ListN.{length, take, drop}
use Rattle.octets.specs.Octets.{Bytes}
use Rattle.lists.proofs.Laws.{and_left, and_right}
use Rattle.keccak.specs.Sponge.{keccak256}
use Rattle.distance.specs.Distance.{distance, bit_length}
use Rattle.bucket.specs.declared.Bucket.{Bucket}
use Rattle.bucket.specs.declared.Position.TheVariants.{Absent}
use Rattle.bucket.specs.Steps.{contents, Shows}
use Rattle.bucket.proofs.Laws.{shown}
use Rattle.bucket_lookup.specs.declared.Lookup.{Lookup}
use Rattle.bucket_lookup.specs.Steps.{only_at, in_entries, LooksUp}
use Rattle.table_model.specs.Layout.{own_of, count_of, header_sound}
use Rattle.table_model.specs.Sound.{bucket_sound, buckets_sound, table_sound}
use Rattle.table_model.specs.Facts.{SoundTable}
use Rattle.table_model.proofs.Header.{header-sound}
use Rattle.table_model.proofs.Table.{length-table}
use Rattle.table_model.proofs.Sound.{all-below, sized-table}
use Rattle.call_history.specs.Model.{bucket_number, slot, bucket_of}
use Rattle.call_model.specs.Calls.{env_of, bucket_for}
use Rattle.call_model.specs.Reading.{reading}
use Rattle.call_model.specs.OverBytes.{encode}
use Rattle.call_model.proofs.Form.{slot_below, table-form, reads}
use Rattle.call_touched.specs.Steps.{SoundAt}
use Rattle.log_state.specs.declared.Replay.{Replay}
use Rattle.log_state.specs.State.{State, size_of, state_of}
use Rattle.log_state.proofs.Memory.{size_none}
use Rattle.log_acts.proofs.Calls.{at_front}
use Rattle.log_history.specs.Past.{Stage, rules_for, Past}
use Rattle.log_replay.specs.Replay.{Reached}
use Rattle.log_replay.proofs.Kept.{good_table, reached_good}
use Rattle.log_run.specs.Run.{SameLines}
use Rattle.log_run.proofs.Kept.{Kept, none, some, kept}
use Rattle.log_why.specs.Tracking.{Stands}

-- ---- the slot of a key

module _ (s key : Bytes) {own hash : Bytes} {bits count : ℕ} (eo : own ≡ own_of s) (eh : hash ≡ keccak256 key)
    (eb : bits ≡ bit_length (distance own hash)) (ec : count ≡ count_of s) (most : count ≤ 256) where
  is-bits : bits ≡ bit_length (distance (own_of s) (keccak256 key))
  is-bits = eb ∙ ap (λ l. bit_length (distance l hash)) eo ∙ ap (λ l. bit_length (distance (own_of s) l)) eh

  pub slot-is : bits - (257 - count) ≡ slot (env_of reading s) key
  unfolding bucket_number
  slot-is = omega (arith, is-bits, ec)

-- of a sound table every slot is sound, also that of a key whose bucket isn't kept
pub sound_slot : (s key : Bytes) → table_sound s ≡ true → SoundAt s (slot (env_of reading s) key)
unfolding table_sound buckets_sound
sound_slot s key ok =
    let h : header_sound s ≡ true = and_left (header_sound s) (buckets_sound s) ok in
    let header = header-sound s h in
    let below : slot (env_of reading s) key < count_of s = slot_below (env_of reading s) header.one header.most key in
    record { header = h; kept = below; bucket = all-below (count_of s) (bucket_sound s) (and_right (header_sound s) (buckets_sound s) ok) (slot (env_of reading s) key) below }

-- ---- the table in the memory

module _ (replay : Replay) (memory : Bytes) (z : ℕ) (ez : z ≡ size_of replay.count) where
  pub front-sound : 46304 ≤ length memory → replay.count ≤ 16 → Reached (state_of replay memory) → (replay.count ≡ 0 → ⊥)
      → table_sound (take (z - 0) (drop 0 memory)) ≡ true
  front-sound big few reached some-count = ap table_sound (at_front replay memory z ez) ∙ (good_table replay memory big few some-count (reached_good reached)).0

-- ---- where a node stands

-- where there is no table
absent : (X : Bytes) (st : State) (g : Stage) → Kept st g → st.table ≡ [] → (l : Lookup) → l.position ≡ Absent → Stands X g l
absent X st g (none owned) e l h = record { seated = ap in_entries h; held = ap (λ p. only_at p l.entry) h }
absent X st g (some key count one most t sound values) e l h =
    let own : Bytes = keccak256 key in
    let form : SoundTable own t.clock t.buckets = table-form reading own count one (omega arith) t sound values in
    let size = length-table own t.clock t.buckets form.own_size (sized-table own t.clock t.buckets form) in
    absurd (omega (arith, ap length e, size))

pub stands_nowhere : (X : Bytes) (replay : Replay) (memory : Bytes) → replay.count ≡ 0 → {l : Lookup} → l.position ≡ Absent
    → (p : Past) → SameLines (state_of replay memory) p → Stands X p.stage l
stands_nowhere X replay memory z {l} h p r =
    let size : size_of replay.count ≡ 0 = sym (size_none replay.count z) in
    absent X (state_of replay memory) p.stage (kept r) (ap (λ n. take n memory) size) l h

-- where it is looked up in its bucket
looked : (X : Bytes) (st : State) (g : Stage) → Kept st g → (s : Bytes) → s ≡ st.table → table_sound s ≡ true
    → (b : Bucket) → Shows b (bucket_for reading s X) → (l : Lookup) → LooksUp X (contents b) l → Stands X g l
unfolding table_sound
looked X st g (none owned) s e ok b h l found-there =
    let header = header-sound s (and_left (header_sound s) (buckets_sound s) ok) in
    absurd (omega (arith, header.size, ap length e))
looked X st g (some key count one most t sound values) s e ok b h l found-there =
    let own : Bytes = keccak256 key in
    let form : SoundTable own t.clock t.buckets = table-form reading own count one (omega arith) t sound values in
    let back : bucket_for reading (encode own t) X ≡ bucket_of (rules_for count key) t X = rw sound.sized at (reads reading own t form X (λ e clock m. m)) in
    let holds : contents b ≡ bucket_of (rules_for count key) t X = shown b (bucket_for reading s X) h ∙ ap (λ r. bucket_for reading r X) e ∙ back in
    let there : LooksUp X (bucket_of (rules_for count key) t X) l = rw holds at found-there in
    record { seated = there.has_entry; held = there.held }

pub stands_looked : (X : Bytes) (replay : Replay) (memory : Bytes) (s : Bytes) → s ≡ (state_of replay memory).table → table_sound s ≡ true
    → (b : Bucket) → Shows b (bucket_for reading s X) → (l : Lookup) → LooksUp X (contents b) l
    → (p : Past) → SameLines (state_of replay memory) p → Stands X p.stage l
stands_looked X replay memory s e ok b h l there p r = looked X (state_of replay memory) p.stage (kept r) s e ok b h l there
