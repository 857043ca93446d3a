-- On the byte form of a sound table each call is the model's step: its answer number, and the bytes that it leaves.
use Prim.Native.Nat.{ℕ, ◌≤◌, ◌<◌}
use mathlib.Core.Path.{◌≡◌, refl, ap, ap₂, sym, ◌∙◌}
use mathlib.Core.Bool.{false}
use mathlib.Core.List.{map}
use native.Mathlib.Omega.{arith}
use lib.Dec.{eqb}
use lib.ListN.{length}
use Rattle.octets.specs.Octets.{Bytes, store}
use Rattle.octets.proofs.Laws.{bytes_part}
use Rattle.lists.specs.Lists.{first, modify}
use Rattle.lists.proofs.Laws.{by_test, All-at, length-modify, get_d_modify_same, set-modify}
use Rattle.bucket_model.specs.Contents.{Contents, no_contents, encode_bucket}
use Rattle.bucket_model.specs.Rules.{on_ping_sent, on_sweep}
use Rattle.table_model.specs.Layout.{encode_table, offset_of, own_of}
use Rattle.table_model.specs.Facts.{SoundTable}
use Rattle.table_model.proofs.Table.{count_read, store-clock-table, store-bucket-table}
use Rattle.table_model.proofs.Sound.{sized-table, own_back, clock-back, buckets-back, form_is_sound, sound_is_table, table_of_sound}
use Rattle.call_history.specs.Model.{Env, Reading, Call, datagram, ping_sent, sweep, closest, unclocked, Table, slot, bucket_of, datagram_refusals, ping_sent_refusals, on_datagram, answer, effect, next}
use Rattle.call_history.specs.Keccak.{with_keccak}
use Rattle.call_history.proofs.Chain.{StepFollows}
use Rattle.call_history.proofs.Sound.{next-sound, next-values}
use Rattle.call_model.specs.Calls.{unsound_on, answer_on, at_clock, with_bucket_for, effect_on, bytes_after}
use Rattle.call_model.specs.OverBytes.{encode}
use Rattle.call_model.specs.Claims.{table_in, StepOnForm, StepOnBytes}
use Rattle.call_model.proofs.Form.{slot_below, table-form, form-sound, form-values, reads, not-unsound}

module _ (read : Bytes → ℕ → Reading) (own : Bytes) (t : Table) (f : SoundTable own t.clock t.buckets) where
  abbrev e : Env
  e = with_keccak read own (length t.buckets)

  abbrev s : Bytes
  s = encode own t

  -- 1 applies to no call
  sound-on : (c : Call) → unsound_on read s c ≡ false
  sound-on (datagram now unix address udp key bytes) = not-unsound read own t f key
  sound-on (ping_sent now key address udp tcp hash) = not-unsound read own t f key
  sound-on (sweep now) = rw (form_is_sound own t.clock t.buckets f) refl
  sound-on (closest target room) = rw (form_is_sound own t.clock t.buckets f) refl
  sound-on (unclocked c) = sound-on c

  answer-follows : (c : Call) → answer_on read s c ≡ answer e t c
  unfolding answer_on
  answer-follows (datagram now unix address udp key bytes) =
      rw (not-unsound read own t f key)
      (reads read own t f key (λ x clock b. first (datagram_refusals x clock b now address udp key (read bytes unix))))
  answer-follows (ping_sent now key address udp tcp hash) =
      rw (not-unsound read own t f key)
      (reads read own t f key (λ x clock b. first (ping_sent_refusals x clock b now key address udp hash)))
  answer-follows (sweep now) = rw (form_is_sound own t.clock t.buckets f, clock-back own t.clock t.buckets f) refl
  answer-follows (closest target room) = rw (form_is_sound own t.clock t.buckets f) refl
  answer-follows (unclocked c) = rw (sound-on c) refl

  -- the key's bucket and the clock are stored, where what is stored has a byte form
  stored : (key : Bytes) (g : Contents → Contents) (now : ℕ) → SoundTable own now (modify (slot e key) g t.buckets)
      → at_clock now (with_bucket_for read key g s) ≡ encode_table own now (modify (slot e key) g t.buckets)
  stored key g now after =
      let j : ℕ = slot e key in
      let fits : j < length t.buckets = slot_below e f.one f.most key in
      let size : length (encode_bucket (g (bucket_of e t key))) ≡ 2862 =
      rw (get_d_modify_same j g t.buckets no_contents fits)
      at (All-at (λ m. length (encode_bucket m) ≡ 2862) (modify j g t.buckets) no_contents (sized-table own now (modify j g t.buckets) after) j
      (omega (arith, length-modify j g t.buckets))) in
      reads read own t f key (λ x clock b. at_clock now (store s (offset_of (slot x key)) (encode_bucket (g b))))
      ∙ ap (at_clock now)
      (store-bucket-table own t.clock t.buckets f.own_size (sized-table own t.clock t.buckets f) j (g (bucket_of e t key)) fits size
      ∙ ap (encode_table own t.clock) (set-modify j g t.buckets no_contents fits))
      ∙ store-clock-table own t.clock (modify j g t.buckets) f.own_size now

  -- what an accepted call leaves
  effect-follows : (c : Call) → SoundTable own (effect e t c).clock (effect e t c).buckets
      → effect_on read s c ≡ encode own (effect e t c)
  effect-follows (datagram now unix address udp key bytes) after = stored key (on_datagram now address udp key (read bytes unix)) now after
  effect-follows (ping_sent now key address udp tcp hash) after = stored key (on_ping_sent now key address udp tcp hash) now after
  effect-follows (sweep now) after =
      ap₂ (λ o l. encode_table o now (map (on_sweep now) l)) (own_back own t.clock t.buckets f) (buckets-back own t.clock t.buckets f)
  effect-follows (closest target room) after = refl
  effect-follows (unclocked c) after = refl

  bytes-follow : (c : Call) → SoundTable own (next e t c).clock (next e t c).buckets
      → bytes_after read s c ≡ encode own (next e t c)
  unfolding bytes_after
  bytes-follow c =
      rw (answer-follows c)
      (by_test (eqb (answer e t c) 0) (λ h. rw h (λ after. effect-follows c after)) (λ h. rw h (λ after. refl)))

-- a call on the byte form of a sound table is the model's step
pub step_follows : (read : Bytes → ℕ → Reading) (own : Bytes) (count : ℕ) → 1 ≤ count → count ≤ 256
    → StepFollows (answer_on read) (bytes_after read) (with_keccak read own count) (encode own)
step_follows read own count one most t c ok values is =
    let form : SoundTable own t.clock t.buckets = table-form read own count one most t ok values in
    let after =
    table-form read own count one most (next (with_keccak read own count) t c)
    (next-sound (with_keccak read own count) t ok c) (next-values (with_keccak read own count) t ok values c is) in
    rw (sym ok.sized) (answer-follows read own t form c, bytes-follow read own t form c (rw ok.sized after))

-- ---- from every sound table

pub step_on_form : StepOnForm
step_on_form read own t bytes f c is =
    step_follows read own (length t.buckets) f.one f.most t c (form-sound read own bytes t f) (form-values read own bytes t f) is

pub step_on_bytes : StepOnBytes
step_on_bytes read s bytes ok c is =
    rw (table_of_sound s bytes ok, count_read s)
    at (step_on_form read (own_of s) (table_in s) (bytes_part s 0 32 bytes) (sound_is_table s bytes ok) c is)
