-- The sound tables of the rules are the tables that have a byte form, and what is read from that form.
use Prim.Native.Nat.{ℕ, ◌≤◌, ◌<◌}
use mathlib.Core.Path.{◌≡◌, refl, sym, ap, ap₂, ◌∙◌}
use mathlib.Core.Logic.{◌↔◌}
use mathlib.Core.Bool.{Bool, true, false, not, ◌&&◌, ◌||◌}
use native.Mathlib.Omega.{arith}
use borrow.Author.Tests.{ltb-true, ltb-false, not-false}
use lib.Dec.{ltb}
use lib.ListN.{length, get_or-eq_default}
use Rattle.octets.specs.Octets.{Bytes, IsBytes}
use Rattle.lists.proofs.Laws.{by_test, never}
use Rattle.distance.specs.Distance.{home}
use Rattle.distance.proofs.Laws.{bit_length-most}
use Rattle.bucket_model.specs.Contents.{Contents, no_contents}
use Rattle.table_model.specs.Layout.{clock_of, count_of, header_sound}
use Rattle.table_model.specs.Layout as layout
use Rattle.table_model.specs.Sound.{bucket_sound, buckets_sound}
use Rattle.table_model.specs.Facts.{SoundTable}
use Rattle.table_model.proofs.Sound.{own_back, clock-back, count-back, bucket-at-back, header-of-form, buckets-of-form, all-below}
use Rattle.call_history.specs.Model.{Env, Reading, Table, distance_to, bucket_number, slot, bucket_of}
use Rattle.call_history.specs.Keccak.{with_keccak}
use Rattle.call_history.proofs.Sound.{TableSound, IsTable, table-sound}
use Rattle.call_history.proofs.Step.{keccak_lawful}
use Rattle.call_model.specs.Calls.{env_of, touches, bucket_for, unsound_for}
use Rattle.call_model.specs.OverBytes.{encode}

-- 1 does not apply where the header is sound, and the key's bucket where it is touched
pub both_sound : (header touched bucket : Bool) → ((header ≡ true) × (touched ≡ true → bucket ≡ true)) ↔ ((not header || (touched && not bucket)) ≡ false)
both_sound true true bucket = ((λ h. ap not (h.1 refl)), (λ h. (refl, λ _. not-false bucket h)))
both_sound true false bucket = ((λ h. refl), (λ h. (refl, λ t. never (sym t))))
both_sound false touched bucket = ((λ h. never (sym h.0)), (λ h. never h))

-- where a table has buckets, a key's slot is one of them, also where its bucket isn't kept
pub slot_below : (e : Env) → 1 ≤ e.kept → e.kept ≤ 256 → (key : Bytes) → slot e key < e.kept
unfolding bucket_number
slot_below e one most key = omega (arith, bit_length-most (distance_to e key))

module _ (read : Bytes → ℕ → Reading) where
  -- a sound table of the rules has a byte form
  pub table-form : (own : Bytes) (count : ℕ) → 1 ≤ count → count ≤ 256
      → (t : Table) → TableSound (with_keccak read own count) t → IsTable (with_keccak read own count) t
      → SoundTable own t.clock t.buckets
  unfolding home
  table-form own count one most t ok values =
      record {
        own_size = ok.lawful.own_size;
        clock_fits = values.clock;
        one = omega (arith, ok.sized);
        most = omega (arith, ok.sized);
        each = λ j h. rw ok.sized (record { rules = ok.each j; values = values.each j });
      }

  -- and a table with a byte form is a sound table of the rules
  module _ (own : Bytes) (bytes : IsBytes own) (t : Table) (f : SoundTable own t.clock t.buckets) where
    abbrev pub rules : Env
    rules = with_keccak read own (length t.buckets)

    pub form-sound : TableSound rules t
    unfolding home
    form-sound = table-sound rules (keccak_lawful read own (length t.buckets) f.own_size bytes) t refl (λ i h. (f.each i h).rules)

    pub form-values : IsTable rules t
    form-values =
        record {
          clock = f.clock_fits;
          each = λ i.
              by_test (ltb i (length t.buckets))
              (λ h. (f.each i (ltb-true i (length t.buckets) h)).values)
              (λ h. rw (get_or-eq_default t.buckets no_contents (ltb-false i (length t.buckets) h)) (tt, tt));
        }

  -- ---- what a call reads from the byte form of a table

  module _ (own : Bytes) (t : Table) (f : SoundTable own t.clock t.buckets) where
    abbrev e : Env
    e = with_keccak read own (length t.buckets)

    abbrev s : Bytes
    s = encode own t

    env-back : env_of read s ≡ e
    env-back = ap₂ (with_keccak read) (own_back own t.clock t.buckets f) (count-back own t.clock t.buckets f)

    module _ (key : Bytes) where
      fits : slot e key < length t.buckets
      fits = slot_below e f.one f.most key

      bucket-back : bucket_for read s key ≡ bucket_of e t key
      bucket-back = ap (λ (x : Env). layout.bucket_at s (slot x key)) env-back ∙ bucket-at-back own t.clock t.buckets f (slot e key) fits

      -- the rules, the clock and the key's bucket are the table's
      pub reads : {A : Type 0} (P : Env → ℕ → Contents → A) → P (env_of read s) (clock_of s) (bucket_for read s key) ≡ P e t.clock (bucket_of e t key)
      reads P =
          ap (λ x. P x (clock_of s) (bucket_for read s key)) env-back
          ∙ ap₂ (P e) (clock-back own t.clock t.buckets f) bucket-back

      slot-sound : bucket_sound s (slot (env_of read s) key) ≡ true
      unfolding buckets_sound
      slot-sound =
          ap (λ (x : Env). bucket_sound s (slot x key)) env-back
          ∙ all-below (count_of s) (bucket_sound s) (buckets-of-form own t.clock t.buckets f) (slot e key)
          (omega (arith, fits, count-back own t.clock t.buckets f))

      pub not-unsound : unsound_for read s key ≡ false
      not-unsound =
          (both_sound (header_sound s) (touches read s key) (bucket_sound s (slot (env_of read s) key))).0
          (header-of-form own t.clock t.buckets f, λ _. slot-sound)
