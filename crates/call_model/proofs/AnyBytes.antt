-- What holds of a call on any bytes. Assumes nothing.
use Prim.Native.Nat.{ℕ}
use mathlib.Core.Path.{◌≡◌, refl, sym, ap, ◌∙◌}
use mathlib.Core.Bool.{true}
use borrow.Author.Tests.{ne_eqb}
use native.Mathlib.Omega.{arith}
use lib.Dec.{eqb}
use lib.ListN.{length}
use Rattle.octets.specs.Octets.{Bytes, IsBytes}
use Rattle.octets.proofs.Laws.{length-store, bytes_part}
use Rattle.lists.proofs.Laws.{by_test, never}
use Rattle.table_model.specs.Layout.{offset_of, own_of, clock_of, buckets_of}
use Rattle.table_model.specs.Sound.{table_sound}
use Rattle.table_model.proofs.Table.{length-table}
use Rattle.table_model.specs.Facts.{SoundTable}
use Rattle.table_model.proofs.Sound.{sized-table, form_is_sound, sound_is_table, table_of_sound}
use Rattle.call_history.specs.Model.{Env, Reading, Call, datagram, ping_sent, sweep, closest, unclocked, Table, next}
use Rattle.call_history.specs.Keccak.{with_keccak}
use Rattle.call_history.specs.Chain.{IsCall}
use Rattle.call_history.proofs.Sound.{TableSound, IsTable, next-sound, next-values}
use Rattle.call_model.specs.Calls.{answer_on, effect_on, bytes_after}
use Rattle.call_model.specs.OverBytes.{encode}
use Rattle.call_model.specs.AnyBytes.{OnAnyBytes}
use Rattle.call_model.specs.Claims.{table_in}
use Rattle.call_model.proofs.Form.{table-form, form-sound, form-values}
use Rattle.call_model.proofs.Step.{step_on_form}
use Rattle.call_model.proofs.Numbers.{number_listed, one-exactly}

module _ (read : Bytes → ℕ → Reading) where
  -- what holds of the bytes as they were and of an accepted call's effect holds of what the call leaves
  by_bytes : (P : Bytes → Type 0) (s : Bytes) (c : Call) → P (effect_on read s c) → P s → P (bytes_after read s c)
  unfolding bytes_after
  by_bytes P s c f g = by_test (eqb (answer_on read s c) 0) (λ h. rw h f) (λ h. rw h g)

  refused_unchanged : (s : Bytes) (c : Call) → (answer_on read s c ≡ 0 → ⊥) → bytes_after read s c ≡ s
  unfolding bytes_after
  refused_unchanged s c h = rw (ne_eqb (answer_on read s c) 0 h) refl

  closest-unchanged : (s target : Bytes) (room : ℕ) → bytes_after read s (closest target room) ≡ s
  closest-unchanged s target room = by_bytes (λ m. m ≡ s) s (closest target room) refl refl

  -- ---- on sound bytes

  module _ (s : Bytes) (bytes : IsBytes s) (ok : table_sound s ≡ true) (c : Call) (is : IsCall c) where
    abbrev t : Table
    t = table_in s

    abbrev form : SoundTable (own_of s) (clock_of s) (buckets_of s)
    form = sound_is_table s bytes ok

    abbrev e : Env
    e = with_keccak read (own_of s) (length (buckets_of s))

    own_bytes : IsBytes (own_of s)
    own_bytes = bytes_part s 0 32 bytes

    abbrev rules-hold : TableSound e t
    rules-hold = form-sound read (own_of s) own_bytes t form

    abbrev values : IsTable e t
    values = form-values read (own_of s) own_bytes t form

    left : bytes_after read s c ≡ encode (own_of s) (next e t c)
    left =
        ap (λ m. bytes_after read m c) (sym (table_of_sound s bytes ok))
        ∙ (step_on_form read (own_of s) t own_bytes form c is).1

    after : SoundTable (own_of s) (next e t c).clock (next e t c).buckets
    after =
        table-form read (own_of s) (length (buckets_of s)) form.one form.most (next e t c)
        (next-sound e t rules-hold c) (next-values e t rules-hold values c is)

    sound-kept : table_sound (bytes_after read s c) ≡ true
    sound-kept = ap table_sound left ∙ form_is_sound (own_of s) (next e t c).clock (next e t c).buckets after

    sound-length : length (bytes_after read s c) ≡ length s
    sound-length =
        ap length left
        ∙ length-table (own_of s) (next e t c).clock (next e t c).buckets form.own_size (sized-table (own_of s) (next e t c).clock (next e t c).buckets after)
        ∙ ap offset_of (next-sound e t rules-hold c).sized
        ∙ sym (length-table (own_of s) (clock_of s) (buckets_of s) form.own_size (sized-table (own_of s) (clock_of s) (buckets_of s) form))
        ∙ ap length (table_of_sound s bytes ok)

  -- ---- the length

  length-kept : (s : Bytes) (c : Call) → IsBytes s → IsCall c → length (bytes_after read s c) ≡ length s
  length-kept s (datagram now unix address udp key bytes) bs is =
      by_bytes (λ m. length m ≡ length s) s (datagram now unix address udp key bytes) (simp length-store) refl
  length-kept s (ping_sent now key address udp tcp hash) bs is =
      by_bytes (λ m. length m ≡ length s) s (ping_sent now key address udp tcp hash) (simp length-store) refl
  length-kept s (sweep now) bs is =
      by_test (table_sound s)
      (λ ok. sound-length s bs ok (sweep now) is)
      (λ h.
      let one : answer_on read s (sweep now) ≡ 1 = (one-exactly read s (sweep now)).1 (λ ok. never (sym ok ∙ h)) in
      ap length (refused_unchanged s (sweep now) (λ z. absurd (omega arith))))
  length-kept s (closest target room) bs is = ap length (closest-unchanged s target room)
  length-kept s (unclocked c) bs is = by_bytes (λ m. length m ≡ length s) s (unclocked c) refl refl

  pub on-any-bytes : OnAnyBytes read
  on-any-bytes =
      record {
        number_listed = number_listed read;
        one-exactly = one-exactly read;
        refused_unchanged = refused_unchanged;
        closest-unchanged = closest-unchanged;
        length-kept = length-kept;
        sound-kept = λ s c bs is ok. sound-kept s bs ok c is;
      }
