-- Where a key leads: the bucket that it touches, in the words of the rules. Assumes nothing.
use mathlib.Core.Path.{◌≡◌, refl, sym, ap, ◌∙◌}
use mathlib.Core.Bool.{Bool, true, false, not, ◌&&◌}
use Prim.Native.Nat.{ℕ, ◌<◌}
use native.Mathlib.Omega.{arith}
use borrow.Author.Tests.{not-false}
use lib.Dec.{eqb}
use lib.ListN.{length}
use Rattle.octets.specs.Octets.{Bytes}
use Rattle.lists.proofs.Laws.{by_test, and_right}
use Rattle.table_model.specs.Layout.{count_of, header_sound}
use Rattle.table_model.specs.Sound.{bucket_sound, buckets_sound, table_sound}
use Rattle.table_model.proofs.Header.{header-sound}
use Rattle.table_model.proofs.Sound.{all-below}
use Rattle.call_history.specs.Model.{bucket_number, is_own, is_kept, slot}
use Rattle.call_model.specs.Calls.{env_of, unsound_for}
use Rattle.call_model.specs.Reading.{reading}
use Rattle.call_model.proofs.Form.{slot_below}
use Rattle.call_model.proofs.IfAny.{sound-head}
use Rattle.table.specs.declared.Touched.{Touched}
use Rattle.table.specs.declared.Touched.TheVariants.{WrongKey, Own, NotKept, Slot}
use Rattle.table.specs.Steps.{pick, touched_by}
use Rattle.call_touched.specs.declared.Reach.{Reach}
use Rattle.call_touched.specs.declared.Reach.TheVariants.{Unsound, At}
use Rattle.call_touched.specs.Steps.{touched_sound, Below, reached, HasHeader, SoundAt}

-- by its tests: the key is 64 bytes, its hash is the own one, its bucket is kept; the slot
abbrev pub leads : Bool → Bool → Bool → ℕ → Touched
leads whole own kept i = pick whole (pick own Own (pick kept (Slot i) NotKept)) WrongKey

below : (count : ℕ) (whole own kept : Bool) (i : ℕ) → i < count → Below count (leads whole own kept i)
below count false own kept i h = tt
below count true true kept i h = tt
below count true false true i h = h
below count true false false i h = tt

sound_test : (s : Bytes) (whole own kept : Bool) (i : ℕ)
    → not (touched_sound s (leads whole own kept i)) ≡ ((whole && (not own && kept)) && not (bucket_sound s i))
sound_test s false own kept i = refl
sound_test s true true kept i = refl
sound_test s true false true i = refl
sound_test s true false false i = refl

-- every bucket of a sound table is sound
sound_touched : (s : Bytes) → table_sound s ≡ true → (t : Touched) → Below (count_of s) t → touched_sound s t ≡ true
unfolding table_sound buckets_sound
sound_touched s h WrongKey below = refl
sound_touched s h Own below = refl
sound_touched s h NotKept below = refl
sound_touched s h (Slot i) below = all-below (count_of s) (bucket_sound s) (and_right (header_sound s) (buckets_sound s) h) i below

module _ (s key : Bytes) where
  pub is-touched : touched_by s key ≡ leads (eqb (length key) 64) (is_own (env_of reading s) key) (is_kept (env_of reading s) key) (slot (env_of reading s) key)
  unfolding touched_by bucket_number
  is-touched = refl

  pub no_header : header_sound s ≡ false → Unsound ≡ reached s key
  unfolding reached
  no_header h = sym (rw h refl)

  module _ (h : header_sound s ≡ true) where
    pub is_below : Below (count_of s) (touched_by s key)
    is_below =
        let header = header-sound s h in
        rw is-touched (below (count_of s) (eqb (length key) 64) (is_own (env_of reading s) key) (is_kept (env_of reading s) key) (slot (env_of reading s) key)
        (slot_below (env_of reading s) header.one header.most key))

    unsound-is : unsound_for reading s key ≡ not (touched_sound s (touched_by s key))
    unsound-is =
        rw (is-touched, sound_test s (eqb (length key) 64) (is_own (env_of reading s) key) (is_kept (env_of reading s) key) (slot (env_of reading s) key), h) refl

    pub reaches : touched_sound s (touched_by s key) ≡ true → At (touched_by s key) ≡ reached s key
    unfolding reached
    reaches t = sym (rw (unsound-is ∙ ap not t) refl)

    pub reaches-none : touched_sound s (touched_by s key) ≡ false → Unsound ≡ reached s key
    unfolding reached
    reaches-none t = sym (rw (unsound-is ∙ ap not t) refl)

  pub reaches-sound : table_sound s ≡ true → At (touched_by s key) ≡ reached s key
  reaches-sound t = reaches (sound-head s t) (sound_touched s t (touched_by s key) (is_below (sound-head s t)))

  -- what was reached says whether 1 applies
  module _ {r : Reach} (e : r ≡ reached s key) where
    abbrev test : Bool
    test = unsound_for reading s key

    pub unsound-reached : r ≡ Unsound → unsound_for reading s key ≡ true
    unfolding reached
    unsound-reached u =
        by_test (unsound_for reading s key) (λ g. g)
        (λ g. let at : reached s key ≡ At (touched_by s key) = rw g refl in absurd (let z : ◌≡◌ {A = ℕ} 0 1 = cc in omega arith))

    pub sound-reached : {t : Touched} → r ≡ At t → (unsound_for reading s key ≡ false) × (t ≡ touched_by s key)
    unfolding reached
    sound-reached {t} u =
        by_test (unsound_for reading s key)
        (λ g. let none : reached s key ≡ Unsound = rw g refl in absurd (let z : ◌≡◌ {A = ℕ} 0 1 = cc in omega arith))
        (λ g. let at : reached s key ≡ At (touched_by s key) = rw g refl in
        let same : t ≡ touched_by s key = cc in
        (g, same))

  pub header-there : unsound_for reading s key ≡ false → header_sound s ≡ true
  header-there g = by_test (header_sound s) (λ t. t) (λ t. let no : true ≡ false = rw t at g in absurd (let z : ◌≡◌ {A = ℕ} 0 1 = cc in omega arith))

  pub reached-header : HasHeader s (reached s key)
  unfolding reached
  reached-header =
      by_test (unsound_for reading s key)
      (λ g. rw g tt)
      (λ g. let h = header-sound s (header-there g) in rw g (omega (arith, h.size)))

  -- where 1 does not apply, a bucket that is touched is sound
  pub sound-at : unsound_for reading s key ≡ false → eqb (length key) 64 ≡ true → is_own (env_of reading s) key ≡ false → is_kept (env_of reading s) key ≡ true
      → SoundAt s (slot (env_of reading s) key)
  sound-at g whole own kept =
      let h : header_sound s ≡ true = header-there g in
      let header = header-sound s h in
      let no : not (bucket_sound s (slot (env_of reading s) key)) ≡ false = rw (h, whole, own, kept) at g in
      record { header = h; kept = slot_below (env_of reading s) header.one header.most key; bucket = not-false _ no }
