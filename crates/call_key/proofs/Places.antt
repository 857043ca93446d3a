-- Where a key leads: the answer number, or the slot of its bucket. Assumes nothing.
use mathlib.Core.Path.{◌≡◌, refl, sym, ap, ◌∙◌}
use mathlib.Core.Bool.{Bool, true, false, cond, not}
use Prim.Native.Nat.{ℕ}
use native.Mathlib.Omega.{arith}
use lib.Dec.{eqb}
use lib.ListN.{length}
use Rattle.octets.specs.Octets.{Bytes}
use Rattle.lists.proofs.Laws.{by_test}
use Rattle.table.specs.declared.Touched.{Touched}
use Rattle.table.specs.Steps.{touched_by}
use Rattle.call_history.specs.Model.{is_own, is_kept, slot}
use Rattle.call_model.specs.Calls.{env_of, unsound_for}
use Rattle.call_model.specs.Reading.{reading}
use Rattle.call_touched.specs.Placed.{Placed}
use Rattle.call_touched.specs.Placed.{NotPlaced, In}
use Rattle.call_touched.specs.Steps.{SoundAt}
use Rattle.call_touched.proofs.Touch.{leads, is-touched, sound-at}
use Rattle.call_key.specs.Number.{key_number}
use Rattle.call_key.specs.Steps.{place_of, key_place, SoundPlace}

-- the tests behind that of 1
abbrev key_tests : Bool → Bool → Bool → ℕ
key_tests whole own kept = cond (not whole) 5 (cond own 7 (cond (not kept) 12 0))

by_leads : (whole own kept : Bool) (i : ℕ)
    → place_of (leads whole own kept i) ≡ cond (eqb (key_tests whole own kept) 0) (In i) (NotPlaced (key_tests whole own kept))
by_leads false own kept i = refl
by_leads true true kept i = refl
by_leads true false true i = refl
by_leads true false false i = refl

sound_leads : (s : Bytes) (whole own kept : Bool) (i : ℕ) → (whole ≡ true → own ≡ false → kept ≡ true → SoundAt s i)
    → SoundPlace s (place_of (leads whole own kept i))
sound_leads s false own kept i h = tt
sound_leads s true true kept i h = tt
sound_leads s true false true i h = h refl refl refl
sound_leads s true false false i h = tt

module _ (s key : Bytes) where
  pub unsound-place : unsound_for reading s key ≡ true → NotPlaced 1 ≡ key_place s key
  unfolding key_place key_number
  unsound-place u = sym (rw u refl)

  module _ (u : unsound_for reading s key ≡ false) {t : Touched} (e : t ≡ touched_by s key) {r : Placed} (is : r ≡ place_of t) where
    leads-to : r ≡ place_of (leads (eqb (length key) 64) (is_own (env_of reading s) key) (is_kept (env_of reading s) key) (slot (env_of reading s) key))
    leads-to = is ∙ ap place_of (e ∙ is-touched s key)

    is-place : r ≡ key_place s key
    unfolding key_place key_number
    is-place =
        leads-to
        ∙ by_leads (eqb (length key) 64) (is_own (env_of reading s) key) (is_kept (env_of reading s) key) (slot (env_of reading s) key)
        ∙ sym (rw u refl)

    is_sound : SoundPlace s r
    is_sound =
        rw leads-to
        (sound_leads s (eqb (length key) 64) (is_own (env_of reading s) key) (is_kept (env_of reading s) key) (slot (env_of reading s) key) (sound-at s key u))

    pub sound-place : (r ≡ key_place s key) × SoundPlace s r
    sound-place = (is-place, is_sound)

  -- what the place says of the number
  module _ {r : Placed} (e : r ≡ key_place s key) where
    pub not-placed : {n : ℕ} → r ≡ NotPlaced n → (eqb (key_number s key) 0 ≡ false) × (n ≡ key_number s key)
    unfolding key_place
    not-placed {n} u =
        by_test (eqb (key_number s key) 0)
        (λ g. let at : key_place s key ≡ In (slot (env_of reading s) key) = rw g refl in absurd (let z : ◌≡◌ {A = ℕ} 0 1 = cc in omega arith))
        (λ g. let at : key_place s key ≡ NotPlaced (key_number s key) = rw g refl in
        let same : n ≡ key_number s key = cc in
        (g, same))

    pub is_placed : {i : ℕ} → r ≡ In i → (eqb (key_number s key) 0 ≡ true) × (i ≡ slot (env_of reading s) key)
    unfolding key_place
    is_placed {i} u =
        by_test (eqb (key_number s key) 0)
        (λ g. let at : key_place s key ≡ In (slot (env_of reading s) key) = rw g refl in
        let same : i ≡ slot (env_of reading s) key = cc in
        (g, same))
        (λ g. let at : key_place s key ≡ NotPlaced (key_number s key) = rw g refl in absurd (let z : ◌≡◌ {A = ℕ} 0 1 = cc in omega arith))
