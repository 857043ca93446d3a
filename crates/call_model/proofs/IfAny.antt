-- No bytes, or a sound table. Assumes nothing.
use mathlib.Core.Path.{◌≡◌, refl}
use mathlib.Core.Bool.{true, false}
use mathlib.Core.List.{[], ◌∷◌}
use native.Mathlib.Omega.{arith}
use lib.ListN.{length}
use Rattle.octets.specs.Octets.{Bytes}
use Rattle.lists.proofs.Laws.{by_test, and_left}
use Rattle.table_model.specs.Layout.{header_sound}
use Rattle.table_model.specs.Sound.{buckets_sound, table_sound}
use Rattle.table_model.proofs.Header.{header-sound}
use Rattle.call_model.specs.IfAny.{sound_if_any}

pub sound-any : (s : Bytes) → table_sound s ≡ true → sound_if_any s ≡ true
sound-any [] h = refl
sound-any (b ∷ s) h = h

pub some_sound : (s : Bytes) → sound_if_any s ≡ true → (length s ≡ 0 → ⊥) → table_sound s ≡ true
some_sound [] h some = absurd (some refl)
some_sound (b ∷ s) h some = h

pub sound-head : (s : Bytes) → table_sound s ≡ true → header_sound s ≡ true
unfolding table_sound
sound-head s h = and_left (header_sound s) (buckets_sound s) h

-- no bytes are no table
pub no_head : (s : Bytes) → length s ≡ 0 → header_sound s ≡ false
no_head s none = by_test (header_sound s) (λ t. absurd (omega (arith, (header-sound s t).size))) (λ t. t)

pub none_unsound : (s : Bytes) → length s ≡ 0 → table_sound s ≡ false
unfolding table_sound
none_unsound s none = rw (no_head s none) refl
