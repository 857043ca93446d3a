-- What the small functions make is what a line does. Assumes nothing.
use Prim.Native.Nat.{ℕ}
use mathlib.Core.Path.{◌≡◌, refl}
use mathlib.Core.Bool.{Bool, true, false, not}
use Rattle.lists.specs.Lists.{any}
use Rattle.bucket_model.specs.Rules.{is_overdue}
use Rattle.bucket_lookup.specs.declared.Lookup.{Lookup}
use Rattle.bucket_lookup.specs.Steps.{found}
use Rattle.log_acts.specs.declared.Acted.{Acted}
use Rattle.log_acts.specs.Acts.{swept_acts}

pub not_not : (b : Bool) → not (not b) ≡ b
not_not true = refl
not_not false = refl

pub swept-acts : (l : Lookup) (now : ℕ) {n k : ℕ} {o : Bool} → n ≡ k → o ≡ any (λ e. is_overdue now e.ping) (found l)
    → ◌≡◌ {A = Acted} (record { number = n; named = false; moves = false; pings = false; overdue = o; looks = true }) (swept_acts l k now)
swept-acts l now h k = rw (h, k) refl
