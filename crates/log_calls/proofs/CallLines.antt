-- What the calls of a line share: an answer that is written. Assumes nothing.
use Prim.Native.Nat.{ℕ, ◌≤◌}
use mathlib.Core.Path.{◌≡◌, ap, ◌∙◌}
use lib.ListN.{length}
use Rattle.octets.specs.Octets.{Bytes, store}
use Rattle.log_answer.specs.AnswerRows.{answer_room}

module _ {A : Type 0} (row : A → Bytes) (out : Bytes) {out' t : Bytes} {n : ℕ} {a : A} where
  -- a call answered a, which is b, and left t, which is t'; and the row of a was written
  pub answered : {b : A} {t' : Bytes} → (a ≡ b) × (t ≡ t') → (n ≡ length (row a)) × ((out' ≡ store out 0 (row a)) × (n ≤ answer_room))
      → (n ≡ length (row b)) × ((out' ≡ store out 0 (row b)) × ((t ≡ t') × (n ≤ answer_room)))
  answered (e, f) w = (w.0 ∙ ap (λ (x : A). length (row x)) e, (w.1.0 ∙ ap (λ (x : A). store out 0 (row x)) e, (f, w.1.1)))

  -- the same, of a call on three strings x, y, z that were decoded from x', y', z'
  pub answered-three : (answers : Bytes → Bytes → Bytes → A) (leaves : Bytes → Bytes → Bytes → Bytes) {x y z x' y' z' : Bytes}
      → x ≡ x' → y ≡ y' → z ≡ z' → (a ≡ answers x y z) × (t ≡ leaves x y z)
      → (n ≡ length (row a)) × ((out' ≡ store out 0 (row a)) × (n ≤ answer_room))
      → (n ≡ length (row (answers x' y' z'))) × ((out' ≡ store out 0 (row (answers x' y' z'))) × ((t ≡ leaves x' y' z') × (n ≤ answer_room)))
  answered-three answers leaves p q r (e, f) w = answered (cc, cc) w
