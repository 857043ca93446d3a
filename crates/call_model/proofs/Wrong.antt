-- Two wrong addresses are answered alike: 6 stands before all that looks at one. Assumes nothing.
use Prim.Native.Nat.{ℕ}
use mathlib.Core.Path.{◌≡◌, refl, sym, ◌∙◌}
use mathlib.Core.Bool.{Bool, true, false, cond, not}
use borrow.Author.Tests.{eqb-false}
use lib.Dec.{eqb, ltb}
use lib.ListN.{length}
use Rattle.octets.specs.Octets.{Bytes}
use Rattle.node.specs.Nodes.{is_address}
use Rattle.table_model.specs.Layout.{clock_of}
use Rattle.call_history.specs.Model.{datagram, is_refused, datagram_refusals}
use Rattle.call_model.specs.Calls.{unsound_for, answer_on, bytes_after}
use Rattle.call_model.specs.AnyBytes.{WrongAddresses}
use Rattle.call_model.specs.Reading.{reading}
use Rattle.call_model.proofs.AnyBytes.{on-any-bytes}

-- the lowest of 1 to 6 that applies
abbrev upto6 : Bytes → ℕ → ℕ → Bytes → Bytes → ℕ
upto6 s now unix key g =
    cond (unsound_for reading s key) 1
    (cond (ltb now (clock_of s)) 2 (cond (is_refused 3 (reading g unix)) 3 (cond (is_refused 4 (reading g unix)) 4 (cond (not (eqb (length key) 64)) 5 6))))

never_0 : (b₁ b₂ b₃ b₄ b₅ : Bool) → eqb (cond b₁ 1 (cond b₂ 2 (cond b₃ 3 (cond b₄ 4 (cond b₅ 5 6))))) 0 ≡ false
never_0 true b₂ b₃ b₄ b₅ = refl
never_0 false true b₃ b₄ b₅ = refl
never_0 false false true b₄ b₅ = refl
never_0 false false false true b₅ = refl
never_0 false false false false true = refl
never_0 false false false false false = refl

module _ (s : Bytes) (now unix : ℕ) (a : Bytes) (udp : ℕ) (key g : Bytes) (wrong : is_address a ≡ false) where
  number-wrong : answer_on reading s (datagram now unix a udp key g) ≡ upto6 s now unix key g
  unfolding answer_on datagram_refusals
  number-wrong = rw wrong

  bytes-wrong : bytes_after reading s (datagram now unix a udp key g) ≡ s
  bytes-wrong =
      (on-any-bytes reading).refused_unchanged s (datagram now unix a udp key g)
      (λ z. eqb-false (upto6 s now unix key g) 0 (never_0 (unsound_for reading s key) (ltb now (clock_of s)) (is_refused 3 (reading g unix)) (is_refused 4 (reading g unix)) (not (eqb (length key) 64))) (sym number-wrong ∙ z))

pub wrong_addresses : WrongAddresses
wrong_addresses s now unix a a' udp key g h h' =
    (number-wrong s now unix a udp key g h ∙ sym (number-wrong s now unix a' udp key g h'), bytes-wrong s now unix a udp key g h ∙ sym (bytes-wrong s now unix a' udp key g h'))
