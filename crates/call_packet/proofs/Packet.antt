-- The reply to a packet, and the bucket after a packet other than a pong. Assumes nothing.
use mathlib.Core.Path.{◌≡◌, sym, ◌∙◌, refl}
use mathlib.Core.Bool.{Bool, true, false}
use Prim.Native.Nat.{ℕ}
use Rattle.octets.specs.Octets.{Bytes}
use Rattle.bucket_model.specs.Contents.{Contents}
use Rattle.bucket_model.specs.Rules.{not_verified, on_heard}
use Rattle.call_history.specs.Model.{on_packet}
use Rattle.bucket.specs.declared.Bucket.{Bucket}
use Rattle.bucket.specs.Steps.{Shows}
use mathlib.Core.List.{List}
use borrow.Author.Tests.{ne_eqb}
use Rattle.lists.specs.Lists.{first}
use Rattle.call_answer.specs.declared.Received.{Received}
use Rattle.call_answer.specs.Answer.{refusal}
use Rattle.call_packet.specs.Steps.{Replies}

-- ---- the reply to a packet

module _ {tests : List (Bool × ℕ)} {m : Contents} {r : Received} (b : Bucket) where
  pub refuses : {n : ℕ} → n ≡ first tests → (n ≡ 0 → ⊥) → Replies tests m r (record { number = n; after = b; answer = refusal n })
  refuses {n} e some = record { number = e; after = λ z. absurd (some z); answer = sym (rw (ne_eqb n 0 some) refl) }

  pub accepts : {x : Received} → 0 ≡ first tests → Shows b m → x ≡ r → Replies tests m r (record { number = 0; after = b; answer = x })
  accepts none h e = record { number = none; after = λ z. h; answer = e }

-- ---- a packet that is heard

-- `r` is what the code found of the sender
module _ (now : ℕ) (address : Bytes) (udp : ℕ) (key : Bytes) (m : Contents) {r : Bool} (e : r ≡ not_verified now address udp key m) (b : Bucket) where
  pub not-heard : r ≡ true → Shows b m → Shows b (on_packet now address udp key m)
  not-heard t h = rw (sym e ∙ t) h

  pub is-heard : r ≡ false → Shows b (on_heard now key m) → Shows b (on_packet now address udp key m)
  is-heard t h = rw (sym e ∙ t) h
