-- The writes of a body, and the answer that they end in.
use Prim.Native.Nat.{ℕ, ◌+◌, ◌≤◌, ◌<◌}
use mathlib.Core.Path.{◌≡◌, ap, ◌∙◌}
use mathlib.Core.Bool.{Bool, true}
use mathlib.Core.List.{List, [], ◌∷◌, ◌++◌}
use native.Mathlib.Omega.{arith}
use lib.ListN.{length, length-append}
use Rattle.octets.specs.Octets.{Bytes}
use Rattle.rlp.specs.Encoding.{Item, header, encodes}
use Rattle.packet_bodies.specs.Parts.{body}
use Rattle.std.specs.Prelude.{Ok, Err}
use Rattle.written.specs.declared.WriteError.TheVariants.{Short}
use Rattle.written.proofs.Answers.{Answered, done, short}
use Rattle.octets.proofs.Progress.{Progress, concat, start, finish}
use Rattle.packet_bodies.proofs.Sizes.{framed}

-- the writes of a body whose items take `size` bytes: type and header, then `pieces`; nothing is written yet
abbrev pub Begun : ℕ → ℕ → List Bytes → Bytes → Type 0
Begun kind size pieces buf = Progress buf 0 ((kind ∷ header 0xc0 size) ∷ pieces) ((kind ∷ header 0xc0 size) ∷ pieces) buf 0

module _ (kind : ℕ) (items : List Item) {size : ℕ} (is : size ≡ length (encodes items)) where
  body_is : (kind ∷ header 0xc0 size) ++ encodes items ≡ body kind items
  body_is = ap (λ (x : Bytes). kind ∷ x) (framed size (encodes items) is)

  pub body-length : length (body kind items) ≡ 1 + length (header 0xc0 size) + size
  body-length = omega (arith, ap length body_is, length-append (header 0xc0 size) (encodes items))

  all_is : (pieces : List Bytes) → concat pieces ≡ encodes items → concat ((kind ∷ header 0xc0 size) ∷ pieces) ≡ body kind items
  all_is pieces e = ap (λ (x : Bytes). (kind ∷ header 0xc0 size) ++ x) e ∙ body_is

  pub begin : {pieces : List Bytes} {buf : Bytes} → concat pieces ≡ encodes items → 1 + length (header 0xc0 size) + size ≤ length buf → Begun kind size pieces buf
  begin {pieces} {buf} e h = start buf 0 ((kind ∷ header 0xc0 size) ∷ pieces) (omega (arith, ap length (all_is pieces e), body-length))

  pub end : {pieces : List Bytes} {ok : Bool} {buf exit : Bytes} {n : ℕ} → concat pieces ≡ encodes items → ok ≡ true
      → Progress buf 0 ((kind ∷ header 0xc0 size) ∷ pieces) [] exit n → Answered ok (body kind items) buf (Ok n) exit
  end {pieces} {ok} {buf} e t p = done ok (body kind items) buf t (omega (arith, p.fits, ap length (all_is pieces e))) (finish p (all_is pieces e))

  pub too_short : {ok : Bool} {buf : Bytes} → ok ≡ true → length buf < 1 + length (header 0xc0 size) + size → Answered ok (body kind items) buf (Err Short) buf
  too_short {ok} {buf} t l = short ok (body kind items) buf t (omega (arith, body-length))
