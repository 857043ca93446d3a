-- The key that a text spells, and what is told of it. Assumes nothing.
use Prim.Native.Nat.{◌/◌}
use mathlib.Core.Path.{◌≡◌, refl, ap, ◌∙◌}
use mathlib.Core.Bool.{true, false}
use borrow.Author.Tests.{eqb-true}
use lib.Dec.{eqb}
use lib.ListN.{length, replicate}
use Rattle.octets.specs.Octets.{Bytes, store}
use Rattle.octets.proofs.Laws.{store_all}
use Rattle.lists.proofs.Laws.{and_left}
use Rattle.text.specs.Hex.{is_hex, unhex}
use Rattle.text.proofs.Hex.{length-unhex}
use Rattle.log_history.specs.declared.Reason.{Reason}
use Rattle.log_history.specs.Why.{why}
use Rattle.std.specs.Prelude.{Some, None}
use Rattle.log_reason.specs.Row.{is_key_text, why_of}

pub key_size : (digits : Bytes) → is_key_text digits ≡ true → length (unhex digits) ≡ 64
unfolding is_key_text
key_size digits h = length-unhex digits ∙ ap (λ n. n / 2) (eqb-true (length digits) 128 (and_left (eqb (length digits) 128) (is_hex digits) h))

pub key_read : (digits : Bytes) → is_key_text digits ≡ true → {key : Bytes} → key ≡ store (replicate 64 0) 0 (unhex digits) → key ≡ unhex digits
key_read digits h e = e ∙ store_all (replicate 64 0) (unhex digits) (key_size digits h)

-- ---- what is told

pub told_wrong : (log digits : Bytes) → is_key_text digits ≡ false → None ≡ why_of log digits
unfolding why_of
told_wrong log digits h = rw h refl

pub told_key : (log digits : Bytes) → is_key_text digits ≡ true → {key : Bytes} {r : Reason} → key ≡ unhex digits → r ≡ why key log → Some r ≡ why_of log digits
unfolding why_of
told_key log digits h e f = rw h (ap Some (f ∙ ap (λ k. why k log) e))
