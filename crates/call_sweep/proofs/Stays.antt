-- What stays of an entry in bytes, by its two stamps. Assumes nothing.
use mathlib.Core.Path.{◌≡◌, sym, ap, ◌∙◌}
use mathlib.Core.Bool.{Bool, true, false, not, ◌&&◌}
use Prim.Native.Nat.{ℕ, ◌+◌}
use native.Mathlib.Omega.{arith}
use Rattle.octets.specs.Octets.{Bytes, part}
use Rattle.octets.proofs.Laws.{part-part}
use Rattle.entry.specs.declared.Stamp.{Stamp}
use Rattle.entry.specs.declared.PingState.{PingState}
use Rattle.entry.specs.declared.EndpointProof.{EndpointProof}
use Rattle.entry.specs.Layout.{decode_entry, decode_stamp, ping_of, proof_of}
use Rattle.bucket_model.specs.Rules.{is_overdue, proof_expired}
use Rattle.bucket_sweep.specs.Steps.{stays}

module _ (s : Bytes) (at now : ℕ) {stamp : Stamp} {ping : PingState} {overdue : Bool}
    (es : stamp ≡ decode_stamp (part s (at + 102) 9)) (ep : ping ≡ ping_of stamp) (eo : overdue ≡ is_overdue now ping) where
  is-overdue : overdue ≡ is_overdue now (decode_entry (part s at 143)).ping
  unfolding decode_entry
  is-overdue =
      eo
      ∙ ap (is_overdue now) (ep ∙ ap ping_of es)
      ∙ ap (λ l. is_overdue now (ping_of (decode_stamp l))) (sym (part-part s at 143 102 9 (omega arith)))

  pub stays-entry : {waiting : Bool} → waiting ≡ false → not overdue ≡ stays waiting now (decode_entry (part s at 143))
  stays-entry h = ap not is-overdue ∙ simp h

  pub stays-replacement : {waiting : Bool} {proof-stamp : Stamp} {proof : EndpointProof} {expired r : Bool} → waiting ≡ true
      → proof-stamp ≡ decode_stamp (part s (at + 93) 9)
      → proof ≡ proof_of proof-stamp
      → expired ≡ proof_expired now proof
      → r ≡ (not overdue && not expired)
      → r ≡ stays waiting now (decode_entry (part s at 143))
  unfolding decode_entry
  stays-replacement {expired = expired} h et eq ee er =
      let is : expired ≡ proof_expired now (decode_entry (part s at 143)).proof =
      ee
      ∙ ap (proof_expired now) (eq ∙ ap proof_of et)
      ∙ ap (λ l. proof_expired now (proof_of (decode_stamp l))) (sym (part-part s at 143 93 9 (omega arith))) in
      er ∙ ap (λ b. not b && not expired) is-overdue ∙ ap (λ b. not (is_overdue now (decode_entry (part s at 143)).ping) && not b) is ∙ simp h
