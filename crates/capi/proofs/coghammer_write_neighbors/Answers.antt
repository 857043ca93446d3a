-- `capi::coghammer_write_neighbors` meets its contract. Assumes nothing.
use mathlib.Core.Path.{◌≡◌, refl, sym, ap, ◌∙◌}
use mathlib.Core.Bool.{true, false}
use Prim.Native.Nat.{ℕ}
use native.Mathlib.Omega.{arith}
use Rattle.octets.specs.Octets.{Bytes}
use Rattle.packet_bodies.specs.Parts.{writable_nodes}
use Rattle.written.specs.Written.{written, written_in}
use Rattle.packet_bodies.specs.Writers.{neighbors_body}
use Rattle.capi_codes.specs.Codes.{code, written_code}
use Rattle.capi_nodes.specs.Packed.{is_packed, packed_list, can_packed}
use Rattle.capi_codes.proofs.Sizes.{body-fits}
use Rattle.capi_nodes.proofs.Packed.{body-is-written, same_answer, same_bytes}
use Rattle.capi.proofs.coghammer_write_neighbors.Goals as goal

-- bytes that are no packed nodes
not_packed : (s bytes buf : Bytes) {r : ℕ} → is_packed s ≡ false → r ≡ code 20 0 → (r ≡ written_code (written (can_packed s) bytes buf)) × (buf ≡ written_in (can_packed s) bytes buf)
unfolding written written_in
not_packed s bytes buf h e = (e ∙ sym (rw h refl), sym (rw h refl))

pub returns-then-not-is_packed : goal.returns-then-not-is_packed
returns-then-not-is_packed c = let a = c.args in
    let refused = not_packed a.nodes.now (neighbors_body (packed_list a.nodes.now) a.expiration) a.buf.now
    (sym c.is_packed.ensures ∙ c.if-not-is_packed.true) c.code.ensures in
    record { answer = refused.0; bytes = refused.1 }

pub unpacked-requires : goal.unpacked-requires
unpacked-requires c = sym c.is_packed.ensures ∙ c.if-not-is_packed.false

pub written_code-requires : goal.written_code-requires
written_code-requires c = let a = c.args in
    let l = c.unpacked in
    let ok : is_packed a.nodes.now ≡ true = sym c.is_packed.ensures ∙ c.if-not-is_packed.false in
    body-fits (writable_nodes l.result) (neighbors_body l.result a.expiration) a.buf.now c.write_neighbors.ensures.answer
    (body-is-written a.nodes.now ok l.result l.ensures.0 l.ensures.1 (λ i. (c.shared_slice_known-1.given i).fits) a.expiration (omega arith))

pub returns : goal.returns
returns c = let a = c.args in
    let l = c.unpacked in
    let ok : is_packed a.nodes.now ≡ true = sym c.is_packed.ensures ∙ c.if-not-is_packed.false in
    let w = c.write_neighbors.ensures in record {
      answer = c.written_code.ensures ∙ ap written_code (w.answer ∙ same_answer a.nodes.now ok l.result l.ensures.0 l.ensures.1 a.expiration a.buf.now);
      bytes = w.bytes ∙ same_bytes a.nodes.now ok l.result l.ensures.0 l.ensures.1 a.expiration a.buf.now;
    }
