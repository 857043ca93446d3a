-- `capi::coghammer_packet` meets its contract. Assumes nothing.
use mathlib.Core.Path.{◌≡◌, refl, ◌∙◌}
use mathlib.Core.List.{List}
use Prim.Native.Nat.{ℕ}
use Rattle.packet.specs.declared.Parsed.{Parsed}
use Rattle.packet.specs.declared.Parsed.TheVariants as parsed
use Rattle.packet_datagram.specs.Datagram.{packet_in}
use Rattle.capi_packet.specs.Fields.{read_number, fields_after}
use Rattle.capi.proofs.coghammer_packet.Goals as goal

-- a number that is not 0 is a refused packet's
kept : (p : Parsed) (old : List ℕ) → (read_number p ≡ 0 → ⊥) → old ≡ fields_after p old
kept (parsed.Packet p) old h = absurd (h refl)
kept (parsed.Refused n) old h = refl

pub returns-then-read-ne0 : goal.returns-then-read-ne0
returns-then-read-ne0 c = let a = c.args in
    let e = c.read_fields-read.ensures.0 in
    record { value = e; fields_after = kept (packet_in a.datagram.now) a.fields.now (λ z. c.if-read-ne0.true (e ∙ z)) }
