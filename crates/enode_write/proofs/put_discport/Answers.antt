-- `enode_write::put_discport` meets its contract. Assumes nothing.
use Prim.Native.Nat.{◌+◌}
use mathlib.Core.Path.{◌≡◌, refl, ap}
use mathlib.Core.List.{List, [], ◌∷◌}
use native.Mathlib.Omega.{arith}
use lib.ListN.{length}
use Rattle.octets.specs.Octets.{Bytes}
use Rattle.octets.proofs.Progress.{Progress, start, room, step, finish}
use Rattle.text.specs.Decimals.{decimal}
use Rattle.enode.specs.Text.{discport}
use Rattle.enode_write.proofs.Lines.{discport_none, discport_some}
use Rattle.enode_write.proofs.put_discport.Goals as goal

pub returns-then-udp-tcp : goal.returns-then-udp-tcp
returns-then-udp-tcp c = let a = c.args in record { next = rw (discport_none a.udp a.tcp c.if-udp-tcp.true) (omega arith); bytes = rw (discport_none a.udp a.tcp c.if-udp-tcp.true) (refl) }

pub put_bytes-requires : goal.put_bytes-requires
put_bytes-requires c =
    let pieces : List Bytes = discport ∷ decimal c.args.udp ∷ [] in
    let begun : (c.args.udp ≡ c.args.tcp → ⊥) → Progress c.args.buf.now c.args.at pieces pieces c.args.buf.now c.args.at = λ h. start c.args.buf.now c.args.at pieces (omega (arith, c.requires, ap length (discport_some c.args.udp c.args.tcp h))) in
    room (begun c.if-udp-tcp.false)

pub put_decimal-requires : goal.put_decimal-requires
put_decimal-requires c =
    let pieces : List Bytes = discport ∷ decimal c.args.udp ∷ [] in
    let begun : (c.args.udp ≡ c.args.tcp → ⊥) → Progress c.args.buf.now c.args.at pieces pieces c.args.buf.now c.args.at = λ h. start c.args.buf.now c.args.at pieces (omega (arith, c.requires, ap length (discport_some c.args.udp c.args.tcp h))) in
    room (step (begun c.if-udp-tcp.false) (omega arith, c.put_bytes.ensures))

pub returns : goal.returns
returns c =
    let pieces : List Bytes = discport ∷ decimal c.args.udp ∷ [] in
    let begun : (c.args.udp ≡ c.args.tcp → ⊥) → Progress c.args.buf.now c.args.at pieces pieces c.args.buf.now c.args.at = λ h. start c.args.buf.now c.args.at pieces (omega (arith, c.requires, ap length (discport_some c.args.udp c.args.tcp h))) in
    let h = c.if-udp-tcp.false in
    let p₁ = step {n' = c.args.at + 10} (begun h) (omega arith, c.put_bytes.ensures) in
    let whole = finish (step p₁ (c.put_decimal.ensures.next, c.put_decimal.ensures.bytes)) (discport_some c.args.udp c.args.tcp h) in
    record { next = whole.0; bytes = whole.1 }
