-- `enode_write::put_key` meets its contract. Assumes nothing.
use Prim.Native.Nat.{◌+◌}
use mathlib.Core.Path.{◌≡◌, ap}
use mathlib.Core.List.{List, [], ◌∷◌, ◌++◌, append-nil}
use native.Mathlib.Omega.{arith}
use lib.ListN.{length}
use Rattle.octets.specs.Octets.{Bytes}
use Rattle.octets.proofs.Progress.{Progress, concat, start, room, step, finish}
use Rattle.text.specs.Hex.{hex}
use Rattle.text.proofs.Hex.{length-hex}
use Rattle.enode.specs.Text.{scheme}
use Rattle.enode_write.specs.Steps.{key_text}
use Rattle.enode_write.proofs.put_key.Goals as goal

pub put_hex-requires : goal.put_hex-requires
put_hex-requires c =
    let pieces : List Bytes = scheme ∷ hex c.args.key ∷ [] in
    let pieces_are : concat pieces ≡ key_text c.args.key = ap (λ (t : Bytes). scheme ++ t) (append-nil (hex c.args.key)) in
    let begun : Progress c.args.buf.now c.args.at pieces pieces c.args.buf.now c.args.at = start c.args.buf.now c.args.at pieces (omega (arith, c.requires, ap length pieces_are)) in
    omega (arith, room (step {n' = c.args.at + 8} begun (omega arith, c.put_bytes.ensures)), length-hex c.args.key)

pub returns : goal.returns
returns c =
    let pieces : List Bytes = scheme ∷ hex c.args.key ∷ [] in
    let pieces_are : concat pieces ≡ key_text c.args.key = ap (λ (t : Bytes). scheme ++ t) (append-nil (hex c.args.key)) in
    let begun : Progress c.args.buf.now c.args.at pieces pieces c.args.buf.now c.args.at = start c.args.buf.now c.args.at pieces (omega (arith, c.requires, ap length pieces_are)) in
    let whole = finish (step (step {n' = c.args.at + 8} begun (omega arith, c.put_bytes.ensures)) (c.put_hex.ensures.next, c.put_hex.ensures.bytes)) pieces_are in
    record { next = whole.0; bytes = whole.1 }
