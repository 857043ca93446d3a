-- `printout_rows::hex_field` meets its contract. Assumes nothing.
use mathlib.Core.Path.{refl, ◌∙◌}
use native.Mathlib.Omega.{arith}
use lib.ListN.{length-set}
use Rattle.text.specs.Hex.{hex}
use Rattle.text.proofs.Hex.{length-hex}
use Rattle.octets.proofs.Writing.{wrote_cons}
use Rattle.printout_rows.proofs.hex_field.Goals as goal

pub put_hex-requires : goal.put_hex-requires
put_hex-requires c = simp length-set (omega (arith, c.requires, length-hex c.args.bytes.now))

pub shape_of-out : goal.shape_of-out
shape_of-out c = let a = c.args in c.put_hex.auto.buf ∙ length-set a.out.now a.at 0x09

pub returns : goal.returns
returns c = let a = c.args in record { next = (wrote_cons a.out.now a.at 0x09 (hex a.bytes.now) _ _ _ refl (c.put_hex.ensures.next, c.put_hex.ensures.bytes)).0; bytes = (wrote_cons a.out.now a.at 0x09 (hex a.bytes.now) _ _ _ refl (c.put_hex.ensures.next, c.put_hex.ensures.bytes)).1 }
