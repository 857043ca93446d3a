-- `printout_rows::word_field` meets its contract. Assumes nothing.
use mathlib.Core.Path.{refl, ◌∙◌}
use native.Mathlib.Omega.{arith}
use lib.ListN.{length-set}
use Rattle.octets.proofs.Writing.{wrote_cons}
use Rattle.printout_rows.proofs.word_field.Goals as goal

pub put_word-requires : goal.put_word-requires
put_word-requires c = simp length-set (omega arith)

pub shape_of-out : goal.shape_of-out
shape_of-out c = let a = c.args in c.put_word.auto.out ∙ length-set a.out.now a.at 0x09

pub returns : goal.returns
returns c = let a = c.args in record { next = (wrote_cons a.out.now a.at 0x09 a.word.now _ _ _ refl (c.put_word.ensures.next, c.put_word.ensures.bytes)).0; bytes = (wrote_cons a.out.now a.at 0x09 a.word.now _ _ _ refl (c.put_word.ensures.next, c.put_word.ensures.bytes)).1 }
