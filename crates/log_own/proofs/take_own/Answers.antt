-- `log_own::take_own` meets its contract. Assumes nothing.
use mathlib.Core.Path.{◌≡◌, refl, ◌∙◌}
use mathlib.Core.Bool.{cond}
use lib.Dec.{eqb}
use Rattle.octets.specs.Octets.{store}
use Rattle.table.specs.Init.{fresh_table}
use Rattle.log_line.specs.Fields.{said}
use Rattle.log_line.proofs.Decoded.{decoded}
use Rattle.log_own.specs.OwnLine.{own_number}
use Rattle.log_own.proofs.OwnLine.{own-again, own-accepted, own-refused}
use Rattle.log_own.proofs.take_own.Goals as goal

pub returns-then-replay : goal.returns-then-replay
returns-then-replay c = let a = c.args in
    let p = c.requires in
    own-again a.replay a.memory.now p.0 p.1.0 a.buckets (said a.line.now a.key) 21 c.if-replay.true refl

pub returns-then-number-eq0 : goal.returns-then-number-eq0
returns-then-number-eq0 c =
    let n = c.answer_number-number.result in
    let made : let a = c.args in let key = said a.line.now a.key in
    (n ≡ own_number a.buckets key) × (c.make.new.memory ≡ cond (eqb n 0) (store a.memory.now 0 (fresh_table key a.buckets)) a.memory.now) =
    let key = decoded (c.decode_field-n.ensures.count, (c.decode_field-n.ensures.bytes, c.decode_field-n.ensures.most)) in
    (c.answer_number-number.ensures ∙ rw key at c.make.ensures.number, rw (c.answer_number-number.ensures) (rw key at c.make.ensures.bytes)) in
    let a = c.args in
    let p = c.requires in
    own-accepted a.replay a.memory.now p.0 p.1.0 a.buckets (said a.line.now a.key) n c.if-replay.false
    made.0 c.if-number-eq0.true made.1

pub returns : goal.returns
returns c =
    let n = c.answer_number-number.result in
    let made : let a = c.args in let key = said a.line.now a.key in
    (n ≡ own_number a.buckets key) × (c.make.new.memory ≡ cond (eqb n 0) (store a.memory.now 0 (fresh_table key a.buckets)) a.memory.now) =
    let key = decoded (c.decode_field-n.ensures.count, (c.decode_field-n.ensures.bytes, c.decode_field-n.ensures.most)) in
    (c.answer_number-number.ensures ∙ rw key at c.make.ensures.number, rw (c.answer_number-number.ensures) (rw key at c.make.ensures.bytes)) in
    let a = c.args in
    let p = c.requires in
    own-refused a.replay a.memory.now p.0 p.1.0 a.buckets (said a.line.now a.key) n c.if-replay.false
    made.0 c.if-number-eq0.false made.1
