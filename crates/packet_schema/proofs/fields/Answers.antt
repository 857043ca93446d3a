-- `packet_schema::fields` meets its contract. Assumes nothing.
use mathlib.Core.Path.{ap, ◌∙◌}
use Rattle.rlp.proofs.Reading.{head_at, item_at}
use Rattle.packet_kinds.specs.Kinds.{worst}
use Rattle.packet_kinds.specs.declared.Kind.TheVariants.{Uint}
use Rattle.packet_schema.proofs.Turns.{fields-none, fields-item}
use Rattle.packet_schema.proofs.fields.Goals as goal

pub returns-in_default : goal.returns-in_default
returns-in_default c = let l = c.loop-i in
    let a = c.args in
    let h = head_at a.s.now l.at c.read_header.ensures c.in_default.is in
    c.worst.ensures ∙ ap (worst l.verdict) c.good_if.ensures ∙ fields-none a.kinds.now l.i a.required a.s.now l.at l.verdict c.loop-i-test.true (Uint 0) h ∙ l.invariant.1

pub loop-i-preserved : goal.loop-i-preserved
loop-i-preserved c = let l = c.loop-i in
    let a = c.args in
    let h = head_at a.s.now l.at c.read_header.ensures c.in-Some.is in (
      (item_at a.s.now l.at l.invariant.0 h).1,
      fields-item a.kinds.now l.i a.required a.s.now l.at l.verdict c.loop-i-test.true (Uint 0) h c.field-one.ensures c.worst-verdict.ensures ∙ l.invariant.1,
    )
