-- `log_line::each` meets its contract. The invariant: the kinds and fields that are left decide. Assumes nothing.
use mathlib.Core.Path.{◌≡◌, sym, ap, ap₂, ◌∙◌}
use native.Mathlib.Omega.{arith}
use lib.ListN.{length}
use Prim.Native.Nat.{suc}
use Rattle.std.specs.Iterator.Adapters.{zip_first, zip_second}
use Rattle.std.specs.Slice.Iter.{iter_rest}
use Rattle.std.proofs.lemmas.Slice.Zip.{Zip-more, either_empty_from_Zip}
use Rattle.log_line.specs.Forms.{has, each}
use Rattle.log_line.proofs.Reading.{each-on, each-off, each-end}
use Rattle.log_line.proofs.each.Goals as goal

pub loop-kind-init : goal.loop-kind-init
loop-kind-init c = let a = c.args in
    let first : iter_rest (zip_first c.into_iter-kind-iterator.result) ≡ a.kinds.now =
    ap (λ z. iter_rest (zip_first z)) c.into_iter-kind-iterator.ensures.into_iter_gives ∙ ap iter_rest c.zip-kind-items.ensures.first ∙ c.iter.ensures.rest in
    let fields : iter_rest (zip_second c.zip-kind-items.result) ≡ a.spans.now = c.zip-kind-items.ensures.second.0 in
    let second : iter_rest (zip_second c.into_iter-kind-iterator.result) ≡ a.spans.now =
    ap (λ z. iter_rest (zip_second z)) c.into_iter-kind-iterator.ensures.into_iter_gives ∙ fields in
    record {
      size = omega (arith, ap length first, ap length second, c.requires.0);
      within = rw second c.requires.1;
      rest = ap₂ (each a.line.now) first second;
    }

pub text_of-requires : goal.text_of-requires
text_of-requires c = let turn = Zip-more c.loop-kind.kind-iterator c.next.new.self _ (c.in-Some.kind, c.in-Some.f) c.in-Some.is c.next.ensures.steps in
    rw turn.1 at (c.loop-kind.invariant.within 0)

pub returns-then-not-has : goal.returns-then-not-has
returns-then-not-has c = let turn = Zip-more c.loop-kind.kind-iterator c.next.new.self _ (c.in-Some.kind, c.in-Some.f) c.in-Some.is c.next.ensures.steps in
    each-off c.args.line.now turn.0 turn.1 c.loop-kind.invariant.rest (sym (c.has.ensures ∙ ap (has _) c.text_of.ensures) ∙ c.if-not-has.true)

pub loop-kind-preserved : goal.loop-kind-preserved
loop-kind-preserved c = let turn = Zip-more c.loop-kind.kind-iterator c.next.new.self _ (c.in-Some.kind, c.in-Some.f) c.in-Some.is c.next.ensures.steps in
    record {
      size = omega (arith, ap length turn.0, ap length turn.1, c.loop-kind.invariant.size);
      within = λ i. rw turn.1 at (c.loop-kind.invariant.within (suc i));
      rest = each-on c.args.line.now turn.0 turn.1 c.loop-kind.invariant.rest (sym (c.has.ensures ∙ ap (has _) c.text_of.ensures) ∙ c.if-not-has.false);
    }

pub returns : goal.returns
returns c = each-end c.args.line.now _ _ c.loop-kind.invariant.size (either_empty_from_Zip c.loop-kind.kind-iterator c.next.new.self _ c.in-None.is c.next.ensures.steps) c.loop-kind.invariant.rest
