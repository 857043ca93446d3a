-- `bucket_rules::kept` meets its contract. The invariant: the first n of `kept` are those of the first i that stay. Assumes nothing.
use mathlib.Core.Path.{◌≡◌, refl, ◌∙◌}
use native.Mathlib.Omega.{arith}
use borrow.Author.Rules.{rules}
use lib.ListN.{length}
use Rattle.bucket.proofs.Laws.{length_mapped}
use Rattle.bucket_sweep.specs.Steps.{stays}
use Rattle.bucket_range.proofs.Laws.{counted, as_number}
use Rattle.bucket_sweep.proofs.Laws.{kept_turn, kept_done}
use Rattle.bucket_sweep.proofs.kept.Goals as goal

pub loop-i-init : goal.loop-i-init
loop-i-init c =
    let items_size : length c.args.l.items ≡ 16 = search (rules, length_mapped) in
    (omega arith, record { most = omega arith; wide = items_size; are = refl })

pub offset_bounds-kept-n : goal.offset_bounds-kept-n
offset_bounds-kept-n c = omega (arith, c.loop-i.invariant.1.most)

pub bounds-kept-n : goal.bounds-kept-n
bounds-kept-n c = omega (arith, c.loop-i.invariant.1.most)

pub overflow_add-n : goal.overflow_add-n
overflow_add-n c = omega (arith, c.loop-i.invariant.1.most, counted c.stays.result (c.from-n.ensures ∙ as_number c.stays.result))

pub loop-i-preserved : goal.loop-i-preserved
loop-i-preserved c =
    let items_size : length c.args.l.items ≡ 16 = search (rules, length_mapped) in
    let args = c.args in (
      omega arith,
      kept_turn (stays args.waiting args.clock.0) args.l.items c.loop-i.kept.items c.loop-i.i c.loop-i.n
          (omega (arith, items_size, c.requires)) (omega (arith, c.requires)) c.loop-i.invariant.1 c.stays.ensures (c.from-n.ensures ∙ as_number c.stays.result),
    )

pub returns : goal.returns
returns c = let args = c.args in
    let e : c.loop-i.i ≡ args.l.len = omega arith in
    kept_done (stays args.waiting args.clock.0) args.l c.loop-i.kept.items c.loop-i.n c.requires (rw e at c.loop-i.invariant.1)
