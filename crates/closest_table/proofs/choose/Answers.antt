-- `closest_table::choose` meets its contract. The invariant: the first k buckets of the order had their turn. Assumes nothing.
use mathlib.Core.Path.{◌≡◌, sym, ◌∙◌}
use mathlib.Core.Bool.{true}
use Prim.Native.Nat.{◌-◌, ◌≤◌, ◌<◌}
use native.Mathlib.Numerals.{add-one}
use native.Mathlib.Omega.{arith}
use borrow.Author.Tests.{not-true, not-false}
use borrow.Author.Rules.{rules}
use mir.Syntax.{w8}
use mir.Val.{Fits}
use lib.ListN.{length, get_or}
use Rattle.octets.specs.Octets.{IsBytes}
use Rattle.table_model.specs.Layout.{count_of}
use Rattle.table_model.proofs.Header.{HeaderSound, header-sound}
use Rattle.closest_table.proofs.Walk.{order, is_sound, no-turn, turned-ordered, is_kept, slot_is, test-is, turn}
use Rattle.closest_table.proofs.Ends.{one-unsound, all-turned}
use Rattle.closest_table.proofs.choose.Goals as goal

pub taking_order-order-requires : goal.taking_order-order-requires
taking_order-order-requires c =
    let header : HeaderSound c.args.bytes.now = header-sound c.args.bytes.now c.requires.0 in
    let most : c.args.count ≤ 256 = omega (arith, header.most, c.requires.1.0) in
    most

pub loop-k-init : goal.loop-k-init
loop-k-init c = let args = c.args in
    (omega arith, no-turn args.bytes.now args.target c.none-best.ensures)

pub bounds-order-k : goal.bounds-order-k
bounds-order-k c =
    let header : HeaderSound c.args.bytes.now = header-sound c.args.bytes.now c.requires.0 in
    let most : c.args.count ≤ 256 = omega (arith, header.most, c.requires.1.0) in
    omega (arith, most)

pub overflow_cast-number : goal.overflow_cast-number
overflow_cast-number c =
    let number_kept : (256 - c.args.count ≤ get_or c.taking_order-order.result c.loop-k.k 0)
    × (get_or c.taking_order-order.result c.loop-k.k 0 < 256) = let at_order = c in
    let start = at_order in
    let pre = start.requires in
    is_kept start.args.bytes.now start.args.target pre.0 at_order.taking_order-order.result pre.1.1.0 pre.1.1.1 pre.1.0
    at_order.taking_order-order.ensures c.loop-k.k c.loop-k-test.true in
    record { fits = omega (arith, number_kept.1) }

pub overflow_sub-slot : goal.overflow_sub-slot
overflow_sub-slot c =
    let header : HeaderSound c.args.bytes.now = header-sound c.args.bytes.now c.requires.0 in
    let most : c.args.count ≤ 256 = omega (arith, header.most, c.requires.1.0) in
    most

pub overflow_sub-slot-in-loop-k : goal.overflow_sub-slot-in-loop-k
overflow_sub-slot-in-loop-k c =
    let number_kept : (256 - c.args.count ≤ get_or c.taking_order-order.result c.loop-k.k 0)
    × (get_or c.taking_order-order.result c.loop-k.k 0 < 256) = let at_order = c in
    let start = at_order in
    let pre = start.requires in
    is_kept start.args.bytes.now start.args.target pre.0 at_order.taking_order-order.result pre.1.1.0 pre.1.1.1 pre.1.0
    at_order.taking_order-order.ensures c.loop-k.k c.loop-k-test.true in
    number_kept.0

pub visit-visited-requires : goal.visit-visited-requires
visit-visited-requires c =
    let header : HeaderSound c.args.bytes.now = header-sound c.args.bytes.now c.requires.0 in
    let number_kept : (256 - c.args.count ≤ get_or c.taking_order-order.result c.loop-k.k 0)
    × (get_or c.taking_order-order.result c.loop-k.k 0 < 256) = let at_order = c in
    let start = at_order in
    let pre = start.requires in
    is_kept start.args.bytes.now start.args.target pre.0 at_order.taking_order-order.result pre.1.1.0 pre.1.1.1 pre.1.0
    at_order.taking_order-order.ensures c.loop-k.k c.loop-k-test.true in
    let start = c in
    let w = number_kept in (
      omega (arith, w.0, w.1, header.size, start.requires.1.0),
      turned-ordered start.args.bytes.now start.args.target c.loop-k.k c.loop-k.invariant.1,
    )

pub returns-then-not-visited : goal.returns-then-not-visited
returns-then-not-visited c =
    let tested : c.visit-visited.result.sound
    ≡ is_sound c.args.bytes.now c.args.target
    (get_or (order c.args.bytes.now c.args.target) c.loop-k.k 0) = let at_order = c in
    let start = at_order in
    let pre = start.requires in
    test-is start.args.bytes.now start.args.target pre.0 at_order.taking_order-order.result pre.1.1.0 pre.1.1.1 pre.1.0
    at_order.taking_order-order.ensures c.loop-k.k c.loop-k-test.true c.visit-visited.ensures.sound_value in
    let at_visit = c in
    let at_loop = at_visit in
    let start = at_loop in
    one-unsound start.args.bytes.now start.args.target start.requires.0 at_loop.loop-k.k (omega (arith, start.requires.1.0, at_visit.loop-k-test.true))
    (sym tested ∙ not-true _ c.if-not-visited.true) c.unsound.ensures

pub loop-k-preserved : goal.loop-k-preserved
loop-k-preserved c =
    let tested : c.visit-visited.result.sound
    ≡ is_sound c.args.bytes.now c.args.target
    (get_or (order c.args.bytes.now c.args.target) c.loop-k.k 0) = let at_order = c in
    let start = at_order in
    let pre = start.requires in
    test-is start.args.bytes.now start.args.target pre.0 at_order.taking_order-order.result pre.1.1.0 pre.1.1.1 pre.1.0
    at_order.taking_order-order.ensures c.loop-k.k c.loop-k-test.true c.visit-visited.ensures.sound_value in
    let at_visit = c in
    let at_loop = at_visit in
    let at_order = at_loop in
    let start = at_order in
    let pre = start.requires in
    let s = start.args.bytes.now in
    let target = start.args.target in
    let k = at_loop.loop-k.k in
    let yes : at_visit.visit-visited.result.sound ≡ true = not-false _ c.if-not-visited.false in
    let slot = slot_is s target pre.0 at_order.taking_order-order.result pre.1.1.0 pre.1.1.1 pre.1.0 at_order.taking_order-order.ensures k at_visit.loop-k-test.true in (
      omega arith,
      rw add-one
          (turn s target pre.0 k (omega (arith, pre.1.0, at_visit.loop-k-test.true)) at_loop.loop-k.invariant.1
          (sym tested ∙ yes) slot (at_visit.visit-visited.ensures.nearest_value yes)),
    )

pub returns : goal.returns
returns c =
    let target_size : length c.args.target ≡ 32 = search rules in
    let target_bytes : IsBytes c.args.target = λ i. let byte : Fits w8 (get_or c.args.target i 0) = search rules in byte.fits in
    let at_loop = c in
    let start = at_loop in
    let done : at_loop.loop-k.k ≡ count_of start.args.bytes.now = omega (arith, start.requires.1.0) in
    all-turned start.args.bytes.now start.args.target start.requires.0 target_size target_bytes (rw done at at_loop.loop-k.invariant.1)
