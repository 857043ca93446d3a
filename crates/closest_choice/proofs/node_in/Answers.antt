-- `closest_choice::node_in` meets its contract. Assumes nothing.
use mathlib.Core.Path.{refl}
use mathlib.Core.Bool.{false}
use Prim.Native.Nat.{◌+◌, ◌<◌, ◌≤◌}
use native.Mathlib.Omega.{arith}
use borrow.Author.Tests.{le-leb, lt-leb, lt-ltb, le-ltb}
use lib.ListN.{length, get_or}
use Rattle.table_model.specs.Layout.{offset_of}
use Rattle.closest_choice.proofs.Chosen.{no-entry, some-entry}
use Rattle.closest_choice.proofs.node_in.Goals as goal

pub returns-then-slot-ge256 : goal.returns-then-slot-ge256
returns-then-slot-ge256 c = let a = c.args in
    no-entry a.table.now a.slot a.index (rw (le-ltb a.slot 256 c.if-slot-ge256.true) refl) c.no_node.ensures

pub returns-then-table-at : goal.returns-then-table-at
returns-then-table-at c = let a = c.args in
    let short : length a.table.now < offset_of (a.slot + 1) = omega (arith, c.if-table-at.true) in
    no-entry a.table.now a.slot a.index
    (rw (lt-ltb a.slot 256 c.if-slot-ge256.false, lt-leb (offset_of (a.slot + 1)) (length a.table.now) short) refl) c.no_node-then-table-at.ensures

pub overflow_cast-count : goal.overflow_cast-count
overflow_cast-count c = omega (arith, c.shared_slice_known-2-1.given (offset_of c.args.slot))

pub returns-then-count-gt-ENTRIES : goal.returns-then-count-gt-ENTRIES
returns-then-count-gt-ENTRIES c = let a = c.args in
    let long : offset_of (a.slot + 1) ≤ length a.table.now = omega (arith, c.if-table-at.false) in
    no-entry a.table.now a.slot a.index
    (rw (
      lt-ltb a.slot 256 c.if-slot-ge256.false,
      le-leb (offset_of (a.slot + 1)) (length a.table.now) long,
      lt-leb (get_or a.table.now (offset_of a.slot) 0) 16 c.if-count-gt-ENTRIES.true,
    ) refl) c.no_node-then-count-gt-ENTRIES.ensures

pub returns-then-count-index : goal.returns-then-count-index
returns-then-count-index c = let a = c.args in
    let long : offset_of (a.slot + 1) ≤ length a.table.now = omega (arith, c.if-table-at.false) in
    no-entry a.table.now a.slot a.index
    (rw (
      lt-ltb a.slot 256 c.if-slot-ge256.false,
      le-leb (offset_of (a.slot + 1)) (length a.table.now) long,
      le-leb (get_or a.table.now (offset_of a.slot) 0) 16 c.if-count-gt-ENTRIES.false,
      le-ltb a.index (get_or a.table.now (offset_of a.slot) 0) c.if-count-index.true,
    ) refl)
    c.no_node-then-count-index.ensures

pub returns : goal.returns
returns c = let a = c.args in
    some-entry a.table.now a.slot a.index c.if-slot-ge256.false c.if-table-at.false c.if-count-gt-ENTRIES.false c.if-count-index.false
    c.load_entry.ensures c.node_of.ensures
