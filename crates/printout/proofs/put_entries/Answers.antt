-- `printout::put_entries` meets its contract: the rows of the entries from `i` on are still to come. Assumes nothing.
use mathlib.Core.Path.{refl, sym, ap, subst, ◌∙◌}
use mathlib.Core.List.{List, [], ◌∷◌}
use native.Mathlib.Omega.{arith}
use Rattle.octets.specs.Octets.{Bytes}
use Rattle.lists.specs.Lists.{All}
use Rattle.entry.specs.declared.Entry.{Entry}
use Rattle.bucket_model.specs.Contents.{entries_at}
use Rattle.table_model.proofs.Entries.{behind_all}
use Rattle.octets.proofs.Progress.{room, step, renamed}
use Rattle.printout.specs.Printout.{entry_rows}
use Rattle.printout_entry.specs.EntryRow.{HasAddress}
use Rattle.printout.proofs.Rows.{passed, start-one, finish-one, all-rows, no_rows, due-row, holds-here, holds-behind}
use Rattle.printout.proofs.put_entries.Goals as goal

pub loop-i-init : goal.loop-i-init
loop-i-init c = let s = c in
    let a = s.args in
    let all = entry_rows a.word.now a.distance 1 (entries_at a.table.now a.from a.n) in (
      omega arith,
      refl,
      subst (λ (es : List Entry). All HasAddress es) (sym (behind_all a.table.now a.from a.n)) s.requires.0.addresses,
      renamed (ap (λ (r : Bytes). r ∷ []) (sym (all-rows a.word.now a.distance a.table.now a.from a.n))) (start-one a.out.now a.at all s.requires.1),
    )

pub put_entry-next-requires : goal.put_entry-next-requires
put_entry-next-requires c = let a = c.args in
    let l = c.loop-i in
    let t = c.loop-i-test.true in
    let is = c.load_entry-e.ensures in (
      holds-here a.word.now a.distance a.table.now a.from a.n l.i t HasAddress l.invariant.2 is,
      room (due-row a.word.now a.distance a.table.now a.from a.n l.i t is l.invariant.3),
    )

pub loop-i-preserved : goal.loop-i-preserved
loop-i-preserved c = let a = c.args in
    let l = c.loop-i in
    let t = c.loop-i-test.true in
    let is = c.load_entry-e.ensures in
    let w = c.put_entry-next in (
      omega arith,
      w.auto.out ∙ l.invariant.1,
      holds-behind a.word.now a.distance a.table.now a.from a.n l.i t HasAddress l.invariant.2,
      step (due-row a.word.now a.distance a.table.now a.from a.n l.i t is l.invariant.3) (w.ensures.next, w.ensures.bytes),
    )

pub shape_of-out : goal.shape_of-out
shape_of-out c = c.loop-i.invariant.1

pub returns : goal.returns
returns c = let a = c.args in
    let l = c.loop-i in
    let all = entry_rows a.word.now a.distance 1 (entries_at a.table.now a.from a.n) in
    let none = no_rows a.word.now a.distance a.table.now a.from a.n l.i l.invariant.0 c.loop-i-test.false in record { next = (finish-one a.out.now a.at all (passed none l.invariant.3)).0; bytes = (finish-one a.out.now a.at all (passed none l.invariant.3)).1 }
