-- `bucket::EntryList::remove` meets its contract. The invariant: to take k out now is to take i out of the line as it came. Assumes nothing.
use mathlib.Core.Path.{◌≡◌, refl, sym, ap, ◌∙◌}
use Prim.Native.Nat.{◌-◌}
use native.Mathlib.Omega.{arith}
use borrow.Author.Rules.{rules}
use lib.ListN.{take, length-set}
use Rattle.octets.specs.Octets.{cut}
use Rattle.octets.proofs.Laws.{cut_turn}
use Rattle.entry.specs.Layout.{no_entry}
use Rattle.bucket.proofs.Laws.{remove_holds, length_mapped}
use Rattle.bucket.proofs.EntryList.remove.Goals as goal

pub loop-k-init : goal.loop-k-init
loop-k-init c = (omega arith, (search (rules, length_mapped), refl))

pub loop-k-preserved : goal.loop-k-preserved
loop-k-preserved c = let at_loop = c in
    let args = at_loop.args in (
      omega arith,
      (
        simp length-set at_loop.loop-k.invariant.1.0,
        cut_turn at_loop.loop-k.l.items args.self.len at_loop.loop-k.k 1 no_entry (omega arith) (omega arith) (omega arith) ∙ at_loop.loop-k.invariant.1.1,
      ),
    )

pub returns : goal.returns
returns c = let at_loop = c in
    let args = at_loop.args in
    let e : at_loop.loop-k.k ≡ args.self.len - 1 = omega arith in
    remove_holds args.self at_loop.loop-k.l.items args.i (search (rules, length_mapped)) at_loop.loop-k.invariant.1.0 (omega arith) (omega arith)
    (ap (λ k. cut k 1 (take args.self.len at_loop.loop-k.l.items)) (sym e) ∙ at_loop.loop-k.invariant.1.1)
