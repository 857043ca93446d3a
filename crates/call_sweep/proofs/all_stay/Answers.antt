-- `call_sweep::all_stay` meets its contract. The invariant: `stay` is the test of the entries from i on. Assumes nothing.
use mathlib.Core.Path.{◌≡◌, sym, ap, ◌∙◌}
use mathlib.Core.Bool.{◌&&◌}
use native.Mathlib.Omega.{arith}
use borrow.Author.Rules.{rules}
use Rattle.lists.specs.Lists.{all}
use Rattle.table_model.proofs.Entries.{behind, behind_none, behind_all, all_turn}
use Rattle.bucket_sweep.specs.Steps.{stays}
use Rattle.call_sweep.proofs.all_stay.Goals as goal

pub loop-i-init : goal.loop-i-init
loop-i-init c = let args = c.args in
    (omega arith, sym (ap (all (stays args.waiting args.time.0)) (behind_none args.bytes.now args.at args.n)))

pub loop-i-preserved-then-here : goal.loop-i-preserved-then-here
loop-i-preserved-then-here c = let at_loop = c in
    let args = at_loop.args in
    let is : c.loop-i.stay ≡ (c.entry_stays-here.result && c.loop-i.stay) = search rules in (
      omega arith,
      all_turn (stays args.waiting args.time.0) args.bytes.now args.at args.n at_loop.loop-i.i (omega arith) (omega arith)
          at_loop.loop-i.invariant.1 c.entry_stays-here.ensures is,
    )

pub loop-i-preserved : goal.loop-i-preserved
loop-i-preserved c = let at_loop = c in
    let args = at_loop.args in
    let is : c.entry_stays-here.result ≡ (c.entry_stays-here.result && c.loop-i.stay) = search rules in (
      omega arith,
      all_turn (stays args.waiting args.time.0) args.bytes.now args.at args.n at_loop.loop-i.i (omega arith) (omega arith)
          at_loop.loop-i.invariant.1 c.entry_stays-here.ensures is,
    )

pub returns : goal.returns
returns c = let at_loop = c in
    let args = at_loop.args in
    let done : at_loop.loop-i.i ≡ 0 = omega arith in
    at_loop.loop-i.invariant.1
    ∙ ap (λ i. all (stays args.waiting args.time.0) (behind args.bytes.now args.at args.n i)) done
    ∙ ap (all (stays args.waiting args.time.0)) (behind_all args.bytes.now args.at args.n)
