-- `closest_table::all_home` meets its contract. The invariant: `home` is the test of the entries from i on. Assumes nothing.
use mathlib.Core.Path.{◌≡◌, sym, ap, ◌∙◌}
use Prim.Native.Nat.{◌+◌, ◌-◌, ◌*◌}
use mathlib.Core.Bool.{◌&&◌}
use native.Mathlib.Omega.{arith}
use borrow.Author.Rules.{rules}
use Rattle.distance.specs.Distance.{home}
use Rattle.lists.specs.Lists.{all}
use Rattle.closest_table.specs.Closest.{in_home}
use Rattle.table_model.proofs.Entries.{behind, behind_none, behind_all, key_at, key_slice, all_turn}
use Rattle.closest_table.proofs.all_home.Goals as goal

pub loop-i-init : goal.loop-i-init
loop-i-init c = let args = c.args in
    (omega arith, sym (ap (all (in_home args.own args.number)) (behind_none args.bytes.now args.at args.n)))

pub loop-i-preserved-then-here : goal.loop-i-preserved-then-here
loop-i-preserved-then-here c = let at_loop = c in
    let args = at_loop.args in
    let i = at_loop.loop-i.i in
    let is : c.loop-i.home ≡ (c.in_bucket-here.result && c.loop-i.home) = search rules in (
      omega arith,
      all_turn (in_home args.own args.number) args.bytes.now args.at args.n i (omega arith) (omega arith)
          at_loop.loop-i.invariant.1
          (c.in_bucket-here.ensures
          ∙ ap (home args.own args.number)
          (key_slice args.bytes.now (args.at + (i - 1) * 143) ∙ sym (key_at args.bytes.now (args.at + (i - 1) * 143))))
          is,
    )

pub loop-i-preserved : goal.loop-i-preserved
loop-i-preserved c = let at_loop = c in
    let args = at_loop.args in
    let i = at_loop.loop-i.i in
    let is : c.in_bucket-here.result ≡ (c.in_bucket-here.result && c.loop-i.home) = search rules in (
      omega arith,
      all_turn (in_home args.own args.number) args.bytes.now args.at args.n i (omega arith) (omega arith)
          at_loop.loop-i.invariant.1
          (c.in_bucket-here.ensures
          ∙ ap (home args.own args.number)
          (key_slice args.bytes.now (args.at + (i - 1) * 143) ∙ sym (key_at args.bytes.now (args.at + (i - 1) * 143))))
          is,
    )

pub returns : goal.returns
returns c = let at_loop = c in
    let args = at_loop.args in
    let done : at_loop.loop-i.i ≡ 0 = omega arith in
    at_loop.loop-i.invariant.1
    ∙ ap (λ i. all (in_home args.own args.number) (behind args.bytes.now args.at args.n i)) done
    ∙ ap (all (in_home args.own args.number)) (behind_all args.bytes.now args.at args.n)
