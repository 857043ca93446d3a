-- `counted_burst::raise_all` meets its contract. The invariant: counting the numbers from i on gives what counting all gives. Assumes nothing.
use mathlib.Core.Path.{refl, ap, ◌∙◌}
use Prim.Native.Nat.{◌+◌}
use native.Mathlib.Omega.{arith}
use lib.ListN.{drop}
use Rattle.counters.specs.declared.Counters.{Counters}
use Rattle.counters.specs.History.{counted}
use Rattle.counted_burst.proofs.Counted.{counted_next, counted_end}
use Rattle.counted_burst.proofs.raise_all.Goals as goal

pub loop-number-init : goal.loop-number-init
loop-number-init c = (omega arith, refl)

pub loop-number-preserved : goal.loop-number-preserved
loop-number-preserved c = let at_loop = c in
    let l = at_loop.args.numbers.now in (
      omega arith,
      ap (λ (k : Counters). counted k (drop (at_loop.loop-number.number-index + 1) l)) c.raise-raised.ensures
          ∙ counted_next at_loop.loop-number.raised l at_loop.loop-number.number-index (omega arith) ∙ at_loop.loop-number.invariant.1,
    )

pub returns : goal.returns
returns c = let at_loop = c in
    counted_end at_loop.loop-number.raised at_loop.args.numbers.now at_loop.loop-number.number-index (omega arith) ∙ at_loop.loop-number.invariant.1
