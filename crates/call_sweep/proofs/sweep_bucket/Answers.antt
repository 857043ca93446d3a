-- `call_sweep::sweep_bucket` meets its contract. Assumes nothing.
use mathlib.Core.Path.{sym, ◌∙◌}
use Prim.Native.Nat.{◌+◌, ◌≤◌}
use lib.ListN.{get_or}
use Rattle.table_model.specs.Sound.{anywhere}
use Rattle.table_model.proofs.Sound.{counts_at}
use Rattle.call_sweep.proofs.OneBucket.{nothing-gone, loaded-bounded, swept-bounded, swept-stored}
use Rattle.call_sweep.proofs.sweep_bucket.Goals as goal

pub nothing_goes-requires : goal.nothing_goes-requires
nothing_goes-requires c =
    let within : (get_or c.args.bytes.now c.args.at 0 ≤ 16) × (get_or c.args.bytes.now (c.args.at + 1) 0 ≤ 4) = counts_at anywhere c.args.time.0 c.args.bytes.now c.args.at c.requires.0 c.requires.1 in
    (c.requires.0, within)

pub returns-then-nothing_goes : goal.returns-then-nothing_goes
returns-then-nothing_goes c = let known = c in
    let start = known in
    let args = start.args in
    nothing-gone args.bytes.now args.at args.time.0 start.requires.0 start.requires.1 (λ k. (known.slice_known-1.given k).fits)
    (sym c.nothing_goes.ensures ∙ c.if-nothing_goes.true)

pub load-b-requires : goal.load-b-requires
load-b-requires c =
    let within : (get_or c.args.bytes.now c.args.at 0 ≤ 16) × (get_or c.args.bytes.now (c.args.at + 1) 0 ≤ 4) = counts_at anywhere c.args.time.0 c.args.bytes.now c.args.at c.requires.0 c.requires.1 in
    (c.requires.0, within)

pub sweep-swept-requires : goal.sweep-swept-requires
sweep-swept-requires c = let known = c in
    let start = known in
    let args = start.args in
    loaded-bounded args.bytes.now args.at args.time.0 start.requires.0 start.requires.1 (λ k. (known.slice_known-1.given k).fits)
    c.load-b.result c.load-b.ensures

pub store-requires : goal.store-requires
store-requires c = let known = c in
    let start = known in
    let args = start.args in (
      start.requires.0,
      swept-bounded args.bytes.now args.at args.time.0 start.requires.0 start.requires.1 (λ k. (known.slice_known-1.given k).fits)
          c.load-b.result c.load-b.ensures c.sweep-swept.result c.sweep-swept.ensures,
    )

pub returns : goal.returns
returns c = let known = c in
    let start = known in
    let args = start.args in
    swept-stored args.bytes.now args.at args.time.0 start.requires.0 start.requires.1 (λ k. (known.slice_known-1.given k).fits)
    c.load-b.result c.load-b.ensures c.sweep-swept.result c.sweep-swept.ensures c.store.ensures.bytes_after
