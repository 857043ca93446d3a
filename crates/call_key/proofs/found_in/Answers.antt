-- `call_key::found_in` meets its contract. Assumes nothing.
use Prim.Native.Nat.{ℕ, ◌+◌, ◌-◌}
use mathlib.Core.Path.{ap, ◌∙◌}
use native.Mathlib.Omega.{arith}
use Rattle.call_touched.proofs.Slots.{fits, most}
use Rattle.call_key.specs.Steps.{held_at}
use Rattle.call_key.proofs.Founds.{few, nowhere, somewhere}
use Rattle.call_key.proofs.found_in.Goals as goal

pub bucket_count-requires : goal.bucket_count-requires
bucket_count-requires c = let s = c in omega (arith, fits s.args.table.now s.args.slot s.requires)

pub overflow_sub-distance : goal.overflow_sub-distance
overflow_sub-distance c = let s = c in omega (arith, c.bucket_count.ensures, most s.args.table.now s.args.slot s.requires)

pub overflow_add-distance : goal.overflow_add-distance
overflow_add-distance c = let s = c in omega (arith, c.bucket_count.ensures, s.requires.kept, most s.args.table.now s.args.slot s.requires)

pub returns-then-not-is_held : goal.returns-then-not-is_held
returns-then-not-is_held c = let a = c.args in
    let b = c.bucket_in in
    let l = c.look_up-lookup in
    nowhere a.key.now b.result _ b.ensures.0 b.ensures.1 l.result l.ensures _ c.is_held.ensures (c.if-not-is_held.true) c.not_found.ensures

pub held_at-held-requires : goal.held_at-held-requires
held_at-held-requires c = let a = c.args in
    let b = c.bucket_in in
    let l = c.look_up-lookup in
    few a.key.now b.result _ b.ensures.0 b.ensures.1 l.result l.ensures

pub returns : goal.returns
returns c = let a = c.args in
    let b = c.bucket_in in
    let l = c.look_up-lookup in
    let n = c.bucket_count in
    somewhere a.key.now b.result _ b.ensures.0 b.ensures.1 l.result l.ensures _ c.is_held.ensures (c.if-not-is_held.false)
    (c.held_at-held.ensures ∙ ap (λ (k : ℕ). held_at (257 - k + a.slot) l.result.position) n.ensures) c.node_of-node.ensures
