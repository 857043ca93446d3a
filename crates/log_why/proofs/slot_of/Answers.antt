-- `log_why::slot_of` meets its contract. Assumes nothing.
use Prim.Native.Nat.{◌≤◌}
use mathlib.Core.Path.{◌∙◌}
use native.Mathlib.Omega.{arith}
use lib.ListN.{length}
use Rattle.table_model.proofs.Header.{HeaderSound, header-sound}
use Rattle.log_why.proofs.Places.{slot-is}
use Rattle.log_why.proofs.slot_of.Goals as goal

pub own_hash-own-requires : goal.own_hash-own-requires
own_hash-own-requires c =
    let header : HeaderSound c.args.table.now = header-sound c.args.table.now c.requires in
    let long : 512 ≤ length c.args.table.now = let h = header in omega (arith, h.one, h.size) in
    long

pub bucket_count-least-requires : goal.bucket_count-least-requires
bucket_count-least-requires c =
    let header : HeaderSound c.args.table.now = header-sound c.args.table.now c.requires in
    let long : 512 ≤ length c.args.table.now = let h = header in omega (arith, h.one, h.size) in
    long

pub overflow_sub-least : goal.overflow_sub-least
overflow_sub-least c =
    let header : HeaderSound c.args.table.now = header-sound c.args.table.now c.requires in
    omega (arith, header.most, c.bucket_count-least.ensures)

pub returns : goal.returns
returns c =
    let header : HeaderSound c.args.table.now = header-sound c.args.table.now c.requires in
    let a = c.args in
    c.saturating_sub.ensures
    ∙ slot-is a.table.now a.key.now c.own_hash-own.ensures c.keccak256-hash.ensures c.bit_length-bits.ensures c.bucket_count-least.ensures
    (omega (arith, header.most, c.bucket_count-least.ensures))
