-- `table::touched_by` meets its contract. Assumes nothing.
use Prim.Native.Nat.{◌≤◌}
use native.Mathlib.Omega.{arith}
use lib.ListN.{length}
use Rattle.table_model.proofs.Header.{HeaderSound, header-sound}
use Rattle.table.proofs.Keys.{touched_wrong, touched-own, touched-kept}
use Rattle.table.proofs.touched_by.Goals as goal

pub returns-then-key-ne64 : goal.returns-then-key-ne64
returns-then-key-ne64 c = let args = c.args in
    touched_wrong args.bytes.now args.key.now c.if-key-ne64.true

pub own_hash-own-requires : goal.own_hash-own-requires
own_hash-own-requires c =
    let header : HeaderSound c.args.bytes.now = header-sound c.args.bytes.now c.requires in
    let long : 512 ≤ length c.args.bytes.now = let h = header in omega (arith, h.one, h.size) in
    long

pub returns-then-same_bytes : goal.returns-then-same_bytes
returns-then-same_bytes c = let args = c.args in
    touched-own args.bytes.now args.key.now c.if-key-ne64.false
    c.keccak256-hash.ensures c.own_hash-own.ensures c.same_bytes.ensures c.if-same_bytes.true

pub bucket_count-requires : goal.bucket_count-requires
bucket_count-requires c =
    let header : HeaderSound c.args.bytes.now = header-sound c.args.bytes.now c.requires in
    let long : 512 ≤ length c.args.bytes.now = let h = header in omega (arith, h.one, h.size) in
    long

pub slot_of-requires : goal.slot_of-requires
slot_of-requires c =
    let header : HeaderSound c.args.bytes.now = header-sound c.args.bytes.now c.requires in
    omega (arith, header.most, c.bucket_count.ensures)

pub returns : goal.returns
returns c =
    let header : HeaderSound c.args.bytes.now = header-sound c.args.bytes.now c.requires in
    let long : 512 ≤ length c.args.bytes.now = let h = header in omega (arith, h.one, h.size) in
    let at_if2 = c in
    let known = at_if2 in
    let start = known in
    touched-kept start.args.bytes.now start.args.key.now at_if2.if-key-ne64.false
    at_if2.keccak256-hash.ensures at_if2.own_hash-own.ensures at_if2.same_bytes.ensures
    (λ k. (known.shared_slice_known-1.given k).fits) (omega (arith, long)) at_if2.if-same_bytes.false
    c.bit_length.ensures c.bucket_count.ensures
    (omega (arith, header.most, c.bucket_count.ensures)) c.slot_of.ensures
