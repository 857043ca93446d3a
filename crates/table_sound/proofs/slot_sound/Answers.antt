-- `table_sound::slot_sound` meets its contract. Assumes nothing.
use Prim.Native.Nat.{◌≤◌}
use native.Mathlib.Omega.{arith}
use borrow.Author.Rules.{rules}
use lib.ListN.{length}
use Rattle.table_model.proofs.Header.{HeaderSound, header-sound}
use Rattle.table_model.proofs.Home.{slot_is}
use Rattle.table_sound.proofs.slot_sound.Goals as goal

pub own_hash-own-requires : goal.own_hash-own-requires
own_hash-own-requires c =
    let header : HeaderSound c.args.bytes.now = header-sound c.args.bytes.now c.requires.0 in
    let long : 512 ≤ length c.args.bytes.now = let h = header in omega (arith, h.size) in
    long

pub clock-clock-requires : goal.clock-clock-requires
clock-clock-requires c =
    let header : HeaderSound c.args.bytes.now = header-sound c.args.bytes.now c.requires.0 in
    let long : 512 ≤ length c.args.bytes.now = let h = header in omega (arith, h.size) in
    long

pub bucket_count-requires : goal.bucket_count-requires
bucket_count-requires c =
    let header : HeaderSound c.args.bytes.now = header-sound c.args.bytes.now c.requires.0 in
    let long : 512 ≤ length c.args.bytes.now = let h = header in omega (arith, h.size) in
    long

pub overflow_sub-number : goal.overflow_sub-number
overflow_sub-number c =
    let header : HeaderSound c.args.bytes.now = header-sound c.args.bytes.now c.requires.0 in
    omega (arith, header.most, c.bucket_count.ensures)

pub overflow_add-number : goal.overflow_add-number
overflow_add-number c =
    let header : HeaderSound c.args.bytes.now = header-sound c.args.bytes.now c.requires.0 in
    omega (arith, header.most, c.requires.1, c.bucket_count.ensures)

pub overflow_mul-slot : goal.overflow_mul-slot
overflow_mul-slot c =
    let header : HeaderSound c.args.bytes.now = header-sound c.args.bytes.now c.requires.0 in
    omega (arith, header.most, c.requires.1)

pub overflow_add-slot : goal.overflow_add-slot
overflow_add-slot c =
    let header : HeaderSound c.args.bytes.now = header-sound c.args.bytes.now c.requires.0 in
    omega (arith, header.most, c.requires.1)

pub sound-requires : goal.sound-requires
sound-requires c =
    let header : HeaderSound c.args.bytes.now = header-sound c.args.bytes.now c.requires.0 in
    let start = c in
    let h = header in
    (omega (arith, h.size, start.requires.1), search rules)

pub returns : goal.returns
returns c = let args = c.args in
    slot_is args.bytes.now args.slot
    c.own_hash-own.ensures c.clock-clock.ensures c.bucket_count.ensures c.sound.ensures
