-- `call_sweep::sweep_buckets` meets its contract. The invariant: the first i buckets are swept. Assumes nothing.
use mathlib.Core.Path.{◌≡◌, sym, ap, ◌∙◌}
use Prim.Native.Nat.{◌^◌, ◌≤◌, ◌<◌}
use native.Mathlib.Omega.{arith}
use borrow.Author.Rules.{rules}
use mir.Syntax.{w64}
use mir.Val.{Fits}
use lib.ListN.{length}
use Rattle.octets.specs.Octets.{IsBytes}
use Rattle.bucket_model.specs.Rules.{on_sweep}
use Rattle.table_model.specs.Layout.{encode_table, own_of, clock_of, count_of, buckets_of}
use Rattle.table_model.proofs.Table.{count_read}
use Rattle.table_model.proofs.Sound.{SoundTable, table_header, sound_is_table, table_of_sound}
use Rattle.call_sweep.proofs.Swept.{changed, changed-all, next_fits, next-sound, swept-turn, swept-length}
use Rattle.call_sweep.proofs.sweep_buckets.Goals as goal

pub bucket_count-count-requires : goal.bucket_count-count-requires
bucket_count-count-requires c =
    let long : 512 ≤ length c.args.bytes.now = let header = table_header c.args.bytes.now c.requires.0 in
    omega (arith, header.size) in
    long

pub loop-i-init : goal.loop-i-init
loop-i-init c =
    let given : IsBytes c.args.bytes.now = λ k. (c.slice_known-1.given k).fits in
    let known = c in
    (omega arith, sym (table_of_sound known.args.bytes.now given known.requires.0))

pub overflow_mul-i : goal.overflow_mul-i
overflow_mul-i c =
    let given : IsBytes c.args.bytes.now = λ k. (c.slice_known-1.given k).fits in
    let table : SoundTable (own_of c.args.bytes.now) (clock_of c.args.bytes.now) (buckets_of c.args.bytes.now) = sound_is_table c.args.bytes.now given c.requires.0 in
    let small : count_of c.args.bytes.now ≤ 256 = let t = table in omega (arith, t.most, count_read c.args.bytes.now) in
    omega (arith, small, c.bucket_count-count.ensures)

pub overflow_add-i : goal.overflow_add-i
overflow_add-i c =
    let given : IsBytes c.args.bytes.now = λ k. (c.slice_known-1.given k).fits in
    let table : SoundTable (own_of c.args.bytes.now) (clock_of c.args.bytes.now) (buckets_of c.args.bytes.now) = sound_is_table c.args.bytes.now given c.requires.0 in
    let small : count_of c.args.bytes.now ≤ 256 = let t = table in omega (arith, t.most, count_read c.args.bytes.now) in
    omega (arith, small, c.bucket_count-count.ensures)

pub sweep_bucket-requires : goal.sweep_bucket-requires
sweep_bucket-requires c =
    let given : IsBytes c.args.bytes.now = λ k. (c.slice_known-1.given k).fits in
    let table : SoundTable (own_of c.args.bytes.now) (clock_of c.args.bytes.now) (buckets_of c.args.bytes.now) = sound_is_table c.args.bytes.now given c.requires.0 in
    let fits : c.args.time.0 < 2 ^ 64 = let time : Fits w64 c.args.time.0 = search rules in time.fits in
    let at_loop = c in
    let known = at_loop in
    let start = known in
    let s = start.args.bytes.now in
    let within : at_loop.loop-i.i < length (buckets_of s) = omega (arith, count_read s, at_loop.bucket_count-count.ensures) in (
      next_fits (own_of s) (clock_of s) start.args.time.0 (buckets_of s) table start.requires.1 fits
          at_loop.loop-i.i within at_loop.loop-i.invariant.1,
      next-sound (own_of s) (clock_of s) start.args.time.0 (buckets_of s) table start.requires.1 fits
          at_loop.loop-i.i within at_loop.loop-i.invariant.1,
    )

pub loop-i-preserved : goal.loop-i-preserved
loop-i-preserved c =
    let given : IsBytes c.args.bytes.now = λ k. (c.slice_known-1.given k).fits in
    let table : SoundTable (own_of c.args.bytes.now) (clock_of c.args.bytes.now) (buckets_of c.args.bytes.now) = sound_is_table c.args.bytes.now given c.requires.0 in
    let fits : c.args.time.0 < 2 ^ 64 = let time : Fits w64 c.args.time.0 = search rules in time.fits in
    let at_loop = c in
    let known = at_loop in
    let start = known in
    let s = start.args.bytes.now in
    let within : at_loop.loop-i.i < length (buckets_of s) = omega (arith, count_read s, at_loop.bucket_count-count.ensures) in (
      omega arith,
      swept-turn (own_of s) (clock_of s) start.args.time.0 (buckets_of s) table start.requires.1 fits
          at_loop.loop-i.i within at_loop.loop-i.invariant.1 c.sweep_bucket.ensures,
    )

pub shape_of-bytes : goal.shape_of-bytes
shape_of-bytes c =
    let given : IsBytes c.args.bytes.now = λ k. (c.slice_known-1.given k).fits in
    let table : SoundTable (own_of c.args.bytes.now) (clock_of c.args.bytes.now) (buckets_of c.args.bytes.now) = sound_is_table c.args.bytes.now given c.requires.0 in
    let fits : c.args.time.0 < 2 ^ 64 = let time : Fits w64 c.args.time.0 = search rules in time.fits in
    let at_loop = c in
    let known = at_loop in
    let start = known in
    let s = start.args.bytes.now in
    ap length at_loop.loop-i.invariant.1
    ∙ swept-length (own_of s) (clock_of s) start.args.time.0 (buckets_of s) table start.requires.1 fits at_loop.loop-i.i
    ∙ omega (arith, count_read s, (table_header s start.requires.0).size)

pub returns : goal.returns
returns c = let at_loop = c in
    let start = at_loop in
    let s = start.args.bytes.now in
    let f = on_sweep start.args.time.0 in
    let done : at_loop.loop-i.i ≡ length (buckets_of s) = omega (arith, count_read s, at_loop.bucket_count-count.ensures) in
    at_loop.loop-i.invariant.1
    ∙ ap (λ i. encode_table (own_of s) (clock_of s) (changed f i (buckets_of s))) done
    ∙ ap (encode_table (own_of s) (clock_of s)) (changed-all f (buckets_of s))
