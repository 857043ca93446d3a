-- `table_sound::buckets_sound` meets its contract. The invariant: each bucket passed is sound. Assumes nothing.
use mathlib.Core.Path.{sym, ◌∙◌}
use native.Mathlib.Omega.{arith}
use borrow.Author.Count.{below_more}
use Rattle.table_model.specs.Layout.{count_of}
use Rattle.table_model.specs.Sound.{bucket_sound, buckets_sound}
use Rattle.table_model.proofs.Header.{HeaderSound, header-sound}
use Rattle.table_model.proofs.Sound.{below_all, below_false}
use Rattle.table_sound.proofs.buckets_sound.Goals as goal

pub bucket_count-count-requires : goal.bucket_count-count-requires
bucket_count-count-requires c =
    let header : HeaderSound c.args.bytes.now = header-sound c.args.bytes.now c.requires in
    let h = header in omega (arith, h.size)

pub loop-slot-init : goal.loop-slot-init
loop-slot-init c = (omega arith, λ k l. absurd (omega arith))

pub slot_sound-requires : goal.slot_sound-requires
slot_sound-requires c = (c.requires, omega (arith, c.bucket_count-count.ensures))

pub returns-then-not-slot_sound : goal.returns-then-not-slot_sound
unfolding buckets_sound
returns-then-not-slot_sound c = let at_loop = c in
    let s = at_loop.args.bytes.now in
    sym (below_false (count_of s) (bucket_sound s) at_loop.loop-slot.slot (omega (arith, at_loop.bucket_count-count.ensures))
    (sym c.slot_sound.ensures ∙ c.if-not-slot_sound.true))

pub loop-slot-preserved : goal.loop-slot-preserved
loop-slot-preserved c = let at_loop = c in
    (omega arith, below_more _ _ at_loop.loop-slot.invariant.1 (sym c.slot_sound.ensures ∙ c.if-not-slot_sound.false))

pub returns : goal.returns
unfolding buckets_sound
returns c = let at_loop = c in
    let s = at_loop.args.bytes.now in
    sym (below_all (count_of s) (bucket_sound s) (λ k l. at_loop.loop-slot.invariant.1 k (omega (arith, at_loop.bucket_count-count.ensures))))
