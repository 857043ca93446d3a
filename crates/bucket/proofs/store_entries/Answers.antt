-- `bucket::store_entries` meets its contract. The invariant: the first i places are stored. Assumes nothing.
use mathlib.Core.Path.{◌≡◌, refl, ap, ◌∙◌}
use native.Mathlib.Omega.{arith}
use borrow.Author.Rules.{rules}
use lib.ListN.{length, take}
use Rattle.octets.proofs.Laws.{length-store}
use Rattle.bucket_model.specs.Contents.{encode_entries}
use Rattle.bucket.proofs.Laws.{length_mapped, store_turn}
use Rattle.bucket.proofs.store_entries.Goals as goal

pub loop-i-init : goal.loop-i-init
unfolding encode_entries
loop-i-init c = (omega arith, (refl, refl))

pub store_entry-requires : goal.store_entry-requires
store_entry-requires c =
    let size : length c.loop-i.bytes ≡ length c.args.bytes.now = ap length c.loop-i.invariant.1.1 ∙ length-store (encode_entries (take c.loop-i.i c.args.l.items)) c.args.bytes.now c.args.at in
    omega (arith, size)

pub loop-i-preserved : goal.loop-i-preserved
loop-i-preserved c =
    let items_size : length c.args.l.items ≡ 16 = search (rules, length_mapped) in
    let at_loop = c in
    let start = at_loop in
    let args = start.args in
    let wide : length args.l.items ≡ 16 = items_size in
    let call = c.store_entry in (
      omega arith,
      store_turn args.bytes.now at_loop.loop-i.bytes call.new.bytes args.at at_loop.loop-i.i args.l.items (omega arith)
          at_loop.loop-i.invariant.1.0 at_loop.loop-i.invariant.1.1 call.ensures.bytes_after call.ensures.p_len,
    )

pub shape_of-bytes : goal.shape_of-bytes
shape_of-bytes c =
    let size : length c.loop-i.bytes ≡ length c.args.bytes.now = ap length c.loop-i.invariant.1.1 ∙ length-store (encode_entries (take c.loop-i.i c.args.l.items)) c.args.bytes.now c.args.at in
    size

pub returns : goal.returns
returns c = let at_loop = c in
    let args = at_loop.args in
    let e : at_loop.loop-i.i ≡ args.l.len = omega arith in record { bytes_after = rw e at at_loop.loop-i.invariant.1.1; l_len = rw e at at_loop.loop-i.invariant.1.0 }
