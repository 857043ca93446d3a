-- `bucket_rules::promote_all` meets its contract. The invariant: the first i nodes of the line are dealt with. Assumes nothing.
use mathlib.Core.Path.{◌≡◌}
use mathlib.Core.List.{[]}
use Prim.Native.Nat.{◌<◌}
use native.Mathlib.Omega.{arith}
use lib.ListN.{length}
use Rattle.bucket_model.specs.Contents.{Contents}
use Rattle.bucket.specs.Steps.{listed}
use Rattle.bucket.proofs.Laws.{length_mapped}
use Rattle.bucket_sweep.proofs.Laws.{turned_start, turn-room, turn-moves, turn-stays}
use borrow.Author.Rules.{rules}
use Rattle.bucket_sweep.proofs.promote_all.Goals as goal
use Rattle.bucket_sweep.proofs.promote_all.Goals.{then-is_promoted, else-is_promoted}

pub loop-i-init : goal.loop-i-init
loop-i-init c =
    let taken_size : length c.args.taken.items ≡ 16 = search (rules, length_mapped) in
    let line_size : length c.args.line.items ≡ 16 = search (rules, length_mapped) in
    (omega arith, turned_start c.args.taken c.args.line taken_size line_size c.requires.0)

pub is_promoted-requires : goal.is_promoted-requires
is_promoted-requires c = let h = c.loop-i.invariant.1.shows.entries in omega (arith, h.count, h.fits)

pub offset_bounds-entries-tail : goal.offset_bounds-entries-tail
offset_bounds-entries-tail c =
    let line_size : length c.args.line.items ≡ 16 = search (rules, length_mapped) in
    let room : c.loop-i.entries.len < 16 = turn-room (record { entries = listed c.args.taken; replacements = [] }) c.args.line.items c.loop-i.i
    c.loop-i.entries c.loop-i.replacements
    (omega (arith, line_size, c.requires)) (omega (arith, c.requires)) c.loop-i.invariant.1 c.is_promoted.ensures c.if-is_promoted.true in
    omega (arith, room)

pub bounds-entries-tail : goal.bounds-entries-tail
bounds-entries-tail c =
    let line_size : length c.args.line.items ≡ 16 = search (rules, length_mapped) in
    let room : c.loop-i.entries.len < 16 = turn-room (record { entries = listed c.args.taken; replacements = [] }) c.args.line.items c.loop-i.i
    c.loop-i.entries c.loop-i.replacements
    (omega (arith, line_size, c.requires)) (omega (arith, c.requires)) c.loop-i.invariant.1 c.is_promoted.ensures c.if-is_promoted.true in
    room

pub overflow_add-entries : goal.overflow_add-entries
overflow_add-entries c =
    let line_size : length c.args.line.items ≡ 16 = search (rules, length_mapped) in
    let room : c.loop-i.entries.len < 16 = turn-room (record { entries = listed c.args.taken; replacements = [] }) c.args.line.items c.loop-i.i
    c.loop-i.entries c.loop-i.replacements
    (omega (arith, line_size, c.requires)) (omega (arith, c.requires)) c.loop-i.invariant.1 c.is_promoted.ensures c.if-is_promoted.true in
    omega (arith, room)

pub offset_bounds-replacements-end : goal.offset_bounds-replacements-end
offset_bounds-replacements-end c =
    let end : c.loop-i.replacements.len < 16 = omega (arith, c.loop-i.invariant.1.most, c.requires) in
    omega (arith, end)

pub bounds-replacements-end : goal.bounds-replacements-end
bounds-replacements-end c =
    let end : c.loop-i.replacements.len < 16 = omega (arith, c.loop-i.invariant.1.most, c.requires) in
    end

pub overflow_add-replacements : goal.overflow_add-replacements
overflow_add-replacements c =
    let end : c.loop-i.replacements.len < 16 = omega (arith, c.loop-i.invariant.1.most, c.requires) in
    omega (arith, end)

pub loop-i-preserved : goal.loop-i-preserved
loop-i-preserved c =
    let line_size : length c.args.line.items ≡ 16 = search (rules, length_mapped) in
    let es = c.args.line.items in
    let m : Contents = record { entries = listed c.args.taken; replacements = [] } in
    let i = c.loop-i.i in
    let less : i < length es = omega (arith, line_size, c.requires) in
    let few : i < 16 = omega (arith, c.requires) in
    let inv = c.loop-i.invariant.1 in
    let is = c.is_promoted.ensures in (
      omega arith,
      elim c.if-is_promoted.branch [
        | then-is_promoted w ↦ rw (w.entries-is, w.replacements-is) (turn-moves m es i c.loop-i.entries c.loop-i.replacements less few inv is w.if-is_promoted.true)
        | else-is_promoted w ↦ rw (w.entries-is, w.replacements-is) (turn-stays m es i c.loop-i.entries c.loop-i.replacements less few inv is w.if-is_promoted.false)
      ],
    )

pub returns : goal.returns
returns c = let args = c.args in
    let e : c.loop-i.i ≡ args.line.len = omega arith in
    rw e at c.loop-i.invariant.1.shows
