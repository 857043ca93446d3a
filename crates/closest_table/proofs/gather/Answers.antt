-- `closest_table::gather` meets its contract. The invariant: `home` is the test of the entries from i on, they are put in, and for each of them
-- a distance was worked out. Assumes nothing.
use mathlib.Core.Path.{◌≡◌, sym, ap, ◌∙◌}
use Prim.Native.Nat.{◌+◌, ◌-◌, ◌*◌}
use mathlib.Core.Bool.{◌&&◌}
use native.Mathlib.Omega.{arith}
use borrow.Author.Rules.{rules}
use lib.ListN.{take}
use Rattle.octets.specs.Octets.{part}
use Rattle.keccak.specs.Sponge.{keccak256}
use Rattle.distance.specs.Distance.{distance, in_bucket, home}
use Rattle.lists.specs.Lists.{all}
use Rattle.closest_nearest.specs.Sort.{insert_all}
use Rattle.closest_nearest.specs.Nearest.{farness, holding, held}
use Rattle.closest_nearest.proofs.Held.{ordered_all}
use Rattle.closest_table.specs.Closest.{in_home, candidates_of}
use Rattle.closest_table.specs.Steps.{with_bucket}
use Rattle.table_model.proofs.Entries.{behind, behind_none, behind_all, key_at, key_slice, all_turn}
use Rattle.closest_table.proofs.Entries.{gather_none, gather-turn}
use Rattle.closest_table.proofs.gather.Goals as goal

pub loop-i-init : goal.loop-i-init
loop-i-init c = let start = c in
    let args = start.args in (
      omega arith,
      (
        sym (ap (all (in_home args.own args.number)) (behind_none args.bytes.now args.at args.n)),
        (gather_none args.bytes.now args.at args.n args.target args.slot args.nearest start.requires.1.1, omega arith),
      ),
    )

pub insert-best-requires : goal.insert-best-requires
insert-best-requires c = let at_loop = c in
    let start = at_loop in
    let args = start.args in
    let rest = behind args.bytes.now args.at args.n at_loop.loop-i.i in
    rw at_loop.loop-i.invariant.1.1.0
    (ordered_all (candidates_of args.target args.slot at_loop.loop-i.i rest) (held args.nearest) start.requires.1.1.rising)

pub loop-i-preserved : goal.loop-i-preserved
unfolding home
loop-i-preserved c = let at_hash = c in
    let at_loop = at_hash in
    let args = at_loop.args in
    let i = at_loop.loop-i.i in
    let from = args.at + (i - 1) * 143 in
    let hash : at_hash.keccak256-hash.result ≡ keccak256 (part args.bytes.now from 64) =
    at_hash.keccak256-hash.ensures ∙ ap keccak256 (key_slice args.bytes.now from) in
    let is : c.if-here.home ≡ (c.falls_in-here.result && c.loop-i.home) = search rules in (
      omega arith,
      (
        all_turn (in_home args.own args.number) args.bytes.now args.at args.n i (omega arith) (omega arith)
            at_loop.loop-i.invariant.1.0
            (c.falls_in-here.ensures
            ∙ ap (λ h. in_bucket args.number (distance args.own h)) (hash ∙ ap keccak256 (sym (key_at args.bytes.now from))))
            is,
        (
          gather-turn args.bytes.now args.at args.n i (omega arith) (omega arith) args.target args.slot
              (held args.nearest) at_loop.loop-i.invariant.1.1.0 hash c.far-far.ensures c.insert-best.ensures,
          omega arith,
        ),
      ),
    )

pub returns : goal.returns
returns c = let at_loop = c in
    let args = at_loop.args in
    let done : at_loop.loop-i.i ≡ 0 = omega arith in
    let s = args.bytes.now in record {
      home_value = at_loop.loop-i.invariant.1.0
          ∙ ap (λ i. all (in_home args.own args.number) (behind s args.at args.n i)) done
          ∙ ap (all (in_home args.own args.number)) (behind_all s args.at args.n);
      nearest_value = at_loop.loop-i.invariant.1.1.0
          ∙ ap (λ i. holding (take 16 (insert_all farness (candidates_of args.target args.slot i (behind s args.at args.n i)) (held args.nearest)))) done
          ∙ ap (λ l. holding (with_bucket args.target args.slot l (held args.nearest))) (behind_all s args.at args.n);
      distances_value = omega arith;
    }
