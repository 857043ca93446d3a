-- `closest_table::take_bucket` meets its contract. Assumes nothing.
use mathlib.Core.Path.{◌≡◌, sym, ◌∙◌}
use mathlib.Core.Bool.{true}
use Prim.Native.Nat.{ℕ, ◌+◌, ◌≤◌}
use native.Mathlib.Omega.{arith}
use lib.ListN.{get_or}
use Rattle.bucket_model.specs.Sound.{sound}
use Rattle.closest_nearest.specs.Nearest.{held}
use Rattle.table_model.specs.Layout.{offset_of, bucket_bytes}
use Rattle.table_model.specs.Sound.{anywhere}
use Rattle.closest_table.proofs.Take.{not_taken, counts, taken, gathered}
use Rattle.closest_table.proofs.take_bucket.Goals as goal

pub returns-then-not-settled : goal.returns-then-not-settled
returns-then-not-settled c = let args = c.args in record { sound_value = not_taken args.bytes.now args.slot args.clock.0 args.own args.number c.settled.ensures (c.if-not-settled.true); nearest_value = λ never. absurd (let z : ◌≡◌ {A = ℕ} 0 1 = cc in omega arith); distances_bound = omega arith }

pub overflow_cast-n : goal.overflow_cast-n
overflow_cast-n c =
    let settled : sound anywhere c.args.clock.0 (bucket_bytes c.args.bytes.now c.args.slot) ≡ true = sym c.settled.ensures ∙ c.if-not-settled.false in
    let within : (get_or c.args.bytes.now (offset_of c.args.slot) 0 ≤ 16)
    × (get_or c.args.bytes.now (offset_of c.args.slot + 1) 0 ≤ 4) = let start = c in
    let args = start.args in
    counts args.bytes.now args.slot args.clock.0 args.own args.number start.requires.0 settled in
    omega (arith, within.0)

pub overflow_cast-m : goal.overflow_cast-m
overflow_cast-m c =
    let settled : sound anywhere c.args.clock.0 (bucket_bytes c.args.bytes.now c.args.slot) ≡ true = sym c.settled.ensures ∙ c.if-not-settled.false in
    let within : (get_or c.args.bytes.now (offset_of c.args.slot) 0 ≤ 16)
    × (get_or c.args.bytes.now (offset_of c.args.slot + 1) 0 ≤ 4) = let start = c in
    let args = start.args in
    counts args.bytes.now args.slot args.clock.0 args.own args.number start.requires.0 settled in
    omega (arith, within.1)

pub all_home-line-requires : goal.all_home-line-requires
all_home-line-requires c =
    let settled : sound anywhere c.args.clock.0 (bucket_bytes c.args.bytes.now c.args.slot) ≡ true = sym c.settled.ensures ∙ c.if-not-settled.false in
    let within : (get_or c.args.bytes.now (offset_of c.args.slot) 0 ≤ 16)
    × (get_or c.args.bytes.now (offset_of c.args.slot + 1) 0 ≤ 4) = let start = c in
    let args = start.args in
    counts args.bytes.now args.slot args.clock.0 args.own args.number start.requires.0 settled in
    let w = within in
    (omega (arith, w.1, c.requires.0), omega (arith, w.1))

pub gather-gathered-requires : goal.gather-gathered-requires
gather-gathered-requires c =
    let settled : sound anywhere c.args.clock.0 (bucket_bytes c.args.bytes.now c.args.slot) ≡ true = sym c.settled.ensures ∙ c.if-not-settled.false in
    let within : (get_or c.args.bytes.now (offset_of c.args.slot) 0 ≤ 16)
    × (get_or c.args.bytes.now (offset_of c.args.slot + 1) 0 ≤ 4) = let start = c in
    let args = start.args in
    counts args.bytes.now args.slot args.clock.0 args.own args.number start.requires.0 settled in
    let w = within in
    (omega (arith, w.0, c.requires.0), (w.0, c.requires.1))

pub returns : goal.returns
returns c =
    let settled : sound anywhere c.args.clock.0 (bucket_bytes c.args.bytes.now c.args.slot) ≡ true = sym c.settled.ensures ∙ c.if-not-settled.false in
    let within : (get_or c.args.bytes.now (offset_of c.args.slot) 0 ≤ 16)
    × (get_or c.args.bytes.now (offset_of c.args.slot + 1) 0 ≤ 4) = let start = c in
    let args = start.args in
    counts args.bytes.now args.slot args.clock.0 args.own args.number start.requires.0 settled in
    let at_gather = c in
    let at_if1 = at_gather in
    let start = at_if1 in
    let args = start.args in
    let s = args.bytes.now in record {
      sound_value = taken s args.slot args.clock.0 args.own args.number start.requires.0 settled
          at_gather.all_home-line.ensures at_gather.gather-gathered.ensures.home_value c.both-sound.ensures;
      nearest_value = λ yes.
          gathered s args.slot args.clock.0 args.own args.number start.requires.0 settled args.target (held args.nearest)
          at_gather.gather-gathered.ensures.nearest_value at_gather.gather-gathered.ensures.distances_value;
      distances_bound = omega (arith, at_gather.gather-gathered.ensures.distances_value, within.0);
    }
