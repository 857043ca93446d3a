-- `closest_table::closest` meets its contract. Assumes nothing.
use mathlib.Core.Path.{◌≡◌, sym, ◌∙◌}
use mathlib.Core.Bool.{true}
use Prim.Native.Nat.{◌≤◌}
use native.Mathlib.Omega.{arith}
use lib.ListN.{length}
use Rattle.table_model.specs.Layout.{header_sound}
use Rattle.table_model.proofs.Header.{header-sound}
use Rattle.closest_table.proofs.Ends.{no_header}
use Rattle.closest_table.proofs.closest.Goals as goal

pub returns-then-not-header_sound : goal.returns-then-not-header_sound
returns-then-not-header_sound c = let args = c.args in
    no_header args.bytes.now args.target (sym c.header_sound.ensures ∙ c.if-not-header_sound.true) c.unsound.ensures

pub own_hash-own-requires : goal.own_hash-own-requires
own_hash-own-requires c =
    let is_sound : header_sound c.args.bytes.now ≡ true = sym c.header_sound.ensures ∙ c.if-not-header_sound.false in
    let long : 512 ≤ length c.args.bytes.now = let header = header-sound c.args.bytes.now is_sound in omega (arith, header.size) in
    long

pub clock-clock-requires : goal.clock-clock-requires
clock-clock-requires c =
    let is_sound : header_sound c.args.bytes.now ≡ true = sym c.header_sound.ensures ∙ c.if-not-header_sound.false in
    let long : 512 ≤ length c.args.bytes.now = let header = header-sound c.args.bytes.now is_sound in omega (arith, header.size) in
    long

pub bucket_count-count-requires : goal.bucket_count-count-requires
bucket_count-count-requires c =
    let is_sound : header_sound c.args.bytes.now ≡ true = sym c.header_sound.ensures ∙ c.if-not-header_sound.false in
    let long : 512 ≤ length c.args.bytes.now = let header = header-sound c.args.bytes.now is_sound in omega (arith, header.size) in
    long

pub choose-requires : goal.choose-requires
choose-requires c =
    let is_sound : header_sound c.args.bytes.now ≡ true = sym c.header_sound.ensures ∙ c.if-not-header_sound.false in
    (is_sound, (c.bucket_count-count.ensures, (c.own_hash-own.ensures, c.clock-clock.ensures)))
