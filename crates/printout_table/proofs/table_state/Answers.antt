-- `printout_table::table_state` meets its contract. Assumes nothing.
use mathlib.Core.Path.{sym, ◌∙◌}
use Rattle.printout.proofs.Slots.{header_in}
use Rattle.printout_table.proofs.Tells.{unsound-state, sound-state}
use Rattle.printout_table.proofs.table_state.Goals as goal

pub returns-then-not-sound : goal.returns-then-not-sound
returns-then-not-sound c = unsound-state c.args.table.now (sym c.sound.ensures ∙ c.if-not-sound.true) c.no_state.ensures

pub clock-clock-requires : goal.clock-clock-requires
clock-clock-requires c = header_in c.args.table.now (sym c.sound.ensures ∙ c.if-not-sound.false)

pub bucket_count-buckets-requires : goal.bucket_count-buckets-requires
bucket_count-buckets-requires c = header_in c.args.table.now (sym c.sound.ensures ∙ c.if-not-sound.false)

pub held_in-held-requires : goal.held_in-held-requires
held_in-held-requires c = sym c.sound.ensures ∙ c.if-not-sound.false

pub returns : goal.returns
returns c = sound-state c.args.table.now (sym c.sound.ensures ∙ c.if-not-sound.false)
    c.clock-clock.ensures c.bucket_count-buckets.ensures c.held_in-held.ensures
