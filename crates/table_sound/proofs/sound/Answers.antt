-- `table_sound::sound` meets its contract. Assumes nothing.
use mathlib.Core.Path.{sym, ap, ◌∙◌}
use mathlib.Core.Bool.{◌&&◌}
use Rattle.table_model.specs.Sound.{buckets_sound, table_sound}
use Rattle.table_sound.proofs.sound.Goals as goal

pub buckets_sound-requires : goal.buckets_sound-requires
buckets_sound-requires c = sym c.header_sound.ensures ∙ c.if-header_sound.true

pub returns-then-header_sound : goal.returns-then-header_sound
unfolding table_sound
returns-then-header_sound c = let s = c.args.bytes.now in
    c.buckets_sound.ensures ∙ sym (ap (λ b. b && buckets_sound s) (sym c.header_sound.ensures ∙ c.if-header_sound.true))

pub returns-else-header_sound : goal.returns-else-header_sound
unfolding table_sound
returns-else-header_sound c = let s = c.args.bytes.now in
    c.if-header_sound.false ∙ sym (ap (λ b. b && buckets_sound s) (sym c.header_sound.ensures ∙ c.if-header_sound.false))
