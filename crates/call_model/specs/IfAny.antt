-- No bytes, or a sound table: what the lines of a log lead to.
use Rattle.std.specs.Prelude.{Bool, ◌||◌}
use Rattle.octets.specs.Octets.{Bytes}
use Rattle.lists.specs.Lists.{empty}
use Rattle.table_model.specs.Sound.{table_sound}

abbrev pub sound_if_any : Bytes → Bool
sound_if_any s = empty s || table_sound s
