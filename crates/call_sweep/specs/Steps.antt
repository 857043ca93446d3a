-- Sweep of a table in bytes (document 01): each bucket swept, and the clock set. "A refusal .. changes nothing".
use Rattle.std.specs.Prelude.{ℕ, Bool, true, false, cond, not, ◌&&◌, [], ◌∷◌, map, eqb, ltb}
use Rattle.octets.specs.Octets.{Bytes}
use Rattle.lists.specs.Lists.{first, all}
use Rattle.bucket_model.specs.Contents.{Contents}
use Rattle.bucket_model.specs.Rules.{on_sweep}
use Rattle.bucket_sweep.specs.Steps.{stays}
use Rattle.table_model.specs.Layout.{encode_table, own_of, clock_of, buckets_of}
use Rattle.table_model.specs.Sound.{table_sound}

unfoldable pub sweep_answer : Bytes → ℕ → ℕ
sweep_answer s now = first ((not (table_sound s), 1) ∷ (ltb now (clock_of s), 2) ∷ [])

unfoldable pub sweep_table : Bytes → ℕ → Bytes
sweep_table s now = cond (eqb (sweep_answer s now) 0) (encode_table (own_of s) now (map (on_sweep now) (buckets_of s))) s

-- a sweep removes nothing
abbrev pub nothing_goes : ℕ → Contents → Bool
nothing_goes now m = all (stays false now) m.entries && all (stays true now) m.replacements
