-- One bucket's turn in a closest call.
use Rattle.std.specs.Prelude.{ℕ, ◌+◌, cond, List, leb, length, take}
use Rattle.octets.specs.Octets.{Bytes}
use Rattle.entry.specs.declared.Entry.{Entry}
use Rattle.closest_nearest.specs.declared.Near.{Near}
use Rattle.closest_nearest.specs.Sort.{insert_all}
use Rattle.closest_nearest.specs.Nearest.{farness}
use Rattle.closest_table.specs.Closest.{candidates_of}

-- the nearest, once a bucket's entries are put in
abbrev pub with_bucket : Bytes → ℕ → List Entry → List Near → List Near
with_bucket target slot entries l = take 16 (insert_all farness (candidates_of target slot 0 entries) l)

-- "stop after the first whole bucket at which 16 or more nodes are gathered": where so many are, a bucket is only tested
unfoldable pub nearest_after : ℕ → Bytes → ℕ → List Entry → List Near → List Near
nearest_after n target slot entries l = cond (leb 16 n) l (with_bucket target slot entries l)

unfoldable pub distances_after : ℕ → List Entry → ℕ
distances_after n entries = cond (leb 16 n) n (n + length entries)
