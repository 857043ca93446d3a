use Prim.Native.Nat.{ℕ, ◌+◌, ◌*◌, ◌-◌, ◌≤◌}
use mathlib.Core.Path.{◌≡◌}
use mathlib.Core.Bool.{Bool, not}
use Rattle.octets.specs.Octets.{Bytes}
use Rattle.entry.specs.declared.Entry.{Entry}
use Rattle.bucket_model.specs.Rules.{is_promoted}
use Rattle.lists.specs.Lists.{all}
use Rattle.bucket_model.specs.Contents.{entries_at}
use Rattle.bucket_range.proofs.line_settled.Given as goal

-- an entry that isn't promoted beside n records
abbrev pub waits : Bytes → ℕ → ℕ → Entry → Bool
waits s at n e = not (is_promoted (entries_at s at n) e)

abbrev pub invariant-loop-i : goal.invariant-loop-i
invariant-loop-i l = (l.i ≤ l.m) × (all (waits l.bytes l.at l.n) (entries_at l.bytes l.line l.m) ≡ all (waits l.bytes l.at l.n) (entries_at l.bytes (l.line + l.i * 143) (l.m - l.i)))
