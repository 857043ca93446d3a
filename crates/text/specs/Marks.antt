-- Texts cut at marks.
use Rattle.std.specs.Prelude.{ℕ, eqb, drop}
use Rattle.octets.specs.Octets.{Bytes}
use Rattle.lists.specs.Lists.{before}

-- the bytes of s from index at, before the next such mark
unfoldable pub until : ℕ → ℕ → Bytes → Bytes
until mark at s = before (λ b. eqb b mark) (drop at s)
