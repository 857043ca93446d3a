-- The lines of a log. Document 01: "Lines end in 0A, [..] at most 3,000 bytes without the 0A", "A last line without 0A is read too".
use Rattle.std.specs.Prelude.{ℕ, Bool, false, cond, List, [], ◌∷◌, ◌++◌, ltb, eqb, length}
use Rattle.octets.specs.Octets.{Bytes}
use Rattle.lists.specs.Lists.{empty}

abbrev pub limit : ℕ
limit = 3000

-- a line as it is held: its bytes, or only that it is over the limit
pub data Held : Type 0 where
  whole : Bytes → Held
  too_long : Held

unfoldable pub held : Bytes → Held
held l = cond (ltb limit (length l)) too_long (whole l)

-- ---- what is still to come

-- the line with one byte more
abbrev pub longer : Held → ℕ → Held
longer (whole p) b = held (p ++ (b ∷ []))
longer too_long b = too_long

abbrev pub nothing : Held → Bool
nothing (whole p) = empty p
nothing too_long = false

-- the lines still to come, where l is the line begun and s the rest of the log
abbrev pub to_come : Held → Bytes → List Held
to_come l [] = cond (nothing l) [] (l ∷ [])
to_come l (b ∷ s) = cond (eqb b 0x0a) (l ∷ to_come (whole []) s) (to_come (longer l b) s)
