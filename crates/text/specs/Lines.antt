-- The lines of a text: they end in 0A, which the last may lack.
use Rattle.std.specs.Prelude.{cond, List, [], ◌∷◌, ◌++◌, eqb}
use Rattle.octets.specs.Octets.{Bytes}
use Rattle.lists.specs.Lists.{empty}

-- the lines of p ++ s, where p has no 0A: a last line without 0A counts if it has a byte
abbrev pub lines_from : Bytes → Bytes → List Bytes
lines_from p [] = cond (empty p) [] (p ∷ [])
lines_from p (b ∷ s) = cond (eqb b 0x0a) (p ∷ lines_from [] s) (lines_from (p ++ (b ∷ [])) s)

-- the lines of a text, without their 0A
abbrev pub lines_of : Bytes → List Bytes
lines_of s = lines_from [] s
