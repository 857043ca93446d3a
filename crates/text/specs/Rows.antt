-- Rows of fields.
use Rattle.std.specs.Prelude.{List, [], ◌∷◌, ◌++◌}
use Rattle.octets.specs.Octets.{Bytes}

-- these texts, with a tab before each
abbrev pub tabbed : List Bytes → Bytes
tabbed [] = []
tabbed (f ∷ fs) = 0x09 ∷ f ++ tabbed fs

-- what a row ends in
abbrev pub row_end : Bytes
row_end = 0x0a ∷ []

-- a row: fields parted by one tab, ended by 0A
abbrev pub row : Bytes → List Bytes → Bytes
row first more = first ++ tabbed more ++ row_end
