-- A list of items, as the byte strings to write. Assumes nothing.
use mathlib.Core.Path.{◌≡◌, refl, ap}
use mathlib.Core.List.{List, [], ◌∷◌, ◌++◌}
use Rattle.octets.specs.Octets.{Bytes}
use Rattle.octets.proofs.Progress.{concat}
use Rattle.rlp.specs.Encoding.{Item, encode, encodes}

-- items one after the other
abbrev pub pieces : List Item → List Bytes
pieces [] = []
pieces (i ∷ is) = encode i ∷ pieces is

pub concat_pieces : (is : List Item) → concat (pieces is) ≡ encodes is
concat_pieces [] = refl
concat_pieces (i ∷ is) = ap (λ (x : Bytes). encode i ++ x) (concat_pieces is)
