-- The numbers that a question about a key gives, of all bytes.
use Rattle.std.specs.Prelude.{◌≡◌, true, [], ◌∷◌, eqb}
use Rattle.octets.specs.Octets.{Bytes}
use Rattle.lists.specs.Lists.{any}
use Rattle.call_key.specs.Head.{head_on}
use Rattle.call_key.specs.Held.{found_on}

pub record KeyKept : Type 0 where
  pub head_listed : (s key : Bytes) → any (eqb (head_on s key).number) (0 ∷ 1 ∷ 5 ∷ 7 ∷ 12 ∷ []) ≡ true
  pub find_listed : (s key : Bytes) → any (eqb (found_on s key).number) (0 ∷ 1 ∷ 5 ∷ 7 ∷ 12 ∷ []) ≡ true
