-- The answer number of a question about a key. It takes no clock and changes nothing.
use Rattle.std.specs.Prelude.{ℕ, not, [], ◌∷◌, eqb, length}
use Rattle.octets.specs.Octets.{Bytes}
use Rattle.lists.specs.Lists.{first}
use Rattle.call_history.specs.Model.{is_own, is_kept}
use Rattle.call_model.specs.Calls.{env_of, unsound_for}
use Rattle.call_model.specs.Reading.{reading}

-- 1, 5, 7, 12 as of a call with this key, or 0
unfoldable pub key_number : Bytes → Bytes → ℕ
key_number s key =
    first (
    (unsound_for reading s key, 1)
    ∷ (not (eqb (length key) 64), 5)
    ∷ (is_own (env_of reading s) key, 7)
    ∷ (not (is_kept (env_of reading s) key), 12)
    ∷ []
    )
