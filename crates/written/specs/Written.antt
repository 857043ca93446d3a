-- The answer of a writer, and what a write leaves.
use Rattle.std.specs.Prelude.{ℕ, ◌≡◌, Bool, true, cond, [], ◌∷◌, leb, eqb, length, Result, Ok, Err}
use Rattle.octets.specs.Octets.{Bytes, store}
use Rattle.lists.specs.Lists.{any}
use Rattle.written.specs.declared.WriteError.{WriteError}
use Rattle.written.specs.declared.WriteError.TheVariants.{Short, Unwritable}

-- 19 "room shorter than a writable value needs", 20 "value can't be written"
abbrev pub written_number : Result ℕ WriteError → ℕ
written_number (Ok size) = 0
written_number (Err Short) = 19
written_number (Err Unwritable) = 20

-- the bytes that were written
abbrev pub written_size : Result ℕ WriteError → ℕ
written_size (Ok size) = size
written_size (Err e) = 0

-- the answer of writing bytes at the start of a buffer, and what the buffer then holds; ok says that the value can be written
unfoldable pub written : Bool → Bytes → Bytes → Result ℕ WriteError
written ok bytes buf = cond ok (cond (leb (length bytes) (length buf)) (Ok (length bytes)) (Err Short)) (Err Unwritable)

unfoldable pub written_in : Bool → Bytes → Bytes → Bytes
written_in ok bytes buf = cond ok (cond (leb (length bytes) (length buf)) (store buf 0 bytes) buf) buf

-- every writer
pub record WrittenKept : Type 0 where
  -- "Writing and joining give only 0, 19 and 20"
  pub number_listed : (ok : Bool) (bytes buf : Bytes) → any (eqb (written_number (written ok bytes buf))) (0 ∷ 19 ∷ 20 ∷ []) ≡ true
  -- "A refusal .. changes nothing lent"
  pub refused_unchanged : (ok : Bool) (bytes buf : Bytes) → (written_number (written ok bytes buf) ≡ 0 → ⊥) → written_in ok bytes buf ≡ buf
