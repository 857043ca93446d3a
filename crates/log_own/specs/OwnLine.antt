-- The first line of a log, `own` (document 01, "Log and printout"): its answer, and the table that it makes.
use Rattle.std.specs.Prelude.{ℕ, ◌≤◌, ◌≡◌, Bool, true, cond, not, ◌&&◌, [], ◌∷◌, eqb, leb, length}
use Rattle.octets.specs.Octets.{Bytes, store}
use Rattle.lists.specs.Lists.{first}
use Rattle.table.specs.Init.{fresh_table}
use Rattle.log_state.specs.State.{State, state_of}
use Rattle.log_own.specs.declared.Made.{Made}

-- ---- `own`

-- "B outside 1 to 16 gets 1"
abbrev pub is_count : ℕ → Bool
is_count buckets = leb 1 buckets && leb buckets 16

-- of the first well-formed one
unfoldable pub own_number : ℕ → Bytes → ℕ
own_number buckets key = first ((not (is_count buckets), 1) ∷ (not (eqb (length key) 64), 5) ∷ [])

-- "an `own` after any well-formed one, gets 21"
unfoldable pub own_answer : State → ℕ → Bytes → ℕ
own_answer st buckets key = cond st.owned 21 (own_number buckets key)

unfoldable pub own_after : State → ℕ → Bytes → State
own_after st buckets key =
    record { owned = true; table = cond (eqb (own_answer st buckets key) 0) (fresh_table key buckets) st.table }

-- an `own` in the state st is taken: the memory becomes m'
pub record Taken (st : State) (buckets : ℕ) (key memory : Bytes) (r : Made) (m' : Bytes) : Type 0 where
  pub state : state_of r.replay m' ≡ own_after st buckets key
  pub bytes : m' ≡ store memory 0 (own_after st buckets key).table
  pub number : r.number ≡ own_answer st buckets key
  pub count : r.replay.count ≤ 16
