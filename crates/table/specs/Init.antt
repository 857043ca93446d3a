-- A fresh table (document 01): "clock 0, nothing held; the call that makes it gives only 1 (length or B) and 5".
use Rattle.std.specs.Prelude.{ℕ, ◌≡◌, Bool, true, cond, not, ◌&&◌, [], ◌∷◌, eqb, leb, length, replicate}
use Rattle.octets.specs.Octets.{Bytes}
use Rattle.keccak.specs.Sponge.{keccak256}
use Rattle.lists.specs.Lists.{first, any}
use Rattle.bucket_model.specs.Contents.{no_contents}
use Rattle.table_model.specs.Layout.{encode_table, offset_of}
use Rattle.table_model.specs.Sound.{table_sound}

-- from 1 to 256 buckets, and exactly the bytes that they and the header take
abbrev pub room_for : ℕ → Bytes → Bool
room_for count s = leb 1 count && (leb count 256 && eqb (length s) (offset_of count))

unfoldable pub init_answer : Bytes → Bytes → ℕ → ℕ
init_answer s key count = first ((not (room_for count s), 1) ∷ (not (eqb (length key) 64), 5) ∷ [])

-- a table of `count` empty buckets
abbrev pub fresh_table : Bytes → ℕ → Bytes
fresh_table key count = encode_table (keccak256 key) 0 (replicate count no_contents)

unfoldable pub init_table : Bytes → Bytes → ℕ → Bytes
init_table s key count = cond (eqb (init_answer s key count) 0) (fresh_table key count) s

pub record InitKept : Type 0 where
  pub number_listed : (s key : Bytes) (count : ℕ) → any (eqb (init_answer s key count)) (0 ∷ 1 ∷ 5 ∷ []) ≡ true
  -- "A refusal .. changes nothing lent"
  pub refused_unchanged : (s key : Bytes) (count : ℕ) → (init_answer s key count ≡ 0 → ⊥) → init_table s key count ≡ s
  -- "A fresh table is sound for every own key and every B"
  pub fresh_sound : (s key : Bytes) (count : ℕ) → init_answer s key count ≡ 0 → table_sound (init_table s key count) ≡ true
