-- What is claimed of a bucket's bytes: they are sound exactly if they are the byte form of contents that keep the rules, and each has one. And the
-- figures on both sides of the rule of ranges.
use Rattle.std.specs.Prelude.{ℕ, ◌≡◌, Bool, true, false, [], ◌∷◌, length}
use Rattle.octets.specs.Octets.{Bytes, IsBytes}
use Rattle.node.specs.declared.Endpoint.{Endpoint}
use Rattle.entry.specs.declared.Entry.{Entry}
use Rattle.bucket_model.specs.Contents.{Contents, encode_bucket}
use Rattle.bucket_model.specs.Rules.{endpoint_of, new_entry, same_range, may_take}
use Rattle.bucket_model.specs.Sound.{keeps_rules, sound}
use Rattle.bucket_model.specs.Facts.{IsContents}

-- what sound bytes are the form of
pub record FormOf (home : Bytes → Bool) (clock : ℕ) (s : Bytes) : Type 0 where
  pub held : Contents
  pub is : IsContents held
  pub form : s ≡ encode_bucket held
  pub keeps : keeps_rules home clock held ≡ true

-- "Sound means exactly": sound bytes are the form of contents that keep the rules
abbrev pub SoundHasForm : Type 0
SoundHasForm =
    (home : Bytes → Bool) (clock : ℕ) (s : Bytes) → length s ≡ 2862 → IsBytes s → sound home clock s ≡ true → FormOf home clock s

-- and the form of such contents is sound
abbrev pub FormIsSound : Type 0
FormIsSound = (home : Bytes → Bool) (clock : ℕ) (s : Bytes) → FormOf home clock s → sound home clock s ≡ true

-- one byte form for each bucket: two contents with the same bytes are the same
abbrev pub EncodeInjective : Type 0
EncodeInjective = (m n : Contents) → IsContents m → IsContents n → encode_bucket m ≡ encode_bucket n → m ≡ n

-- ---- both sides of the rule of ranges (document 02, C-16), as figures

-- 192.0.2.n and 192.0.3.n, and a 16-byte address
abbrev pub in_first : ℕ → Bytes
in_first n = 192 ∷ 0 ∷ 2 ∷ n ∷ []

abbrev pub in_second : ℕ → Bytes
in_second n = 192 ∷ 0 ∷ 3 ∷ n ∷ []

abbrev pub long : Bytes
long = 32 ∷ 1 ∷ 13 ∷ 184 ∷ 0 ∷ 0 ∷ 0 ∷ 0 ∷ 0 ∷ 0 ∷ 0 ∷ 0 ∷ 0 ∷ 0 ∷ 0 ∷ 13 ∷ []

abbrev pub endpoint_at : Bytes → Endpoint
endpoint_at address = endpoint_of address 30303 30303

abbrev pub entry_at : Bytes → Entry
entry_at address = new_entry 0 [] address 30303 30303 []

pub record RangeFigures : Type 0 where
  -- "4-byte addresses with the same first three bytes (a range); 16-byte addresses aren't counted"
  pub same_three : same_range (endpoint_at (in_first 1)) (endpoint_at (in_first 200)) ≡ true
  pub other_third : same_range (endpoint_at (in_first 1)) (endpoint_at (in_second 1)) ≡ false
  pub sixteen : same_range (endpoint_at long) (endpoint_at long) ≡ false
  -- "at most two": beside one seat of its range a node may take a seat, beside two it may not, and one of another range may
  pub beside_one : may_take (entry_at (in_first 1) ∷ []) (endpoint_at (in_first 2)) ≡ true
  pub beside_two : may_take (entry_at (in_first 1) ∷ entry_at (in_first 2) ∷ []) (endpoint_at (in_first 3)) ≡ false
  pub of_another : may_take (entry_at (in_first 1) ∷ entry_at (in_first 2) ∷ []) (endpoint_at (in_second 3)) ≡ true
