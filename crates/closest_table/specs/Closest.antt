-- The entries nearest to a target (document 01, "Closest").
use Rattle.std.specs.Prelude.{ℕ, suc, Bool, true, false, List, [], ◌∷◌, ◌++◌, take}
use Rattle.octets.specs.Octets.{Bytes, big_endian}
use Rattle.keccak.specs.Sponge.{keccak256}
use Rattle.distance.specs.Distance.{distance, home}
use Rattle.entry.specs.declared.Entry.{Entry}
use Rattle.bucket_model.specs.Contents.{Contents}
use Rattle.closest_nearest.specs.declared.Near.{Near}
use Rattle.closest_nearest.specs.Sort.{sort_by}
use Rattle.closest_nearest.specs.Nearest.{farness, holding}
use Rattle.closest_order.specs.Taken.{distances}
use Rattle.table_model.specs.Layout.{buckets_of}
use Rattle.table_model.specs.Sound.{table_sound}
use Rattle.closest_table.specs.declared.Chosen.{Chosen}

-- the entry's key is in the bucket with this number
abbrev pub in_home : Bytes → ℕ → Entry → Bool
in_home own number e = home own number e.key

-- the distance of an entry from the target, in 32 bytes
abbrev pub far_of : Bytes → Entry → Bytes
far_of target e = big_endian 32 (distance target (keccak256 e.key))

-- a bucket's entries from the head, each with its distance from the target
unfoldable pub candidates_of : Bytes → ℕ → ℕ → List Entry → List Near
candidates_of target slot index [] = []
candidates_of target slot index (e ∷ es) = record { slot = slot; index = index; far = far_of target e } ∷ candidates_of target slot (suc index) es

-- those of the buckets in rising number
unfoldable pub candidates_from : Bytes → ℕ → List Contents → List Near
candidates_from target slot [] = []
candidates_from target slot (b ∷ bs) = candidates_of target slot 0 b.entries ++ candidates_from target (suc slot) bs

-- "the min(16, seated) seated nodes nearest to the target, nearest first; equal distances by seat, head first", for the target's hash
unfoldable pub closest : Bytes → List Contents → List Near
closest target buckets = take 16 (sort_by farness (candidates_from target 0 buckets))

abbrev pub pick : Bool → Chosen → Chosen → Chosen
pick true a b = a
pick false a b = b

-- of a table that isn't sound
abbrev pub nothing : Chosen
nothing = record { sound = false; nearest = holding []; distances = 0 }

-- what is chosen in a table's bytes, and how many distances are worked out for it
unfoldable pub closest_in : Bytes → Bytes → Chosen
closest_in s target =
    pick (table_sound s) (record { sound = true; nearest = holding (closest target (buckets_of s)); distances = distances s target }) nothing
