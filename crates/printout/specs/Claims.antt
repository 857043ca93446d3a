-- What is claimed of the printout of a sound table.
use Rattle.std.specs.Prelude.{ℕ, suc, ◌-◌, ◌≤◌, ◌≡◌, true, List, [], ◌∷◌, ◌++◌, length, replicate}
use Rattle.octets.specs.Octets.{Bytes, IsBytes}
use Rattle.keccak.specs.Sponge.{keccak256}
use Rattle.distance.specs.Distance.{log_distance}
use Rattle.entry.specs.declared.Entry.{Entry}
use Rattle.entry.specs.declared.EndpointProof.TheVariants.{At}
use Rattle.entry.specs.declared.PingState.TheVariants.{Quiet}
use Rattle.bucket_model.specs.Contents.{Contents, no_contents}
use Rattle.bucket_model.specs.Rules.{millis}
use Rattle.bucket_model.specs.Facts.{Every}
use Rattle.table_model.specs.Layout.{encode_table, own_of, count_of, buckets_of}
use Rattle.table_model.specs.Sound.{table_sound}
use Rattle.table_model.specs.Facts.{SoundTable}
use Rattle.printout.specs.Printout.{printout, printout_room}

-- ---- the distance printed

-- n is the logarithmic distance of an entry from the node with the hash `own`
abbrev pub AtDistance : Bytes → ℕ → Entry → Type 0
AtDistance own n e = log_distance own (keccak256 e.key) ≡ n

-- P holds of each bucket with its distance; the first has this one, and they rise as in `buckets_rows`
abbrev pub Rising : (ℕ → Contents → Type 0) → ℕ → List Contents → Type 0
Rising P n [] = Unit {0}
Rising P n (b ∷ bs) = P n b × Rising P (suc n) bs

-- "The second field of a place is the logarithmic distance", by C-14 the length in bits: what is printed with each entry and each replacement
-- of a sound table
abbrev pub PrintedDistance : Type 0
PrintedDistance =
    (s : Bytes) → IsBytes s → table_sound s ≡ true → Rising (λ n b. Every (AtDistance (own_of s) n) b) (257 - count_of s) (buckets_of s)

-- ---- its size

-- the printout of a sound table fits the room for its number of buckets
abbrev pub PrintoutFits : Type 0
PrintoutFits = (s : Bytes) → IsBytes s → table_sound s ≡ true → length (printout s) ≤ printout_room (count_of s)

-- ---- document 01's example, with the logarithmic distance of C-14

-- "A table of 16 with one node pinged at 100 that answered at 250, key starting 01 to 08, distance at least 2^255"
module _ (rest hash : Bytes) where
  abbrev pub answered : Entry
  answered =
      record {
        key = 0x01 ∷ 0x02 ∷ 0x03 ∷ 0x04 ∷ 0x05 ∷ 0x06 ∷ 0x07 ∷ 0x08 ∷ rest;
        endpoint = record { len = 4; address = 0xc0 ∷ 0x00 ∷ 0x02 ∷ 0x07 ∷ replicate 12 0; udp = 30303; tcp = 30303 };
        seen = millis 250;
        proof = At (millis 250);
        ping = Quiet;
        hash = hash;
      }

  abbrev pub example_buckets : List Contents
  example_buckets = replicate 15 no_contents ++ (record { entries = answered ∷ []; replacements = [] } ∷ [])

-- table<TAB>16<TAB>250<TAB>1<TAB>0
abbrev pub first_row : Bytes
first_row = 0x74 ∷ 0x61 ∷ 0x62 ∷ 0x6c ∷ 0x65 ∷ 0x09 ∷ 0x31 ∷ 0x36 ∷ 0x09 ∷ 0x32 ∷ 0x35 ∷ 0x30 ∷ 0x09 ∷ 0x31 ∷ 0x09 ∷ 0x30 ∷ 0x0a ∷ []

-- seat<TAB>256<TAB>1<TAB>0102030405060708<TAB>c0000207<TAB>30303<TAB>30303<TAB>250<TAB>250<TAB>quiet
abbrev pub second_row : Bytes
second_row =
    0x73 ∷ 0x65 ∷ 0x61 ∷ 0x74 ∷ 0x09 ∷ 0x32 ∷ 0x35 ∷ 0x36 ∷ 0x09 ∷ 0x31 ∷ 0x09 ∷ 0x30 ∷ 0x31 ∷ 0x30 ∷ 0x32 ∷ 0x30 ∷ 0x33 ∷ 0x30 ∷ 0x34 ∷ 0x30 ∷ 0x35 ∷ 0x30 ∷ 0x36 ∷ 0x30 ∷ 0x37 ∷ 0x30 ∷ 0x38 ∷ 0x09 ∷ 0x63 ∷ 0x30 ∷ 0x30 ∷ 0x30 ∷ 0x30 ∷ 0x32 ∷ 0x30 ∷ 0x37 ∷ 0x09 ∷ 0x33 ∷ 0x30 ∷ 0x33 ∷ 0x30 ∷ 0x33 ∷ 0x09 ∷ 0x33 ∷ 0x30 ∷ 0x33 ∷ 0x30 ∷ 0x33 ∷ 0x09 ∷ 0x32 ∷ 0x35 ∷ 0x30 ∷ 0x09 ∷ 0x32 ∷ 0x35 ∷ 0x30 ∷ 0x09 ∷ 0x71 ∷ 0x75 ∷ 0x69 ∷ 0x65 ∷ 0x74 ∷ 0x0a ∷ []

-- its two rows, whatever the rest of the key and the ping hash are
abbrev pub Example : Type 0
Example =
    (rest hash own : Bytes) → SoundTable own 250 (example_buckets rest hash)
    → printout (encode_table own 250 (example_buckets rest hash)) ≡ first_row ++ second_row
