-- Calls of different buckets in either order (document 02, C-19).
use Rattle.std.specs.Prelude.{ℕ, ◌≡◌, Bool, true, not, ◌&&◌, List, [], ◌∷◌, ◌++◌, eqb, length}
use Rattle.octets.specs.Octets.{Bytes}
use Rattle.lists.specs.Lists.{select, All}
use Rattle.call_history.specs.Model.{Env, Call, datagram, ping_sent, sweep, closest, unclocked, is_own, is_kept, slot}
use Rattle.call_history.specs.Demand3.{clock_reading}

-- the key of a datagram's signer or of a ping-sent's target; other calls have none, nor has one whose reading gave no clock (C-20)
abbrev pub key_of : Call → Bytes
key_of (datagram now unix address udp key bytes) = key
key_of (ping_sent now key address udp tcp hash) = key
key_of (sweep now) = []
key_of (closest target room) = []
key_of (unclocked c) = []

module _ (e : Env) where
  -- a call with a kept bucket: "A bucket counts as touched where the key is 64 bytes, 7 doesn't apply and its bucket is kept"
  abbrev pub has_bucket : Call → Bool
  has_bucket c = eqb (length (key_of c)) 64 && (not (is_own e (key_of c)) && is_kept e (key_of c))

  -- that bucket stands at index i of those kept
  abbrev pub is_of_bucket : ℕ → Call → Bool
  is_of_bucket i c = has_bucket c && eqb (slot e (key_of c)) i

  -- "keys that fall in different kept buckets"
  abbrev pub Apart : Call → Call → Type 0
  Apart c d = (i : ℕ) → is_of_bucket i c ≡ true → is_of_bucket i d ≡ true → ⊥

  -- a call of a stretch at the box millisecond t: "Sweeps, closest calls and calls without a kept bucket stay in place and end such a stretch"
  abbrev pub InStretch : ℕ → Call → Type 0
  InStretch t c = (clock_reading t c ≡ t) × (has_bucket c ≡ true)

  -- "two merges of the ports' logs that keep every bucket's own calls in order, and whose calls differ in place only within an unbroken
  -- stretch of one millisecond"
  pub data Merges : List Call → List Call → Type 0 where
    done : Merges [] []
    same : (c : Call) {cs ds : List Call} → Merges cs ds → Merges (c ∷ cs) (c ∷ ds)
    stretch : (t : ℕ) (xs ys : List Call) {cs ds : List Call}
        → All (InStretch t) xs → All (InStretch t) ys
        → ((i : ℕ) → select (is_of_bucket i) xs ≡ select (is_of_bucket i) ys)
        → Merges cs ds → Merges (xs ++ cs) (ys ++ ds)

-- calls on states of any kind, as a table's bytes with the counters: what a call is told, and the state that it leaves
module _ {S A : Type 0} (told : S → Call → A) (left : S → Call → S) where
  abbrev pub after : S → List Call → S
  after s [] = s
  after s (c ∷ cs) = after (left s c) cs

  -- each call with what it is told
  abbrev pub answered : S → List Call → List (Call × A)
  answered s [] = []
  answered s (c ∷ cs) = (c, told s c) ∷ answered (left s c) cs

  -- "In either order the table, the tally and each call's own answer are to be the same"
  pub record EitherWay (s : S) (c d : Call) : Type 0 where
    pub state : left (left s c) d ≡ left (left s d) c
    pub first : told (left s d) c ≡ told s c
    pub second : told (left s c) d ≡ told s d

  -- two lists "end alike", and each call is told the same up to place: those of each bucket, in their order, and those without a bucket
  pub record EndAlike (e : Env) (s : S) (cs ds : List Call) : Type 0 where
    pub state : after s cs ≡ after s ds
    pub answers : (i : ℕ) → select (λ v. is_of_bucket e i v.0) (answered s cs) ≡ select (λ v. is_of_bucket e i v.0) (answered s ds)
    pub others : select (λ v. not (has_bucket e v.0)) (answered s cs) ≡ select (λ v. not (has_bucket e v.0)) (answered s ds)
