-- A reply to a FindNode: its nodes in Neighbors packets of at most twelve.
use Rattle.std.specs.Prelude.{ℕ, ◌+◌, ◌-◌, ◌*◌, ◌/◌, ◌≤◌, ◌<◌, min, ◌≡◌, cond, eqb}
use Rattle.packet_reply.specs.declared.Part.{Part}

-- how many packets the nodes take: twelve in each, and one packet of none
unfoldable pub reply_count : ℕ → ℕ
reply_count n = cond (eqb n 0) 1 ((n + 11) / 12)

-- the nodes of packet k: from the first after those of the packets before it, twelve or all that are left
unfoldable pub reply_part : ℕ → ℕ → Part
reply_part n k = record { start = min (12 * k) n; len = min (n - 12 * k) 12 }

pub record Replies : Type 0 where
  -- the packets' nodes are all the nodes, one packet's after the other's
  pub first : (n : ℕ) → (reply_part n 0).start ≡ 0
  pub on : (n k : ℕ) → k + 1 < reply_count n → (reply_part n (k + 1)).start ≡ (reply_part n k).start + (reply_part n k).len
  pub last : (n k : ℕ) → k + 1 ≡ reply_count n → (reply_part n k).start + (reply_part n k).len ≡ n
  -- as many in each as a Neighbors may have, and only the last may have fewer
  pub most : (n k : ℕ) → (reply_part n k).len ≤ 12
  pub full : (n k : ℕ) → k + 1 < reply_count n → (reply_part n k).len ≡ 12
  -- "A reply of 16 nodes is 12 then 4; of none, one packet with an empty list"
  pub of_16 : (reply_count 16 ≡ 2) × (reply_part 16 0 ≡ record { start = 0; len = 12 }) × (reply_part 16 1 ≡ record { start = 12; len = 4 })
  pub of_none : (reply_count 0 ≡ 1) × (reply_part 0 0 ≡ record { start = 0; len = 0 })
