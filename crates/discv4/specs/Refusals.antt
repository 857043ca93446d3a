-- Refusals of the public calls: "A refusal returns its number alone and changes nothing lent but the tally". Of each call, the numbers that
-- it can give, and what it leaves where it gives another than 0.
use Rattle.std.specs.Prelude.{◌≡◌, true, eqb}
use Rattle.octets.specs.Octets.{Bytes}
use Rattle.lists.specs.Lists.{any}
use Rattle.table.specs.Init.{InitKept}
use Rattle.written.specs.Written.{WrittenKept}
use Rattle.call_history.specs.Model.{Call}
use Rattle.call_model.specs.AnyBytes.{numbers_of}
use Rattle.closest_nodes.specs.Listing.{ClosestKept}
use Rattle.printout_table.specs.Told.{ToldKept}
use Rattle.call_key.specs.Kept.{KeyKept}
use Rattle.call_low.specs.Got.{bytes_low}
use Rattle.call_burst.specs.Burst.{BurstKept, LowBurstKept}
use Rattle.discv4.specs.Library.{answer_number, table_after, low_number}

pub record RefusalsKeep : Type 0 where
  -- `datagram`, `ping_sent`, `sweep` and `closest` on any bytes: their numbers, and the table
  pub number_listed : (s : Bytes) (c : Call) → any (eqb (answer_number s c)) (numbers_of c) ≡ true
  pub refused_unchanged : (s : Bytes) (c : Call) → (answer_number s c ≡ 0 → ⊥) → table_after s c ≡ s
  -- `datagram_low`, `ping_sent_low` and `sweep_low` on any bytes
  pub low_listed : (s : Bytes) (c : Call) → any (eqb (low_number s c)) (numbers_of c) ≡ true
  pub low_unchanged : (s : Bytes) (c : Call) → (low_number s c ≡ 0 → ⊥) → bytes_low s c ≡ s
  -- the list that is lent to `closest`
  pub closest_list : ClosestKept
  -- `burst`: table, list and counters
  pub burst : BurstKept
  -- `burst_low`
  pub low_burst : LowBurstKept
  -- `init`; and that a fresh table is sound
  pub init : InitKept
  -- `write_ping`, .., `write_enr_response` and `join`: each answers `written` and leaves `written_in` of its own value
  pub writers : WrittenKept
  -- `table_state`, and `print_table` with the room that is lent to it
  pub tells : ToldKept
  -- `head` and `find`
  pub of_keys : KeyKept
