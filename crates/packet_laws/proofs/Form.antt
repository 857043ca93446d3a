-- The form that is written: what it says of the items that the data begins with.
use Prim.Native.Nat.{ℕ, ◌≤◌}
use mathlib.Core.Path.{◌≡◌, sym, ap, ◌∙◌}
use mathlib.Core.List.{List, [], ◌++◌, append-nil}
use native.Mathlib.Omega.{arith}
use lib.ListN.{length, drop, get_or, length-append}
use Rattle.octets.specs.Octets.{Bytes, Slice}
use Rattle.lists.proofs.Laws.{nil}
use Rattle.rlp.specs.Encoding.{Item, string, list, encodes, Small}
use Rattle.rlp.specs.Reading.{head, extent, count}
use Rattle.rlp.proofs.Encoding.{read_item, encode-length, count-encodes}
use Rattle.packet_model.specs.Items.{data_of, endpoint}
use Rattle.packet_schema.specs.Shapes.{IsEndpoint, Begins}
use Rattle.packet_schema.proofs.Torn.{small-begun}
use Rattle.packet.specs.Packets.{schema_of, endpoint_of}
use Rattle.packet.specs.declared.PacketType.{PacketType}
use Rattle.packet.proofs.Values.{data_payload}
use Rattle.packet.proofs.Inversion.{tcp-at}
use Rattle.packet_laws.specs.RoundTrip.{list_in, NothingAfter, tcp_of}

-- ---- nothing after the known items

module _ (d : Bytes) (sl : Slice d) (is : List Item) (b : Begins d is) where
  small : Small is
  small = small-begun d sl is b

  list_size : extent (head d) ≡ length (data_of is)
  list_size =
      ap (λ (x : Bytes). extent (head x)) b.begins
      ∙ ap extent (read_item (list (encodes is)) b.rest small)
      ∙ sym (encode-length (list (encodes is)))

  module _ (t : PacketType) (n : NothingAfter t d) where
    pub data-all : d ≡ data_of is
    data-all =
        let none : b.rest ≡ [] = nil b.rest (omega (arith, n.bytes, list_size, ap length b.begins, length-append (data_of is) b.rest)) in
        b.begins ∙ ap (λ (r : Bytes). data_of is ++ r) none ∙ append-nil (data_of is)

    pub known-items : length is ≤ length (schema_of t)
    known-items = omega (arith, n.items, ap count (data_payload d is small b), count-encodes is small)

  -- data that is a list of no more than the known items
  pub no_more : (t : PacketType) → d ≡ data_of is → length is ≤ length (schema_of t) → NothingAfter t d
  no_more t e h =
      record {
        bytes = list_size ∙ sym (ap length e);
        items = omega (arith, ap count (data_payload d is small b), count-encodes is small);
      }

-- the TCP port of an endpoint that is item n
pub tcp_is : (g : Bytes) (sl : Slice g) (long : 98 ≤ length g) (is : List Item) → Begins (drop 98 g) is → (n : ℕ) {a : Bytes} {u t : ℕ} → get_or is n (string []) ≡ endpoint a u t → IsEndpoint a u t → tcp_of n (list_in (drop 98 g)) ≡ t
unfolding endpoint_of
tcp_is g sl long is b n {a} {u} {t} e good = tcp-at g 98 sl long is b n a u t e good.tcp_fits
