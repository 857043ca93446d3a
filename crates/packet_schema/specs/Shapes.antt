-- What a schema asks, said by the values that the items encode.
use Rattle.std.specs.Prelude.{ℕ, ◌-◌, ◌≤◌, ◌≡◌, true, List, [], ◌∷◌, ◌++◌, length}
use Rattle.node.specs.Nodes.{is_address}
use Rattle.octets.specs.Octets as octets
use Rattle.rlp.specs.Encoding.{Item, string, list, encode, encodes}
use Rattle.packet_model.specs.Items.{data_of, uint, endpoint, node}
use Rattle.packet_model.specs.From.{From, from_bytes, is_from}
use Rattle.packet_kinds.specs.declared.Kind.{Kind}
use Rattle.packet_kinds.specs.declared.Kind.TheVariants.{Uint, Bytes, Address, SenderAddress, Endpoint, Sender, Nodes, Record}

-- address of 4 or 16 bytes, ports of 16 bits
pub record IsEndpoint (address : octets.Bytes) (udp tcp : ℕ) : Type 0 where
  pub sized : is_address address ≡ true
  pub udp_fits : udp ≤ 65535
  pub tcp_fits : tcp ≤ 65535

-- the same of an address that may be unknown
pub record IsSender (from : From) (udp tcp : ℕ) : Type 0 where
  pub sized : is_from from ≡ true
  pub udp_fits : udp ≤ 65535
  pub tcp_fits : tcp ≤ 65535

-- an item that encodes an integer of at most max
pub record IsUint (max : ℕ) (i : Item) : Type 0 where
  pub value : ℕ
  pub is : i ≡ uint value
  pub fits : value ≤ max

pub record IsString (n : ℕ) (i : Item) : Type 0 where
  pub bytes : octets.Bytes
  pub is : i ≡ string bytes
  pub sized : length bytes ≡ n

pub record IsEndpointItem (i : Item) : Type 0 where
  pub address : octets.Bytes
  pub udp : ℕ
  pub tcp : ℕ
  pub is : i ≡ endpoint address udp tcp
  pub good : IsEndpoint address udp tcp

pub record IsSenderItem (i : Item) : Type 0 where
  pub from : From
  pub udp : ℕ
  pub tcp : ℕ
  pub is : i ≡ endpoint (from_bytes from) udp tcp
  pub good : IsSender from udp tcp

pub record IsNode (i : Item) : Type 0 where
  pub address : octets.Bytes
  pub udp : ℕ
  pub tcp : ℕ
  pub key : octets.Bytes
  pub is : i ≡ node address udp tcp key
  pub good : IsEndpoint address udp tcp
  pub sized : length key ≡ 64

abbrev pub AllNodes : List Item → Type 0
AllNodes [] = Unit {0}
AllNodes (i ∷ is) = IsNode i × AllNodes is

pub record IsNodes (i : Item) : Type 0 where
  pub nodes : List Item
  pub is : i ≡ list (encodes nodes)
  pub all : AllNodes nodes

pub record IsRecord (i : Item) : Type 0 where
  pub content : octets.Bytes
  pub is : i ≡ list content
  pub sized : length (encode (list content)) ≤ 300

pub record IsAddressItem (i : Item) : Type 0 where
  pub bytes : octets.Bytes
  pub is : i ≡ string bytes
  pub sized : is_address bytes ≡ true

pub record IsSenderAddress (i : Item) : Type 0 where
  pub from : From
  pub is : i ≡ string (from_bytes from)
  pub sized : is_from from ≡ true

-- the item encodes a value of the kind
abbrev pub Shape : Kind → Item → Type 0
Shape (Uint max) i = IsUint max i
Shape (Bytes n) i = IsString n i
Shape Address i = IsAddressItem i
Shape SenderAddress i = IsSenderAddress i
Shape Endpoint i = IsEndpointItem i
Shape Sender i = IsSenderItem i
Shape Nodes i = IsNodes i
Shape Record i = IsRecord i

-- the items encode values of the kinds, in order; the first `required` are there
abbrev pub Shapes : ℕ → List Kind → List Item → Type 0
Shapes required [] is = Unit {0}
Shapes required (kind ∷ kinds) [] = required ≡ 0
Shapes required (kind ∷ kinds) (i ∷ is) = Shape kind i × Shapes (required - 1) kinds is

-- data that begins with the encoding of a list of these items
pub record Begins (d : octets.Bytes) (is : List Item) : Type 0 where
  pub rest : octets.Bytes
  pub begins : d ≡ data_of is ++ rest

-- data that begins with the encoding of values of the kinds
pub record Accepted (required : ℕ) (kinds : List Kind) (d : octets.Bytes) : Type 0 where
  pub items : List Item
  pub begins : Begins d items
  pub shapes : Shapes required kinds items
