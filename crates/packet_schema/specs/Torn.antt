-- Data that is not whole: a list that is read whose payload is not the encoding of whole items.
use Rattle.std.specs.Prelude.{◌≡◌, ◌⊎◌, List, [], ◌∷◌}
use Rattle.octets.specs.Octets as octets
use Rattle.rlp.specs.Encoding.{Item, string, list, encodes}
use Rattle.packet_schema.specs.Shapes.{Begins}
use Rattle.packet_kinds.specs.declared.Kind.{Kind}
use Rattle.packet_kinds.specs.declared.Kind.TheVariants.{Uint, Bytes, Address, SenderAddress, Endpoint, Sender, Nodes, Record}

-- the encoding of whole items, one after the other
abbrev pub IsItems : octets.Bytes → Type 0
IsItems p = (is : List Item) × (p ≡ encodes is)

-- a list whose payload is not that
abbrev pub TornList : Item → Type 0
TornList (string s) = ⊥
TornList (list p) = ¬ IsItems p

abbrev pub AnyTorn : List Item → Type 0
AnyTorn [] = ⊥
AnyTorn (i ∷ is) = TornList i ⊎ AnyTorn is

-- the list of nodes, or a list among its items
abbrev pub TornNodes : Item → Type 0
TornNodes i = TornList i ⊎ ((is : List Item) × (i ≡ list (encodes is)) × AnyTorn is)

-- a list that is read in an item of the kind: strings hold none, and the inside of a record is not examined
abbrev pub Torn : Kind → Item → Type 0
Torn (Uint max) i = ⊥
Torn (Bytes n) i = ⊥
Torn Address i = ⊥
Torn SenderAddress i = ⊥
Torn Endpoint i = TornList i
Torn Sender i = TornList i
Torn Nodes i = TornNodes i
Torn Record i = ⊥

-- of items by their kinds; items after those of the kinds are not examined
abbrev pub TornField : List Kind → List Item → Type 0
TornField [] is = ⊥
TornField (kind ∷ kinds) [] = ⊥
TornField (kind ∷ kinds) (i ∷ is) = Torn kind i ⊎ TornField kinds is

-- data that does not begin with the encoding of a list of whole items, or one of whose lists that are read is torn
abbrev pub TornData : List Kind → octets.Bytes → Type 0
TornData kinds d = (¬ ((is : List Item) × Begins d is)) ⊎ ((is : List Item) × Begins d is × TornField kinds is)
