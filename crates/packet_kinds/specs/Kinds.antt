-- What a kind asks of one item, and the verdict on it.
use Rattle.std.specs.Prelude.{ℕ, Bool, true, false, cond, ◌&&◌, List, [], ◌∷◌, Option, Some, None, length, leb, eqb}
use Rattle.node.specs.Nodes.{is_address}
use Rattle.packet_model.specs.From.{is_sender_address}
use Rattle.rlp.specs.Encoding.{Item, string, list, encode}
use Rattle.rlp.specs.Reading.{whole, uint_of}
use Rattle.packet_kinds.specs.Payload.{items_of}
use Rattle.packet_kinds.specs.declared.Kind.{Kind}
use Rattle.packet_kinds.specs.declared.Kind.TheVariants.{Uint, Bytes, Address, SenderAddress, Endpoint, Sender, Nodes, Record}
use Rattle.packet_kinds.specs.declared.Verdict.{Verdict}
use Rattle.packet_kinds.specs.declared.Verdict.TheVariants.{Good, Wrong, Broken}

-- the verdict of two: 9 anywhere goes before 10 anywhere
abbrev pub worst : Verdict → Verdict → Verdict
worst Good b = b
worst Broken b = Broken
worst Wrong Good = Wrong
worst Wrong Broken = Broken
worst Wrong Wrong = Wrong

abbrev pub good_if : Bool → Verdict
good_if true = Good
good_if false = Wrong

abbrev pub at_most : Option ℕ → ℕ → Bool
at_most (Some v) max = leb v max
at_most None max = false

-- an item is the string that kind asks
abbrev pub is_leaf : Kind → Item → Bool
is_leaf kind (list p) = false
is_leaf (Uint max) (string s) = at_most (uint_of s) max
is_leaf (Bytes n) (string s) = eqb (length s) n
is_leaf Address (string s) = is_address s
is_leaf SenderAddress (string s) = is_sender_address s
is_leaf Endpoint (string s) = false
is_leaf Sender (string s) = false
is_leaf Nodes (string s) = false
is_leaf Record (string s) = false

-- the items are the strings that kinds ask, one for one
abbrev pub leaves : List Kind → List Item → Bool
leaves [] [] = true
leaves [] (i ∷ is) = false
leaves (kind ∷ kinds) [] = false
leaves (kind ∷ kinds) (i ∷ is) = is_leaf kind i && leaves kinds is

-- an item is a list of exactly the strings that kinds ask
abbrev pub tuple : List Kind → Item → Verdict
tuple kinds (string s) = Wrong
tuple kinds (list p) = cond (whole p) (good_if (leaves kinds (items_of p))) Broken

-- address, UDP port, TCP port
abbrev pub endpoint : List Kind
endpoint = Address ∷ Uint 65535 ∷ Uint 65535 ∷ []

-- the same where the address may be empty
abbrev pub sender : List Kind
sender = SenderAddress ∷ Uint 65535 ∷ Uint 65535 ∷ []

-- an endpoint's items and a key
abbrev pub node : List Kind
node = Address ∷ Uint 65535 ∷ Uint 65535 ∷ Bytes 64 ∷ []

-- an item is a record: a list of at most 300 bytes with its header, whatever is inside
abbrev pub is_record_item : Item → Bool
is_record_item (string s) = false
is_record_item (list p) = leb (length (encode (list p))) 300
