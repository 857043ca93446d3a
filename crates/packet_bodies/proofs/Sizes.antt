-- Sizes of items.
use Prim.Native.Nat.{ℕ, ◌+◌, ◌^◌, ◌≤◌, ◌<◌}
use mathlib.Core.Path.{◌≡◌, refl, sym, ap, ◌∙◌}
use mathlib.Core.Bool.{true}
use mathlib.Core.List.{List, [], ◌∷◌, ◌++◌, append_assoc}
use native.Mathlib.Omega.{arith}
use lib.ListN.{length, length-append}
use Rattle.node.specs.Nodes.{is_address}
use Rattle.octets.specs.Octets.{Bytes}
use Rattle.rlp.specs.Numbers.{uint_bytes}
use Rattle.rlp.specs.Encoding.{Item, string, list, header, is_plain, encode, encodes}
use Rattle.rlp.proofs.Cases.{by_cases}
use Rattle.rlp.proofs.Numbers.{width_least, length-uint, uint_lead}
use Rattle.rlp.proofs.Writing.{header_short, header-long, encode_framed, encode_list}
use Rattle.packet_model.specs.Items.{uint, endpoint, node}
use Rattle.packet_model.specs.From.{is_sender_address}
use Rattle.packet_model.proofs.From.{sender_range, address_sender}
use Rattle.std.specs.Prelude.{Option, Some, None}
use Rattle.packet_bodies.specs.Parts.{endpoint_items, last_items}

-- a list's items behind a header that says their size
pub framed : (size : ℕ) (p : Bytes) → size ≡ length p → header 0xc0 size ++ p ≡ encode (list p)
framed size p e = ap (λ (n : ℕ). header 0xc0 n ++ p) e ∙ sym (encode_list p)

-- the items' sizes, added up
abbrev pub total : List Item → ℕ
total [] = 0
total (i ∷ is) = length (encode i) + total is

pub total_size : (is : List Item) → length (encodes is) ≡ total is
total_size [] = refl
total_size (i ∷ is) = length-append (encode i) (encodes is) ∙ ap (λ (n : ℕ). length (encode i) + n) (total_size is)

-- a string of 0 or 2 to 55 bytes takes one more
pub string_short : (s : Bytes) → (length s ≡ 1 → ⊥) → length s < 56 → length (encode (string s)) ≡ 1 + length s
string_short s h l =
    omega (arith, ap length (encode_framed s (λ (o : length s ≡ 1). absurd (h o))), length-append (header 0x80 (length s)) s, ap length (header_short 0x80 (length s) l))

-- a string of up to 55 bytes takes at most one byte more
pub string_bound : (s : Bytes) → length s < 56 → length (encode (string s)) ≤ 1 + length s
unfolding encode
string_bound s l =
    by_cases (λ (x : Bytes). length x ≤ 1 + length s) (is_plain s) (λ _. omega arith)
    (λ _. omega (arith, length-append (header 0x80 (length s)) s, ap length (header_short 0x80 (length s) l)))

-- the bytes of a number below 256 ^ k are at most k
pub uint-bytes : (k n : ℕ) → n < 256 ^ k → length (uint_bytes n) ≤ k
uint-bytes k n h = omega (arith, length-uint n, width_least k n h)

-- the header of a payload of 56 to 255 bytes
pub header_two : (base n : ℕ) → 56 ≤ n → n < 256 → length (header base n) ≡ 2
header_two base n h l = omega (arith, ap length (header-long base n h), (uint_lead n (omega arith)).0, uint-bytes 1 n (omega arith))

-- a string of 56 to 255 bytes takes two more
pub string_long : (s : Bytes) → 56 ≤ length s → length s < 256 → length (encode (string s)) ≡ 2 + length s
string_long s h l =
    omega (arith, ap length (encode_framed s (λ (o : length s ≡ 1). absurd (omega arith))), length-append (header 0x80 (length s)) s, header_two 0x80 (length s) h l)

-- an integer below 256 ^ k takes at most k bytes and a header
pub uint-width : (k n : ℕ) → k ≤ 8 → n < 256 ^ k → length (encode (uint n)) ≤ 1 + k
uint-width k n le h = let b = uint-bytes k n h in omega (arith, string_bound (uint_bytes n) (omega arith))

-- the items of an endpoint, by the sizes of its ports
module _ (a : Bytes) (u t : ℕ) (ok : is_sender_address a ≡ true) where
  pub fields-size : length (encodes (endpoint_items a u t)) ≡ 1 + length a + length (encode (uint u)) + length (encode (uint t))
  fields-size =
      let h = sender_range (length a) ok in
      omega (arith, total_size (endpoint_items a u t), string_short a h.0 (omega (arith, h.1)))

  module _ (hu : u < 256 ^ 2) (ht : t < 256 ^ 2) where
    pub fields-bound : length (encodes (endpoint_items a u t)) ≤ 23
    fields-bound = omega (arith, fields-size, (sender_range (length a) ok).1, uint-width 2 u (omega arith) hu, uint-width 2 t (omega arith) ht)

    pub endpoint-size : length (encode (endpoint a u t)) ≡ 1 + length (encodes (endpoint_items a u t))
    endpoint-size =
        let p : Bytes = encodes (endpoint_items a u t) in
        omega (arith, ap length (framed (length p) p refl), length-append (header 0xc0 (length p)) p, ap length (header_short 0xc0 (length p) (omega (arith, fields-bound))))

-- the items of a node
abbrev pub keyed : Bytes → ℕ → ℕ → Bytes → List Item
keyed a u t key = endpoint_items a u t ++ (string key ∷ [])

-- a node: its key is 64 bytes
module _ (a : Bytes) (u t : ℕ) (key : Bytes) (ok : is_address a ≡ true) (k : length key ≡ 64) where
  pub key_size : length (encode (string key)) ≡ 66
  key_size = omega (arith, string_long key (omega arith) (omega arith))

  pub keyed-size : length (encodes (keyed a u t key)) ≡ length (encodes (endpoint_items a u t)) + 66
  keyed-size = omega (arith, total_size (keyed a u t key), total_size (endpoint_items a u t), key_size)

  pub node-size : u < 256 ^ 2 → t < 256 ^ 2 → length (encode (node a u t key)) ≡ 68 + length (encodes (endpoint_items a u t))
  node-size hu ht =
      let p : Bytes = encodes (keyed a u t key) in
      let b = fields-bound a u t (address_sender a ok) hu ht in
      omega (arith, ap length (framed (length p) p refl), length-append (header 0xc0 (length p)) p, keyed-size, header_two 0xc0 (length p) (omega (arith, keyed-size)) (omega (arith, keyed-size)))

pub encodes-append : (is js : List Item) → encodes (is ++ js) ≡ encodes is ++ encodes js
encodes-append [] js = refl
encodes-append (i ∷ is) js = ap (λ (x : Bytes). encode i ++ x) (encodes-append is js) ∙ sym (append_assoc (encode i) (encodes is) (encodes js))

-- the last items of Ping and Pong, by whether enr-seq is there
pub last_absent : (x : ℕ) {e : Option ℕ} → e ≡ None → encodes (last_items x e) ≡ encode (uint x) ++ []
last_absent x p = ap (λ (e : Option ℕ). encodes (last_items x e)) p

pub last_present : (x : ℕ) {e : Option ℕ} {n : ℕ} → e ≡ Some n → encodes (last_items x e) ≡ encode (uint x) ++ (encode (uint n) ++ [])
last_present x p = ap (λ (e : Option ℕ). encodes (last_items x e)) p
