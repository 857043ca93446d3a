-- A line is read as a node exactly if it is that node's line, up to hex case. Assumes nothing.
use Prim.Native.Nat.{ℕ, zero, suc, ◌≤◌, ◌<◌}
use mathlib.Core.Path.{◌≡◌, refl, sym, ap, ◌∙◌}
use mathlib.Core.Bool.{true}
use mathlib.Core.List.{List, [], ◌∷◌, ◌++◌, map, append_assoc}
use native.Mathlib.Omega.{arith}
use borrow.Author.Tests.{le-leb, leb-true, eq-eqb, eqb-true}
use lib.Dec.{leb}
use lib.ListN.{length, get_or, take, drop, replicate, length-take, length-drop, length-append, length-map}
use lib.Seq.{drop-cons, take_at, drop_at}
use Rattle.std.specs.Prelude.{Some}
use Rattle.octets.specs.Octets.{Bytes, IsBytes, part, same_bytes}
use Rattle.octets.proofs.Laws.{length_part, same_eq, same_refl}
use Rattle.lists.specs.Lists.{all, All}
use Rattle.lists.proofs.Laws.{by_test, and_left, and_right, at-All}
use Rattle.text.specs.Hex.{hex, unhex, lower, is_any_hex_digit}
use Rattle.text.proofs.Hex.{hex-lower, lower-hex, bytes_unhex, length-unhex, length-hex}
use Rattle.node.specs.Nodes.{address_of}
use Rattle.node.specs.declared.Node.{Node}
use Rattle.enode.specs.Text.{scheme, dotted, ports_text, enode_text}
use Rattle.enode.specs.Reading.{node_of, is_keyed, enode_of}
use Rattle.enode.specs.Spelling.{lowered, IsEnode, Spelling}
use Rattle.enode.proofs.Octets.{marked, not_fit, Told, octets-told, octets-read, dotted_marked}

abbrev marks : List ℕ
marks = 46 ∷ 46 ∷ 46 ∷ 58 ∷ []

-- ---- from the line to the node

-- what is known of a line that begins with a key
record Keyed (l : Bytes) : Type 0 where
  long : 137 ≤ length l
  word : take 8 l ≡ scheme
  digits : all is_any_hex_digit (part l 8 128) ≡ true
  sign : get_or l 136 0 ≡ 64

keyed : (l : Bytes) → is_keyed l ≡ true → Keyed l
unfolding part
keyed l k =
    let w = and_right (leb 137 (length l)) _ k in
    let d = and_right (same_bytes (part l 0 8) scheme) _ w in
    record {
      long = leb-true 137 (length l) (and_left (leb 137 (length l)) _ k);
      word = same_eq (part l 0 8) scheme (and_left (same_bytes (part l 0 8) scheme) _ w);
      digits = and_left (all is_any_hex_digit (part l 8 128)) _ d;
      sign = eqb-true (get_or l 136 0) 64 (and_right (all is_any_hex_digit (part l 8 128)) _ d);
    }

address-of : (key octets : Bytes) (udp tcp : ℕ) → length octets ≡ 4 → address_of (node_of key octets udp tcp).endpoint ≡ octets
address-of key octets udp tcp h = take_at octets (replicate 12 0) 4 h

-- the text of a node, its octets with their marks
text_of : (key octets : Bytes) (udp tcp : ℕ) → length octets ≡ 4
    → enode_text (node_of key octets udp tcp) ≡ scheme ++ hex key ++ (64 ∷ marked octets marks (ports_text udp tcp))
unfolding enode_text
text_of key octets udp tcp h =
    ap (λ (a : Bytes). scheme ++ hex key ++ (64 ∷ dotted a) ++ (58 ∷ ports_text udp tcp)) (address-of key octets udp tcp h)
    ∙ append_assoc (scheme ++ hex key) (64 ∷ dotted octets) (58 ∷ ports_text udp tcp)
    ∙ ap (λ (t : Bytes). scheme ++ hex key ++ (64 ∷ t)) (sym (dotted_marked octets (ports_text udp tcp) h))

bytes_small : (s : Bytes) → All (λ (b : ℕ). b < 256) s → IsBytes s
bytes_small [] p i = omega arith
bytes_small (b ∷ s) p zero = p.0
bytes_small (b ∷ s) p (suc i) = bytes_small s p.1 i

told_text : (l : Bytes) (n : Node) → Keyed l → Told (unhex (part l 8 128)) [] marks l 137 n → lowered l ≡ enode_text n
unfolding lowered
told_text l n k t =
    let key : Bytes = unhex (part l 8 128) in
    let even : length (part l 8 128) ≡ 128 = length_part l 8 128 (omega (arith, k.long)) in
    let digits : map lower (part l 8 128) ≡ hex key = sym (hex-lower (part l 8 128) (omega arith) k.digits) in
    let rest : drop 136 l ≡ 64 ∷ marked t.octets marks (ports_text t.udp t.tcp) =
    drop-cons l 136 0 (omega (arith, k.long)) ∙ ap (λ (b : ℕ). b ∷ drop 137 l) k.sign ∙ ap (λ (s : Bytes). 64 ∷ s) t.text in
    ap (λ (w : Bytes). w ++ map lower (part l 8 128) ++ drop 136 l) k.word
    ∙ ap (λ (h : Bytes). scheme ++ h ++ drop 136 l) digits
    ∙ ap (λ (r : Bytes). scheme ++ hex key ++ r) rest
    ∙ sym (text_of key t.octets t.udp t.tcp t.size)
    ∙ ap enode_text t.node

told_is : (l : Bytes) (n : Node) → Keyed l → Told (unhex (part l 8 128)) [] marks l 137 n → IsEnode n
told_is l n k t =
    let key : Bytes = unhex (part l 8 128) in
    let a = address-of key t.octets t.udp t.tcp t.size in
    rw (sym t.node) (record {
      key = omega (arith, length-unhex (part l 8 128), length_part l 8 128 (omega (arith, k.long)));
      key_bytes = bytes_unhex (part l 8 128);
      len = refl;
      address = ap (λ (s : Bytes). s ++ replicate 12 0) (sym a);
      octets = ap length a ∙ t.size;
      octet_bytes = rw a (bytes_small t.octets t.small);
      udp = omega (arith, t.udp_most);
      tcp = omega (arith, t.tcp_most);
    })

forth : (l : Bytes) (n : Node) → enode_of l ≡ Some n → (lowered l ≡ enode_text n) × IsEnode n
unfolding enode_of
forth l n r =
    by_test (is_keyed l)
    (λ k.
    let t : Told (unhex (part l 8 128)) [] marks l 137 n = octets-told (unhex (part l 8 128)) l n marks [] 137 (rw k at r) in
    (told_text l n (keyed l k) t, told_is l n (keyed l k) t))
    (λ k. not_fit (rw k at r))

-- ---- from the node to the line

-- strings that begin with as many bytes are equal there and after
parted : (x x' y y' : Bytes) → length x ≡ length x' → x ++ y ≡ x' ++ y' → (x ≡ x') × (y ≡ y')
parted x x' y y' h e = (
  sym (take_at x y (length x') h) ∙ ap (take (length x')) e ∙ take_at x' y' (length x') refl,
  sym (drop_at x y (length x') h) ∙ ap (drop (length x')) e ∙ drop_at x' y' (length x') refl,
)

length-lowered : (l : Bytes) → length (lowered l) ≡ length l
unfolding lowered part
length-lowered l =
    omega (
      arith,
      length-append (take 8 l ++ map lower (part l 8 128)) (drop 136 l),
      length-append (take 8 l) (map lower (part l 8 128)),
      length-map (part l 8 128) lower,
      length-take 8 l,
      length-take 128 (drop 8 l),
      length-drop 8 l,
      length-drop 136 l,
    )

-- a line in three pieces, where a node's line is it in lower case
record Pieces (l key rest : Bytes) : Type 0 where
  long : 137 ≤ length l
  word : take 8 l ≡ scheme
  digits : map lower (part l 8 128) ≡ hex key
  sign : drop 136 l ≡ 64 ∷ rest

pieces : (l key rest : Bytes) → length key ≡ 64 → lowered l ≡ scheme ++ hex key ++ (64 ∷ rest) → Pieces l key rest
unfolding lowered
pieces l key rest h e =
    let size : length (scheme ++ hex key) ≡ 136 = omega (arith, length-append scheme (hex key), length-hex key) in
    let long : 137 ≤ length l = omega (arith, length-lowered l, ap length e, length-append (scheme ++ hex key) (64 ∷ rest)) in
    let first : length (take 8 l) ≡ 8 = omega (arith, length-take 8 l) in
    let middle : length (map lower (part l 8 128)) ≡ 128 = length-map (part l 8 128) lower ∙ length_part l 8 128 (omega arith) in
    let two = parted (take 8 l ++ map lower (part l 8 128)) (scheme ++ hex key) (drop 136 l) (64 ∷ rest)
    (omega (arith, length-append (take 8 l) (map lower (part l 8 128)))) e in
    let one = parted (take 8 l) scheme (map lower (part l 8 128)) (hex key) first two.0 in
    record { long = long; word = one.0; digits = one.1; sign = two.1 }

abbrev built : Bytes → ℕ → Bytes → ℕ → ℕ → Node
built key len address udp tcp = record { key = key; endpoint = record { len = len; address = address; udp = udp; tcp = tcp } }

-- such a node is the one that is read
node_is : (n : Node) → IsEnode n → node_of n.key (address_of n.endpoint) n.endpoint.udp n.endpoint.tcp ≡ n
node_is n i =
    ap (λ (a : Bytes). built n.key 4 a n.endpoint.udp n.endpoint.tcp) (sym i.address)
    ∙ ap (λ (k : ℕ). built n.key k n.endpoint.address n.endpoint.udp n.endpoint.tcp) (sym i.len)

back : (l : Bytes) (n : Node) → lowered l ≡ enode_text n → IsEnode n → enode_of l ≡ Some n
unfolding enode_of part
back l n e i =
    let octets : Bytes = address_of n.endpoint in
    let udp : ℕ = n.endpoint.udp in
    let tcp : ℕ = n.endpoint.tcp in
    let rest : Bytes = marked octets marks (ports_text udp tcp) in
    let p : Pieces l n.key rest = pieces l n.key rest i.key (e ∙ ap enode_text (sym (node_is n i)) ∙ text_of n.key octets udp tcp i.octets) in
    let d : (all is_any_hex_digit (part l 8 128) ≡ true) × (unhex (part l 8 128) ≡ n.key) = lower-hex (part l 8 128) n.key i.key_bytes p.digits in
    let both : get_or l 136 0 ∷ drop 137 l ≡ 64 ∷ rest = sym (drop-cons l 136 0 (omega (arith, p.long))) ∙ p.sign in
    let sign : get_or l 136 0 ≡ 64 = cc in
    let after : drop 137 l ≡ rest = cc in
    let word : same_bytes (part l 0 8) scheme ≡ true = rw p.word (same_refl scheme) in
    let k : is_keyed l ≡ true = rw (le-leb 137 (length l) p.long, word, d.0, eq-eqb (get_or l 136 0) 64 sign) in
    rw k
    (octets-read (unhex (part l 8 128)) l udp tcp (omega (arith, i.udp)) (omega (arith, i.tcp)) marks octets [] 137 p.long
    (refl, (refl, (refl, (refl, tt))))
    i.octets
    (at-All (λ (b : ℕ). b < 256) octets 0 (λ j h. i.octet_bytes j))
    after
    ∙ ap (λ (key : Bytes). Some (node_of key octets udp tcp)) d.1
    ∙ ap Some (node_is n i))

pub spelling : Spelling
spelling l n = (λ r. forth l n r, λ p. back l n p.0 p.1)
