-- The text of a node is visible bytes in lower case: one line, that no lowering changes.
--     text-line         none of its bytes is 0A
--     text-lowered      its hex digits are in lower case
-- Assumes nothing.
use Prim.Native.Nat.{ℕ, zero, suc, ◌+◌, ◌/◌, ◌%◌, ◌≤◌, ◌<◌}
use mathlib.Core.Path.{◌≡◌, refl, sym, ap, ap₂, ◌∙◌}
use mathlib.Core.Bool.{true, false, cond, ◌&&◌}
use mathlib.Core.List.{[], ◌∷◌, ◌++◌, map, append_assoc}
use native.Mathlib.Decide.{dec_lt}
use native.Mathlib.Omega.{arith}
use borrow.Author.Tests.{lt-ltb, le-ltb, lt-leb, ne_eqb, leb-true}
use lib.Dec.{leb, eqb}
use lib.ListN.{length, take, drop, length-append}
use lib.Seq.{take_at, drop_at}
use Rattle.octets.specs.Octets.{Bytes, IsBytes, part}
use Rattle.octets.proofs.Laws.{part_middle}
use Rattle.lists.specs.Lists.{all, All}
use Rattle.lists.proofs.Laws.{by_test, and_left, and_right, All-append, All-imp, all_true}
use Rattle.text.specs.Decimals.{digits, decimal}
use Rattle.text.specs.Hex.{hex_digit, hex, lower}
use Rattle.text.proofs.Hex.{length-hex}
use Rattle.text.proofs.Lines.{OneLine}
use Rattle.node.specs.Nodes.{address_of}
use Rattle.node.specs.declared.Node.{Node}
use Rattle.enode.specs.Text.{scheme, discport, dotted, ports_text, enode_text}
use Rattle.enode.specs.Spelling.{lowered, IsEnode}

-- a visible byte; `.` is the lowest in a line
abbrev Shown : ℕ → Type 0
Shown b = (46 ≤ b) × (b < 128)

word_shown : (l : Bytes) → all (λ b. leb 46 b && leb b 127) l ≡ true → All Shown l
word_shown l h =
    All-imp (λ b. (leb 46 b && leb b 127) ≡ true) Shown
    (λ b e. (leb-true 46 b (and_left (leb 46 b) (leb b 127) e), omega (arith, leb-true b 127 (and_right (leb 46 b) (leb b 127) e)))) l
    (all_true (λ b. leb 46 b && leb b 127) l h)

digits_shown : (places n : ℕ) → All Shown (digits places n)
unfolding digits
digits_shown zero n = tt
digits_shown (suc places) n = elim (dec_lt n 10) [
  | yes l ↦ rw (lt-ltb n 10 l) ((omega arith, omega arith), tt)
  | no g ↦ rw (le-ltb n 10 (omega arith)) (All-append Shown (digits places (n / 10)) ((48 + n % 10) ∷ []) (digits_shown places (n / 10)) ((omega arith, omega arith), tt))
]

decimal_shown : (n : ℕ) → All Shown (decimal n)
unfolding decimal
decimal_shown n = digits_shown (suc n) n

dotted_shown : (s : Bytes) → All Shown (dotted s)
dotted_shown [] = tt
dotted_shown (b ∷ []) = decimal_shown b
dotted_shown (b ∷ c ∷ s) = All-append Shown (decimal b) (0x2e ∷ dotted (c ∷ s)) (decimal_shown b) ((omega arith, omega arith), dotted_shown (c ∷ s))

digit_shown : (d : ℕ) → d < 16 → Shown (hex_digit d) × (lower (hex_digit d) ≡ hex_digit d)
digit_shown d l = elim (dec_lt d 10) [
  | yes s ↦ rw (lt-ltb d 10 s) ((omega arith, omega arith), rw (lt-leb 65 (48 + d) (omega arith)) refl)
  | no g ↦ rw (le-ltb d 10 (omega arith)) ((omega arith, omega arith), rw (lt-leb (87 + d) 70 (omega arith)) (by_test (leb 65 (87 + d)) (λ e. rw e) (λ e. rw e)))
]

hex_shown : (s : Bytes) → IsBytes s → All Shown (hex s) × (map lower (hex s) ≡ hex s)
hex_shown [] bs = (tt, refl)
hex_shown (b ∷ s) bs =
    let high = digit_shown (b / 16) (omega (arith, bs 0)) in
    let low = digit_shown (b % 16) (omega arith) in
    let rest = hex_shown s (λ i. bs (suc i)) in
    ((high.0, (low.0, rest.0)), rw (high.1, low.1, rest.1) refl)

ports_shown : (udp tcp : ℕ) → All Shown (ports_text udp tcp)
unfolding ports_text
ports_shown udp tcp =
    All-append Shown (decimal tcp) (cond (eqb udp tcp) [] (discport ++ decimal udp)) (decimal_shown tcp)
    (by_test (eqb udp tcp) (λ e. rw e tt) (λ e. rw e (All-append Shown discport (decimal udp) (word_shown discport refl) (decimal_shown udp))))

lowered_of : (x y z : Bytes) → length x ≡ 8 → length y ≡ 128 → lowered (x ++ y ++ z) ≡ x ++ map lower y ++ z
unfolding lowered
lowered_of x y z hx hy =
    let front : take 8 (x ++ y ++ z) ≡ x = ap (take 8) (append_assoc x y z) ∙ take_at x (y ++ z) 8 hx in
    let middle : part (x ++ y ++ z) 8 128 ≡ y = part_middle (x ++ y ++ z) x y z 8 128 refl hx hy in
    let back : drop 136 (x ++ y ++ z) ≡ z = drop_at (x ++ y) z 136 (omega (arith, length-append x y)) in
    ap₂ ◌++◌ (ap₂ ◌++◌ front (ap (map lower) middle)) back

module _ (n : Node) (is : IsEnode n) where
  abbrev rest : Bytes
  rest = (0x40 ∷ dotted (address_of n.endpoint)) ++ (0x3a ∷ ports_text n.endpoint.udp n.endpoint.tcp)

  text-is : enode_text n ≡ scheme ++ hex n.key ++ rest
  unfolding enode_text
  text-is = append_assoc (scheme ++ hex n.key) (0x40 ∷ dotted (address_of n.endpoint)) (0x3a ∷ ports_text n.endpoint.udp n.endpoint.tcp)

  text-shown : All Shown (enode_text n)
  text-shown =
      rw text-is
      (All-append Shown (scheme ++ hex n.key) rest (All-append Shown scheme (hex n.key) (word_shown scheme refl) (hex_shown n.key is.key_bytes).0) (
        (omega arith, omega arith),
        All-append Shown (dotted (address_of n.endpoint)) (0x3a ∷ ports_text n.endpoint.udp n.endpoint.tcp) (dotted_shown (address_of n.endpoint))
            ((omega arith, omega arith), ports_shown n.endpoint.udp n.endpoint.tcp),
      ))

  pub text-line : OneLine (enode_text n)
  text-line = All-imp Shown (λ b. eqb b 0x0a ≡ false) (λ b h. ne_eqb b 0x0a (λ e. omega (arith, h.0))) (enode_text n) text-shown

  pub text-lowered : lowered (enode_text n) ≡ enode_text n
  text-lowered =
      ap lowered text-is
      ∙ lowered_of scheme (hex n.key) rest refl (omega (arith, length-hex n.key, is.key))
      ∙ ap (λ (s : Bytes). scheme ++ s ++ rest) (hex_shown n.key is.key_bytes).1
      ∙ sym text-is
