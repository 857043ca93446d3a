-- The parts of an enode line one after the other, and their sizes. Assumes nothing.
use Prim.Native.Nat.{ℕ, ◌+◌}
use mathlib.Core.Path.{◌≡◌, refl, sym, ap, ◌∙◌}
use mathlib.Core.Bool.{true}
use mathlib.Core.List.{[], ◌∷◌, ◌++◌, append_assoc, append-nil}
use native.Mathlib.Omega.{arith}
use borrow.Author.Tests.{eq-eqb, ne_eqb, eqb-true}
use lib.ListN.{length, take, get_or, length-append}
use Rattle.octets.specs.Octets.{Bytes}
use Rattle.octets.proofs.Progress.{concat}
use Rattle.text.specs.Decimals.{decimal}
use Rattle.text.specs.Hex.{hex}
use Rattle.text.proofs.Hex.{length-hex}
use Rattle.node.specs.declared.Node.{Node}
use Rattle.enode.specs.Text.{scheme, discport, dotted, ports_text, enode_text, can_enode, enode_line}
use Rattle.enode_write.specs.Steps.{key_text, address_text, discport_text, ports_end}

-- ---- the address

first_four : (s : Bytes) → length s ≡ 16 → take 4 s ≡ get_or s 0 0 ∷ get_or s 1 0 ∷ get_or s 2 0 ∷ get_or s 3 0 ∷ []
first_four [] h = absurd (omega (arith, h))
first_four (a ∷ []) h = absurd (omega (arith, h))
first_four (a ∷ b ∷ []) h = absurd (omega (arith, h))
first_four (a ∷ b ∷ c ∷ []) h = absurd (omega (arith, h))
first_four (a ∷ b ∷ c ∷ d ∷ s) h = refl

pub address_is : (s : Bytes) → length s ≡ 16
    → concat ((0x40 ∷ decimal (get_or s 0 0)) ∷ (0x2e ∷ decimal (get_or s 1 0)) ∷ (0x2e ∷ decimal (get_or s 2 0)) ∷ (0x2e ∷ decimal (get_or s 3 0)) ∷ [])
    ≡ address_text s
unfolding address_text
address_is s h =
    let a = decimal (get_or s 0 0) in
    let b = decimal (get_or s 1 0) in
    let c = decimal (get_or s 2 0) in
    let d = decimal (get_or s 3 0) in
    ap (λ (t : Bytes). 0x40 ∷ (a ++ (0x2e ∷ (b ++ (0x2e ∷ (c ++ (0x2e ∷ t))))))) (append-nil d)
    ∙ ap (λ (t : Bytes). 0x40 ∷ dotted t) (sym (first_four s h))

pub address_length : (s : Bytes) → length s ≡ 16
    → length (address_text s) ≡ 4 + length (decimal (get_or s 0 0)) + length (decimal (get_or s 1 0)) + length (decimal (get_or s 2 0)) + length (decimal (get_or s 3 0))
address_length s h =
    let a = decimal (get_or s 0 0) in
    let b = decimal (get_or s 1 0) in
    let c = decimal (get_or s 2 0) in
    let d = decimal (get_or s 3 0) in
    let e = ap length (address_is s h) in
    omega (
      arith,
      e,
      length-append a (0x2e ∷ (b ++ (0x2e ∷ (c ++ (0x2e ∷ (d ++ [])))))),
      length-append b (0x2e ∷ (c ++ (0x2e ∷ (d ++ [])))),
      length-append c (0x2e ∷ (d ++ [])),
      length-append d [],
    )

-- ---- the ports

pub discport_none : (udp tcp : ℕ) → udp ≡ tcp → discport_text udp tcp ≡ []
unfolding discport_text
discport_none udp tcp e = rw (eq-eqb udp tcp e) refl

pub discport_some : (udp tcp : ℕ) → (udp ≡ tcp → ⊥) → concat (discport ∷ decimal udp ∷ []) ≡ discport_text udp tcp
unfolding discport_text
discport_some udp tcp e = rw (ne_eqb udp tcp e) (ap (λ (t : Bytes). discport ++ t) (append-nil (decimal udp)))

pub ports_is : (udp tcp : ℕ) → concat ((0x3a ∷ decimal tcp) ∷ discport_text udp tcp ∷ (0x0a ∷ []) ∷ []) ≡ ports_end udp tcp
unfolding ports_text discport_text
ports_is udp tcp = ap (λ (t : Bytes). 0x3a ∷ t) (sym (append_assoc (decimal tcp) (discport_text udp tcp) (0x0a ∷ [])))

pub ports_length : (udp tcp : ℕ) → length (ports_end udp tcp) ≡ 2 + length (decimal tcp) + length (discport_text udp tcp)
ports_length udp tcp =
    let d = discport_text udp tcp in
    let e = ap length (ports_is udp tcp) in
    omega (arith, e, length-append (decimal tcp) (d ++ (0x0a ∷ [])), length-append d (0x0a ∷ []))

pub discport-length : (udp tcp : ℕ) → (udp ≡ tcp → ⊥) → length (discport_text udp tcp) ≡ 10 + length (decimal udp)
discport-length udp tcp h =
    let e = ap length (discport_some udp tcp h) in
    omega (arith, e, length-append discport (decimal udp ++ []), length-append (decimal udp) [])

-- ---- the line

-- two strings and then two that go together
joined : (k a p z : Bytes) → concat (k ∷ a ∷ (p ++ z) ∷ []) ≡ k ++ a ++ p ++ z
joined k a p z =
    ap (λ (t : Bytes). k ++ (a ++ t)) (append-nil (p ++ z))
    ∙ sym (append_assoc k a (p ++ z))
    ∙ sym (append_assoc (k ++ a) p z)

pub line_is : (n : Node) → can_enode n ≡ true
    → concat (key_text n.key ∷ address_text n.endpoint.address ∷ ports_end n.endpoint.udp n.endpoint.tcp ∷ []) ≡ enode_line n
unfolding address_text enode_text
line_is n ok =
    let e : n.endpoint.len ≡ 4 = eqb-true n.endpoint.len 4 ok in
    let p : Bytes = 0x3a ∷ ports_text n.endpoint.udp n.endpoint.tcp in
    joined (key_text n.key) (0x40 ∷ dotted (take 4 n.endpoint.address)) p (0x0a ∷ [])
    ∙ ap (λ (i : ℕ). key_text n.key ++ (0x40 ∷ dotted (take i n.endpoint.address)) ++ p ++ (0x0a ∷ [])) (sym e)

pub line_length : (n : Node) → can_enode n ≡ true → length n.key ≡ 64
    → length (enode_line n) ≡ 136 + length (address_text n.endpoint.address) + length (ports_end n.endpoint.udp n.endpoint.tcp)
line_length n ok h =
    let a = address_text n.endpoint.address in
    let p = ports_end n.endpoint.udp n.endpoint.tcp in
    let e = ap length (line_is n ok) in
    omega (
      arith,
      e,
      length-append (key_text n.key) (a ++ (p ++ [])),
      length-append scheme (hex n.key),
      length-hex n.key,
      h,
      length-append a (p ++ []),
      length-append p [],
    )
