-- What the functions over a payload's items make of them.
use Prim.Native.Nat.{ℕ}
use mathlib.Core.Path.{◌≡◌, ap, ◌∙◌}
use lib.ListN.{length, replicate}
use Rattle.octets.specs.Octets.{Bytes, store}
use Rattle.packet_span.specs.Parts.{bytes_of}
use Rattle.packet_span.specs.declared.Span.{Span}
use Rattle.packet_fields.specs.Spans.{span_of, port_item, fitting, padded, node_of}
use Rattle.packet_fields.proofs.Spans.{payload-read}

-- the node of a payload
pub node_is : (p : Bytes) (span₀ span₃ : Span) (b₀ b₃ key address : Bytes) (len udp tcp : ℕ) → span₀ ≡ span_of 0 p → b₀ ≡ bytes_of p span₀ → span₃ ≡ span_of 3 p → b₃ ≡ bytes_of p span₃
    → key ≡ store (replicate 64 0) 0 (fitting 64 b₃) → address ≡ store (replicate 16 0) 0 (fitting 16 b₀) → len ≡ length (fitting 16 b₀) → udp ≡ port_item 1 p → tcp ≡ port_item 2 p
    → record { key = key; endpoint = record { len = len; address = address; udp = udp; tcp = tcp } } ≡ node_of p
unfolding node_of padded
node_is p span₀ span₃ b₀ b₃ key address len udp tcp s₀ e₀ s₃ e₃ k a l u t =
    let r₀ = payload-read 0 p span₀ b₀ s₀ e₀ in
    let r₃ = payload-read 3 p span₃ b₃ s₃ e₃ in
    let pk = k ∙ ap (λ (b : Bytes). store (replicate 64 0) 0 (fitting 64 b)) r₃ in
    let pa = a ∙ ap (λ (b : Bytes). store (replicate 16 0) 0 (fitting 16 b)) r₀ in
    let pl = l ∙ ap (λ (b : Bytes). length (fitting 16 b)) r₀ in
    λ i. record { key = pk i; endpoint = record { len = pl i; address = pa i; udp = u i; tcp = t i } }
