-- No rule changes the endpoint of a held node: a packet that comes from elsewhere moves nothing.
use Prim.Native.Nat.{ℕ, ◌+◌}
use mathlib.Core.Path.{◌≡◌, refl, ap, ap₂, sym, ◌∙◌}
use mathlib.Core.Bool.{false}
use mathlib.Core.List.{List, [], ◌∷◌, ◌++◌, map, append-nil}
use Rattle.octets.specs.Octets.{Bytes, same_bytes}
use Rattle.octets.proofs.Laws.{same_eq}
use Rattle.lists.specs.Lists.{empty}
use Rattle.lists.proofs.Laws.{by_test}
use Rattle.node.specs.declared.Endpoint.{Endpoint}
use Rattle.entry.specs.declared.Entry.{Entry}
use Rattle.bucket_model.specs.Contents.{Contents}
use Rattle.bucket_model.specs.Rules.{of_key, held, takes_entry, pinged, ponged, heard, on_ping_sent, on_pong, on_heard}
use Rattle.bucket_model.proofs.View.{SameAs, Mapped, other_ping_sent, other-heard, other-pong, own-heard, own-pong-stays, own-pong-takes, own-pinged}

-- the endpoint at which X is held, if it is
abbrev pub endpoints_of : Bytes → Contents → List Endpoint
endpoints_of X b = map (λ p. p.endpoint) (held X b)

map_same : (f : Entry → Entry) → ((p : Entry) → (f p).endpoint ≡ p.endpoint) → (l : List Entry)
    → map (λ p. p.endpoint) (map f l) ≡ map (λ p. p.endpoint) l
map_same f h [] = refl
map_same f h (p ∷ l) = ap₂ ◌∷◌ (h p) (map_same f h l)

map-append : (l m : List Entry) → map (λ p. p.endpoint) (l ++ m) ≡ map (λ p. p.endpoint) l ++ map (λ p. p.endpoint) m
map-append [] m = refl
map-append (p ∷ l) m = ap (λ t. p.endpoint ∷ t) (map-append l m)

pub same_endpoints : (X : Bytes) (b c : Contents) → SameAs X b c → endpoints_of X c ≡ endpoints_of X b
same_endpoints X b c h = rw (h.entries, h.replacements)

module _ (now : ℕ) (key : Bytes) (b : Contents) where
  mapped-endpoints : (f : Entry → Entry) → ((p : Entry) → (f p).endpoint ≡ p.endpoint) → (c : Contents) → Mapped now key b f c
      → endpoints_of key c ≡ endpoints_of key b
  mapped-endpoints f h c m =
      rw (m.entries, m.replacements)
      (map-append (map f (of_key key b.entries)) (map f (of_key key b.replacements))
      ∙ ap₂ ◌++◌ (map_same f h (of_key key b.entries)) (map_same f h (of_key key b.replacements))
      ∙ sym (map-append (of_key key b.entries) (of_key key b.replacements)))

  pub endpoint-heard : (X : Bytes) → endpoints_of X (on_heard now key b) ≡ endpoints_of X b
  endpoint-heard X =
      by_test (same_bytes X key)
      (λ g. rw (same_eq X key g) (mapped-endpoints (heard now) (λ p. refl) (on_heard now key b) (own-heard now key b)))
      (λ g. same_endpoints X b (on_heard now key b) (other-heard X key g now b))

  own-pong : endpoints_of key (on_pong now key b) ≡ endpoints_of key b
  own-pong =
      by_test (takes_entry key b)
      (λ t.
      let is = own-pong-takes now key b t in
      rw (is.entries, is.replacements, append-nil)
      (map-append (map (ponged now) (of_key key b.entries)) (map (ponged now) (of_key key b.replacements))
      ∙ ap₂ ◌++◌ (map_same (ponged now) (λ p. refl) (of_key key b.entries)) (map_same (ponged now) (λ p. refl) (of_key key b.replacements))
      ∙ sym (map-append (of_key key b.entries) (of_key key b.replacements))))
      (λ t. mapped-endpoints (ponged now) (λ p. refl) (on_pong now key b) (own-pong-stays now key b t))

  pub endpoint-pong : (X : Bytes) → endpoints_of X (on_pong now key b) ≡ endpoints_of X b
  endpoint-pong X =
      by_test (same_bytes X key)
      (λ g. rw (same_eq X key g) own-pong)
      (λ g. same_endpoints X b (on_pong now key b) (other-pong X key g now b))

  pub endpoint_ping_sent : (address : Bytes) (udp tcp : ℕ) (hash : Bytes) → empty (held key b) ≡ false
      → (X : Bytes) → endpoints_of X (on_ping_sent now key address udp tcp hash b) ≡ endpoints_of X b
  endpoint_ping_sent address udp tcp hash old X =
      by_test (same_bytes X key)
      (λ g. rw (same_eq X key g)
      (mapped-endpoints (pinged now hash) (λ p. refl) (on_ping_sent now key address udp tcp hash b) (own-pinged now key b address udp tcp hash old)))
      (λ g. same_endpoints X b (on_ping_sent now key address udp tcp hash b) (other_ping_sent X key g now b address udp tcp hash))
