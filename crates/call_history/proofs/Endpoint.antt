-- A held node stays at its endpoint: no packet, not even its own replayed from elsewhere, no ping and no sweep moves it. So a ping to
-- where a packet came from is refused (16), and cannot have the node removed.
use Prim.Native.Nat.{◌≤◌}
use mathlib.Core.Path.{◌≡◌, refl, ap, ◌∙◌}
use mathlib.Core.Bool.{false}
use mathlib.Core.List.{List, [], ◌∷◌, map}
use native.Mathlib.Omega.{arith}
use lib.ListN.{length, length-append}
use Rattle.octets.specs.Octets.{Bytes, same_bytes}
use Rattle.octets.proofs.Laws.{same_eq}
use Rattle.lists.specs.Lists.{empty, All}
use Rattle.lists.proofs.Laws.{by_test, All-append, All-left, All-right}
use Rattle.node.specs.declared.Endpoint.{Endpoint}
use Rattle.entry.specs.declared.Entry.{Entry}
use Rattle.bucket_model.specs.Contents.{Contents}
use Rattle.bucket_model.specs.Rules.{of_key, held, on_sweep}
use Rattle.bucket_model.proofs.Endpoint.{endpoints_of, same_endpoints, endpoint-heard, endpoint-pong, endpoint_ping_sent}
use Rattle.call_history.specs.Model.{Env, Call, datagram, ping_sent, sweep, closest, unclocked, Table, slot, bucket_of, next, Run}
use Rattle.call_history.specs.Demand3.{KeepsEndpoint}
use Rattle.call_history.proofs.Step.{by_datagram, by_answer, swept_bucket}
use Rattle.call_history.proofs.Sound.{TableSound}
use Rattle.call_history.proofs.View as View
use Rattle.call_history.proofs.Log.{both_sweep}

-- one endpoint stands in the list
all_at : (x : Endpoint) (l : List Entry) → map (λ p. p.endpoint) l ≡ x ∷ [] → All (λ p. p.endpoint ≡ x) l
all_at x [] h = tt
all_at x (p ∷ []) h = (cc, tt)
all_at x (p ∷ q ∷ l) h = absurd (omega (arith, ap length h))

-- X is held once, as p
module _ (e : Env) (s : Table) (ok : TableSound e s) (X : Bytes) (p : Entry) (is : held X (bucket_of e s X) ≡ p ∷ []) where
  -- where X is held, it is at p's endpoint
  abbrev Unmoved : Contents → Type 0
  Unmoved b = All (λ q. q.endpoint ≡ p.endpoint) (held X b)

  unmoved : (b : Contents) → endpoints_of X b ≡ endpoints_of X (bucket_of e s X) → Unmoved b
  unmoved b h = all_at p.endpoint (held X b) (h ∙ ap (map (λ q. q.endpoint)) is)

  still : Unmoved (bucket_of e s X)
  still = unmoved (bucket_of e s X) refl

  endpoint-kept : (c : Call) → Unmoved (bucket_of e (next e s c) X)
  endpoint-kept (datagram now unix address udp key bytes) =
      unmoved (bucket_of e (next e s (datagram now unix address udp key bytes)) X)
      (by_test (same_bytes X key)
      (λ h.
      let b = bucket_of e s key in
      rw (same_eq X key h)
      (View.own-datagram e s ok.sized (λ c. endpoints_of key c ≡ endpoints_of key b) now unix address udp key bytes
      (λ _. by_datagram (λ c. endpoints_of key c ≡ endpoints_of key b) now address udp key (e.read bytes unix) b
      (λ _. refl) (λ _. endpoint-heard now key b key) (λ _. endpoint-pong now key b key))
      (λ _. refl)))
      (λ h. same_endpoints X (bucket_of e s X) _ (View.other-datagram e s ok.sized X key h now unix address udp bytes)))
  endpoint-kept (ping_sent now key address udp tcp hash) =
      unmoved (bucket_of e (next e s (ping_sent now key address udp tcp hash)) X)
      (by_test (same_bytes X key)
      (λ h.
      let b = bucket_of e s key in
      let old : empty (held key b) ≡ false = rw (same_eq X key h) at (ap empty is) in
      rw (same_eq X key h)
      (View.own_ping_sent e s ok.sized (λ c. endpoints_of key c ≡ endpoints_of key b) now key address udp tcp hash
      (λ _. endpoint_ping_sent now key b address udp tcp hash old key)
      (λ _. refl)))
      (λ h. same_endpoints X (bucket_of e s X) _ (View.other_ping_sent e s ok.sized X key h now address udp tcp hash)))
  endpoint-kept (sweep now) =
      let b = bucket_of e s X in
      by_answer e (λ s'. Unmoved (bucket_of e s' X)) s (sweep now)
      (λ _.
      let At : Entry → Type 0 = λ q. q.endpoint ≡ p.endpoint in
      let es = of_key X b.entries in
      let rs = of_key X b.replacements in
      let after = both_sweep At X now b (All-left At es rs still, All-right At es rs still) in
      rw (swept_bucket e s now (slot e X))
      (All-append At (of_key X (on_sweep now b).entries) (of_key X (on_sweep now b).replacements) after.0 after.1))
      (λ _. still)
  endpoint-kept (closest target room) = by_answer e (λ s'. Unmoved (bucket_of e s' X)) s (closest target room) (λ _. still) (λ _. still)
  endpoint-kept (unclocked c) = still

pub keeps_endpoint : (e : Env) (r : Run e) → TableSound e r.table → (c : Call) → KeepsEndpoint e r c
keeps_endpoint e r ok c X =
    go (held X (bucket_of e r.table X)) refl (simp length-append ((ok.each (slot e X)).once X))
  where
    go : (l : List Entry) → held X (bucket_of e r.table X) ≡ l → length l ≤ 1
        → All (λ p. All (λ q. q.endpoint ≡ p.endpoint) (held X (bucket_of e (next e r.table c) X))) l
    go [] is h = tt
    go (p ∷ []) is h = (endpoint-kept e r.table ok X p is c, tt)
    go (p ∷ q ∷ l) is h = absurd (omega arith)
