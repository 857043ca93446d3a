-- Laws behind the tests of an entry and its changes. Assumes nothing.
use mathlib.Core.Path.{◌≡◌, sym, ap, ◌∙◌}
use mathlib.Core.Bool.{Bool, ◌&&◌}
use mathlib.Core.List.{◌++◌}
use Prim.Native.Nat.{ℕ, zero, suc, ◌-◌, ◌≤◌}
use native.Mathlib.Nat.{zero-add}
use native.Mathlib.Omega.{arith}
use lib.ListN.{length, drop, replicate}
use lib.Seq.{take_all}
use Rattle.octets.specs.Octets.{Bytes, part, store, same_bytes}
use Rattle.octets.proofs.Laws.{store-eq, part_all}
use Rattle.entry.specs.declared.Entry.{Entry}
use Rattle.node.specs.declared.Endpoint.{Endpoint}
use Rattle.node.specs.declared.MonotonicMillis.{MonotonicMillis}
use Rattle.entry.specs.declared.EndpointProof.TheVariants.{Unproved}
use Rattle.entry.specs.declared.PingState.TheVariants.{Out}
use Rattle.node.specs.Nodes.{address_of}
use Rattle.bucket_model.specs.Rules.{pinged, endpoint_of, new_entry}

-- a compound test, of tests that are known
pub joined : {r a b x y : Bool} → r ≡ (a && b) → a ≡ x → b ≡ y → r ≡ (x && y)
joined e p q = cc

-- the whole of a string was copied
copied : {d s : Bytes} (n : ℕ) → d ≡ part s 0 n → length s ≡ n → d ≡ s
copied {d} {s} n e l = e ∙ part_all s n (omega arith)

drop_zeros : (n k : ℕ) → drop {A = ℕ} n (replicate k 0) ≡ replicate (k - n) 0
drop_zeros zero k = let e : k ≡ k - 0 = omega arith in ap (λ n. replicate n 0) e
drop_zeros (suc n) zero = let e : 0 ≡ 0 - suc n = omega arith in ap (λ k. replicate k 0) e
drop_zeros (suc n) (suc k) = let e : k - n ≡ suc k - suc n = omega arith in drop_zeros n k ∙ ap (λ m. replicate m 0) e

-- a whole address that is shorter, or not
pub whole_address : (e : Endpoint) (a : Bytes) {r : Bool} → length e.address ≡ 16 → 16 ≤ e.len → r ≡ same_bytes a e.address → r ≡ same_bytes a (address_of e)
whole_address e a l h is = is ∙ ap (λ s. same_bytes a s) (sym (take_all e.len e.address (omega arith)))

pub endpoint_made : (address : Bytes) (udp tcp : ℕ) {s : Bytes} → length address ≤ 16 → s ≡ store (replicate 16 0) 0 address
    → record { len = length address; address = s; udp = udp; tcp = tcp } ≡ endpoint_of address udp tcp
endpoint_made address udp tcp h e =
    let padded : store (replicate 16 0) 0 address ≡ address ++ replicate (16 - length address) 0 =
    store-eq address (replicate 16 0) 0 (omega arith) ∙ ap (λ s. address ++ s) (rw zero-add (drop_zeros (length address) 16)) in
    ap (λ s. record { len = length address; address = s; udp = udp; tcp = tcp }) (e ∙ padded)

pub pinged_made : (e : Entry) (hash : Bytes) (clock : MonotonicMillis) {sent : Bytes} → length hash ≡ 32 → sent ≡ part hash 0 32
    → record { key = e.key; endpoint = e.endpoint; seen = e.seen; proof = e.proof; ping = Out clock; hash = sent } ≡ pinged clock.0 hash e
pinged_made e hash clock l is =
    ap (λ s. record { key = e.key; endpoint = e.endpoint; seen = e.seen; proof = e.proof; ping = Out clock; hash = s }) (copied 32 is l)

pub entry_made : (key address hash : Bytes) (udp tcp : ℕ) (clock : MonotonicMillis) {k s : Bytes} {e : Endpoint} → length key ≡ 64 → length hash ≡ 32
    → k ≡ part key 0 64 → s ≡ part hash 0 32 → e ≡ endpoint_of address udp tcp
    → record { key = k; endpoint = e; seen = record { 0 = 0 }; proof = Unproved; ping = Out clock; hash = s } ≡ new_entry clock.0 key address udp tcp hash
entry_made key address hash udp tcp clock lk lh ek es ee =
    let a : _ ≡ key = copied 64 ek lk in
    let b : _ ≡ hash = copied 32 es lh in
    cc
