-- Laws of an entry's byte form. Assumes nothing.
use mathlib.Core.Path.{◌≡◌, refl, sym, ap, ◌∙◌}
use mathlib.Core.Bool.{Bool, true, false}
use mathlib.Core.List.{List, [], ◌∷◌, ◌++◌, append_assoc, append-nil}
use Prim.Native.Nat.{ℕ, suc, ◌+◌, ◌^◌, ◌≤◌, ◌<◌}
use native.Mathlib.Nat.{add-zero, add_assoc}
use native.Mathlib.Omega.{arith}
use lib.Dec.{eqb}
use lib.ListN.{length, get_or, set, length-append}
use Rattle.octets.specs.Octets.{part, store, number, big_endian}
use Rattle.octets.proofs.Laws.{store-append, length-big_endian, number-big_endian, part-part, part_middle, get_d_part}
use Rattle.entry.specs.declared.Entry.{Entry}
use Rattle.node.specs.declared.Endpoint.{Endpoint}
use Rattle.entry.specs.declared.Stamp.{Stamp}
use Rattle.entry.specs.declared.EndpointProof.{EndpointProof}
use Rattle.entry.specs.declared.EndpointProof.TheVariants.{Unproved, At}
use Rattle.entry.specs.declared.PingState.{PingState}
use Rattle.entry.specs.declared.PingState.TheVariants.{Quiet, Out}
use Rattle.entry.specs.Layout.{encode_entry, decode_entry, encode_endpoint, decode_endpoint, encode_stamp, decode_stamp, proof_stamp, proof_of, ping_stamp, ping_of}
pub use Rattle.entry.specs.Values.{ProofFits, PingFits, IsEntry}

-- ---- lengths

pub length-encode_stamp : (s : Stamp) → length (encode_stamp s) ≡ 9
unfolding encode_stamp
length-encode_stamp s = ap suc (length-big_endian 8 s.time)

pub length-encode_endpoint : (e : Endpoint) → length e.address ≡ 16 → length (encode_endpoint e) ≡ 21
unfolding encode_endpoint
length-encode_endpoint e h = simp (length-append, length-big_endian, h)

pub length-encode_entry : (p : Entry) → length p.key ≡ 64 → length p.endpoint.address ≡ 16 → length p.hash ≡ 32 → length (encode_entry p) ≡ 143
unfolding encode_entry
length-encode_entry p k a h =
    simp (length-append, length-big_endian, length-encode_stamp (proof_stamp p.proof), length-encode_stamp (ping_stamp p.ping), length-encode_endpoint p.endpoint a, k, h)

-- ---- stored piece by piece

pub store-endpoint : (s : List ℕ) (at : ℕ) (e : Endpoint) → length e.address ≡ 16
    → store s at (encode_endpoint e)
    ≡ store (store (store (set s at e.len) (at + 1) e.address) (at + 17) (big_endian 2 e.udp)) (at + 19) (big_endian 2 e.tcp)
unfolding encode_endpoint
store-endpoint s at e h = simp (store-append, length-append, length-big_endian, h)

pub store-stamp : (s : List ℕ) (at : ℕ) (t : Stamp)
    → store s at (encode_stamp t) ≡ store (store s at (t.flag ∷ [])) (at + 1) (big_endian 8 t.time)
unfolding encode_stamp
store-stamp s at t = store-append (t.flag ∷ []) (big_endian 8 t.time) s at

pub store_entry : (s : List ℕ) (at : ℕ) (p : Entry) → length p.key ≡ 64 → length p.endpoint.address ≡ 16
    → store s at (encode_entry p)
    ≡ store
    (store
    (store
    (store (store (store s at p.key) (at + 64) (encode_endpoint p.endpoint)) (at + 85) (big_endian 8 p.seen.0))
    (at + 93) (encode_stamp (proof_stamp p.proof)))
    (at + 102) (encode_stamp (ping_stamp p.ping)))
    (at + 111) p.hash
unfolding encode_entry
store_entry s at p k a =
    simp (store-append, length-append, length-big_endian, length-encode_stamp, length-encode_endpoint p.endpoint a, k)

-- the six calls of `store_entry`, one after the other
pub stored_entry : (s : List ℕ) (at : ℕ) (p : Entry) → length p.key ≡ 64 → length p.endpoint.address ≡ 16
    → {proof ping : Stamp} {l₁ l₂ l₃ l₄ l₅ l₆ : List ℕ}
    → proof ≡ proof_stamp p.proof
    → ping ≡ ping_stamp p.ping
    → l₁ ≡ store s at p.key
    → l₂ ≡ store l₁ (at + 64) (encode_endpoint p.endpoint)
    → l₃ ≡ store l₂ (at + 85) (big_endian 8 p.seen.0)
    → l₄ ≡ store l₃ (at + 93) (encode_stamp proof)
    → l₅ ≡ store l₄ (at + 102) (encode_stamp ping)
    → l₆ ≡ store l₅ (at + 111) p.hash
    → l₆ ≡ store s at (encode_entry p)
stored_entry s at p k a ep eq e₁ e₂ e₃ e₄ e₅ e₆ = cc (store_entry s at p k a)

-- ---- loaded piece by piece

pub decode-endpoint : (s : List ℕ) (at : ℕ)
    → decode_endpoint (part s at 21)
    ≡ record { len = get_or s at 0; address = part s (at + 1) 16; udp = number (part s (at + 17) 2); tcp = number (part s (at + 19) 2) }
unfolding decode_endpoint
decode-endpoint s at =
    cc (
      get_d_part s at 21 0 (omega arith),
      add-zero at,
      part-part s at 21 1 16 (omega arith),
      part-part s at 21 17 2 (omega arith),
      part-part s at 21 19 2 (omega arith),
    )

pub decode-stamp : (s : List ℕ) (at : ℕ) → decode_stamp (part s at 9) ≡ record { flag = get_or s at 0; time = number (part s (at + 1) 8) }
unfolding decode_stamp
decode-stamp s at = cc (get_d_part s at 9 0 (omega arith), add-zero at, part-part s at 9 1 8 (omega arith))

pub decode-entry : (s : List ℕ) (at : ℕ)
    → decode_entry (part s at 143)
    ≡ record {
      key = part s at 64;
      endpoint = decode_endpoint (part s (at + 64) 21);
      seen = record { 0 = number (part s (at + 85) 8) };
      proof = proof_of (decode_stamp (part s (at + 93) 9));
      ping = ping_of (decode_stamp (part s (at + 102) 9));
      hash = part s (at + 111) 32;
    }
unfolding decode_entry
decode-entry s at =
    cc (
      add-zero at,
      part-part s at 143 0 64 (omega arith),
      part-part s at 143 64 21 (omega arith),
      part-part s at 143 85 8 (omega arith),
      part-part s at 143 93 9 (omega arith),
      part-part s at 143 102 9 (omega arith),
      part-part s at 143 111 32 (omega arith),
    )

-- the calls of `load_entry`, put together
pub loaded_entry : (s : List ℕ) (at : ℕ) {key hash : List ℕ} {endpoint : Endpoint} {seen : ℕ} {t u : Stamp} {proof : EndpointProof} {ping : PingState}
    → key ≡ part s at 64
    → endpoint ≡ decode_endpoint (part s (at + 64) 21)
    → seen ≡ number (part s (at + 85) 8)
    → t ≡ decode_stamp (part s (at + 93) 9)
    → proof ≡ proof_of t
    → u ≡ decode_stamp (part s (at + 102) 9)
    → ping ≡ ping_of u
    → hash ≡ part s (at + 111) 32
    → record { key = key; endpoint = endpoint; seen = record { 0 = seen }; proof = proof; ping = ping; hash = hash } ≡ decode_entry (part s at 143)
loaded_entry s at e₁ e₂ e₃ e₄ e₅ e₆ e₇ e₈ = cc (decode-entry s at)

-- ---- an entry is read back from its bytes

pub decode_encode_endpoint : (e : Endpoint) → length e.address ≡ 16 → e.udp < 2 ^ 16 → e.tcp < 2 ^ 16 → decode_endpoint (encode_endpoint e) ≡ e
unfolding decode_endpoint encode_endpoint
decode_encode_endpoint e a u t =
    let s : List ℕ = encode_endpoint e in
    let l : List ℕ = e.len ∷ [] in
    let bu : List ℕ = big_endian 2 e.udp in
    let bt : List ℕ = big_endian 2 e.tcp in
    let address : part s 1 16 ≡ e.address = part_middle s l e.address (bu ++ bt) 1 16 (simp append_assoc) refl a in
    let udp : part s 17 2 ≡ bu = part_middle s (l ++ e.address) bu bt 17 2 refl (simp (length-append, a)) (length-big_endian 2 e.udp) in
    let tcp : part s 19 2 ≡ bt =
    part_middle s (l ++ e.address ++ bu) bt [] 19 2 (simp append-nil) (simp (length-append, a, length-big_endian)) (length-big_endian 2 e.tcp) in
    let fields : decode_endpoint s ≡ record { len = e.len; address = e.address; udp = e.udp; tcp = e.tcp } =
    cc (number-big_endian 2 e.udp u, number-big_endian 2 e.tcp t) in
    fields

decode_encode_stamp : (s : Stamp) → s.time < 2 ^ 64 → decode_stamp (encode_stamp s) ≡ record { flag = s.flag; time = s.time }
unfolding decode_stamp encode_stamp
decode_encode_stamp s h =
    let time : part (encode_stamp s) 1 8 ≡ big_endian 8 s.time =
    part_middle _ (s.flag ∷ []) (big_endian 8 s.time) [] 1 8 (simp append-nil) refl (length-big_endian 8 s.time) in
    ap (λ (n : ℕ). record { flag = s.flag; time = n }) (ap number time ∙ number-big_endian 8 s.time h)

decode_encode_proof : (p : EndpointProof) → ProofFits p → proof_of (decode_stamp (encode_stamp (proof_stamp p))) ≡ p
decode_encode_proof Unproved h = ap proof_of (decode_encode_stamp (proof_stamp Unproved) (omega arith))
decode_encode_proof (At t) h = ap proof_of (decode_encode_stamp (proof_stamp (At t)) h)

decode_encode_ping : (p : PingState) → PingFits p → ping_of (decode_stamp (encode_stamp (ping_stamp p))) ≡ p
decode_encode_ping Quiet h = ap ping_of (decode_encode_stamp (ping_stamp Quiet) (omega arith))
decode_encode_ping (Out t) h = ap ping_of (decode_encode_stamp (ping_stamp (Out t)) h)

pub decode_encode : (p : Entry) → IsEntry p → decode_entry (encode_entry p) ≡ p
unfolding decode_entry encode_entry
decode_encode p h =
    let s : List ℕ = encode_entry p in
    let e : List ℕ = encode_endpoint p.endpoint in
    let t : List ℕ = big_endian 8 p.seen.0 in
    let pr : List ℕ = encode_stamp (proof_stamp p.proof) in
    let pi : List ℕ = encode_stamp (ping_stamp p.ping) in
    let le : length e ≡ 21 = length-encode_endpoint p.endpoint h.address in
    let lt : length t ≡ 8 = length-big_endian 8 p.seen.0 in
    let lpr : length pr ≡ 9 = length-encode_stamp (proof_stamp p.proof) in
    let lpi : length pi ≡ 9 = length-encode_stamp (ping_stamp p.ping) in
    let key : part s 0 64 ≡ p.key = part_middle s [] p.key (e ++ t ++ pr ++ pi ++ p.hash) 0 64 (simp append_assoc) refl h.key in
    let endpoint : part s 64 21 ≡ e = part_middle s p.key e (t ++ pr ++ pi ++ p.hash) 64 21 (simp append_assoc) h.key le in
    let seen : part s 85 8 ≡ t = part_middle s (p.key ++ e) t (pr ++ pi ++ p.hash) 85 8 (simp append_assoc) (simp (length-append, h.key, le)) lt in
    let proof : part s 93 9 ≡ pr = part_middle s (p.key ++ e ++ t) pr (pi ++ p.hash) 93 9 (simp append_assoc) (simp (length-append, h.key, le, lt)) lpr in
    let ping : part s 102 9 ≡ pi =
    part_middle s (p.key ++ e ++ t ++ pr) pi p.hash 102 9 refl (simp (length-append, h.key, le, lt, lpr)) lpi in
    let hash : part s 111 32 ≡ p.hash =
    part_middle s (p.key ++ e ++ t ++ pr ++ pi) p.hash [] 111 32 (simp append-nil) (simp (length-append, h.key, le, lt, lpr, lpi)) h.hash in
    let fields : decode_entry s
    ≡ record { key = p.key; endpoint = p.endpoint; seen = record { 0 = p.seen.0 }; proof = p.proof; ping = p.ping; hash = p.hash } =
    cc (
      decode_encode_endpoint p.endpoint h.address h.udp h.tcp,
      number-big_endian 8 p.seen.0 h.seen,
      decode_encode_proof p.proof h.proof,
      decode_encode_ping p.ping h.ping,
    ) in
    fields

-- two entries with the same bytes are the same entry
pub encode_injective : (p q : Entry) → IsEntry p → IsEntry q → encode_entry p ≡ encode_entry q → p ≡ q
encode_injective p q hp hq e = sym (decode_encode p hp) ∙ ap decode_entry e ∙ decode_encode q hq
