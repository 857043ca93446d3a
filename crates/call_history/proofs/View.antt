-- What another key's datagram or ping does to a node: nothing. And what one node's own call does, from its bucket alone.
use Prim.Native.Nat.{ℕ}
use mathlib.Core.Path.{◌≡◌, refl}
use mathlib.Core.Bool.{true, false}
use borrow.Author.Tests.{eqb-true, eqb-false}
use lib.Dec.{eqb}
use lib.ListN.{length}
use Rattle.octets.specs.Octets.{Bytes, same_bytes}
use Rattle.lists.proofs.Laws.{by_test}
use Rattle.bucket_model.specs.Contents.{Contents}
use Rattle.bucket_model.specs.Rules.{on_ping_sent}
use Rattle.bucket_model.proofs.View as Bucket
use Rattle.bucket_model.proofs.View.{SameAs}
use Rattle.call_history.specs.Model.{Env, datagram, ping_sent, Table, is_kept, slot, bucket_of, Accepted, on_datagram, next}
use Rattle.call_history.proofs.Step.{by_datagram, by_answer, datagram-keyed, ping-allowed, changed, own-bucket, other-bucket}

module _ (e : Env) (s : Table) (sized : length s.buckets ≡ e.kept) where
  module _ (X key : Bytes) (d : same_bytes X key ≡ false) where
    other-changed : (now : ℕ) (f : Contents → Contents) (kept_key : is_kept e key ≡ true) → ((b : Contents) → SameAs X b (f b))
        → SameAs X (bucket_of e s X) (bucket_of e (changed e s sized now key f kept_key) X)
    other-changed now f kept_key fs =
        by_test (eqb (slot e X) (slot e key))
        (λ g. rw (eqb-true (slot e X) (slot e key) g, own-bucket e s sized now key f kept_key) (fs (bucket_of e s key)))
        (λ g. rw (other-bucket e s sized now key f kept_key (slot e X) (eqb-false (slot e X) (slot e key) g))
        (record { entries = refl; replacements = refl }))

    pub other-datagram : (now unix : ℕ) (address : Bytes) (udp : ℕ) (bytes : Bytes)
        → SameAs X (bucket_of e s X) (bucket_of e (next e s (datagram now unix address udp key bytes)) X)
    other-datagram now unix address udp bytes =
        by_answer e (λ s'. SameAs X (bucket_of e s X) (bucket_of e s' X)) s (datagram now unix address udp key bytes)
        (λ a. other-changed now (on_datagram now address udp key (e.read bytes unix))
        (datagram-keyed e s now unix address udp key bytes a).is_kept
        (λ b. by_datagram (SameAs X b) now address udp key (e.read bytes unix) b
        (λ _. record { entries = refl; replacements = refl })
        (λ _. Bucket.other-heard X key d now b)
        (λ _. Bucket.other-pong X key d now b)))
        (λ _. record { entries = refl; replacements = refl })

    pub other_ping_sent : (now : ℕ) (address : Bytes) (udp tcp : ℕ) (hash : Bytes)
        → SameAs X (bucket_of e s X) (bucket_of e (next e s (ping_sent now key address udp tcp hash)) X)
    other_ping_sent now address udp tcp hash =
        by_answer e (λ s'. SameAs X (bucket_of e s X) (bucket_of e s' X)) s (ping_sent now key address udp tcp hash)
        (λ a. other-changed now (on_ping_sent now key address udp tcp hash)
        (ping-allowed e s now key address udp tcp hash a).keyed.is_kept
        (λ b. Bucket.other_ping_sent X key d now b address udp tcp hash))
        (λ _. record { entries = refl; replacements = refl })

  -- the signer's bucket, by what the datagram does to it
  pub own-datagram : (P : Contents → Type 0) (now unix : ℕ) (address : Bytes) (udp : ℕ) (key bytes : Bytes)
      → (Accepted e s (datagram now unix address udp key bytes) → P (on_datagram now address udp key (e.read bytes unix) (bucket_of e s key)))
      → ((Accepted e s (datagram now unix address udp key bytes) → ⊥) → P (bucket_of e s key))
      → P (bucket_of e (next e s (datagram now unix address udp key bytes)) key)
  own-datagram P now unix address udp key bytes f g =
      by_answer e (λ s'. P (bucket_of e s' key)) s (datagram now unix address udp key bytes)
      (λ a. rw (own-bucket e s sized now key (on_datagram now address udp key (e.read bytes unix)) (datagram-keyed e s now unix address udp key bytes a).is_kept) (f a))
      g

  pub own_ping_sent : (P : Contents → Type 0) (now : ℕ) (key address : Bytes) (udp tcp : ℕ) (hash : Bytes)
      → (Accepted e s (ping_sent now key address udp tcp hash) → P (on_ping_sent now key address udp tcp hash (bucket_of e s key)))
      → ((Accepted e s (ping_sent now key address udp tcp hash) → ⊥) → P (bucket_of e s key))
      → P (bucket_of e (next e s (ping_sent now key address udp tcp hash)) key)
  own_ping_sent P now key address udp tcp hash f g =
      by_answer e (λ s'. P (bucket_of e s' key)) s (ping_sent now key address udp tcp hash)
      (λ a. rw (own-bucket e s sized now key (on_ping_sent now key address udp tcp hash) (ping-allowed e s now key address udp tcp hash a).keyed.is_kept) (f a))
      g
