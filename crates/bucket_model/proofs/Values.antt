-- The values that a bucket can hold: each rule keeps them, and those of a sound bucket have a byte form, whose test is passed.
use Prim.Native.Nat.{ℕ, ◌<◌, ◌^◌}
use mathlib.Core.Path.{◌≡◌, refl, ap, ◌∙◌}
use mathlib.Core.Logic.{◌⊎◌, ⊎_elim}
use mathlib.Core.Bool.{Bool, true}
use native.Mathlib.Omega.{arith}
use lib.ListN.{length, length-append, length-replicate}
use Rattle.octets.specs.Octets.{Bytes, IsBytes}
use Rattle.entry.specs.declared.Entry.{Entry}
use Rattle.entry.specs.Values.{IsEntry}
use Rattle.bucket_model.specs.Contents.{Contents, encode_bucket, decode_bucket}
use Rattle.bucket_model.specs.Rules.{pinged, ponged, heard, new_entry, on_ping_sent, on_pong, on_heard, on_sweep}
use Rattle.bucket_model.specs.Sound.{sound}
use Rattle.bucket_model.specs.Facts.{Every, IsContents, BucketSound}
use Rattle.bucket_model.proofs.ByteForm.{decode_encode_bucket}
use Rattle.bucket_model.proofs.Every.{every_ping_sent, every-pong, every-heard, every-sweep}
use Rattle.bucket_model.proofs.Exact.{sound_has_form, form_is_sound}
use Rattle.bucket_model.proofs.Sound.{IsAddress, rules-sound, sound-rules}

-- ---- each rule keeps them

module _ (now : ℕ) (in-range : now < 2 ^ 64) where
  pinged-value : (hash : Bytes) → length hash ≡ 32 → (p : Entry) → IsEntry p → IsEntry (pinged now hash p)
  pinged-value hash size p v =
      record {
        key = v.key;
        address = v.address;
        hash = size;
        udp = v.udp;
        tcp = v.tcp;
        seen = v.seen;
        proof = v.proof;
        ping = in-range;
      }

  ponged-value : (p : Entry) → IsEntry p → IsEntry (ponged now p)
  ponged-value p v =
      record {
        key = v.key;
        address = v.address;
        hash = v.hash;
        udp = v.udp;
        tcp = v.tcp;
        seen = in-range;
        proof = in-range;
        ping = tt;
      }

  heard-value : (p : Entry) → IsEntry p → IsEntry (heard now p)
  heard-value p v =
      record {
        key = v.key;
        address = v.address;
        hash = v.hash;
        udp = v.udp;
        tcp = v.tcp;
        seen = in-range;
        proof = v.proof;
        ping = v.ping;
      }

  new-value : (key address : Bytes) (udp tcp : ℕ) (hash : Bytes) → length key ≡ 64 → IsAddress address → udp < 2 ^ 16 → tcp < 2 ^ 16
      → length hash ≡ 32 → IsEntry (new_entry now key address udp tcp hash)
  new-value key address udp tcp hash k a u t h =
      record {
        key = k;
        address =
            simp (length-append, length-replicate)
            (⊎_elim (λ four. omega arith) (λ sixteen. omega arith) a);
        hash = h;
        udp = u;
        tcp = t;
        seen = omega arith;
        proof = tt;
        ping = in-range;
      }

  module _ (m : Contents) (values : Every IsEntry m) where
    pub values_ping_sent : (key address : Bytes) (udp tcp : ℕ) (hash : Bytes) → length key ≡ 64 → IsAddress address → udp < 2 ^ 16
        → tcp < 2 ^ 16 → length hash ≡ 32 → Every IsEntry (on_ping_sent now key address udp tcp hash m)
    values_ping_sent key address udp tcp hash k a u t h =
        every_ping_sent IsEntry now m values key address udp tcp hash (λ _. new-value key address udp tcp hash k a u t h) (pinged-value hash h)

    pub values-pong : (key : Bytes) → Every IsEntry (on_pong now key m)
    values-pong key = every-pong IsEntry now m values key ponged-value

    pub values-heard : (key : Bytes) → Every IsEntry (on_heard now key m)
    values-heard key = every-heard IsEntry now m values key heard-value

    pub values-sweep : Every IsEntry (on_sweep now m)
    values-sweep = every-sweep IsEntry now m values

-- ---- a sound bucket and its bytes

module _ (home : Bytes → Bool) (clock : ℕ) where
  pub sound-contents : (m : Contents) → BucketSound home clock m → Every IsEntry m → IsContents m
  sound-contents m s values =
      record { entries = values.0; replacements = values.1; most = s.entries_bound; most_waiting = s.replacements_bound }

  -- the byte form of a sound bucket passes the test
  pub sound-encoded : (m : Contents) → BucketSound home clock m → Every IsEntry m → sound home clock (encode_bucket m) ≡ true
  sound-encoded m s values =
      form_is_sound home clock (encode_bucket m)
      (record { held = m; is = sound-contents m s values; form = refl; keeps = sound-rules home clock m s })

  -- and bytes that pass it hold one
  pub decoded-sound : (s : Bytes) → length s ≡ 2862 → IsBytes s → sound home clock s ≡ true
      → BucketSound home clock (decode_bucket s) × Every IsEntry (decode_bucket s)
  decoded-sound s n bs h =
      let f = sound_has_form home clock s n bs h in
      let back : decode_bucket s ≡ f.held = ap decode_bucket f.form ∙ decode_encode_bucket f.held f.is in
      rw back (rules-sound home clock f.held f.is.most f.is.most_waiting f.keeps, (f.is.entries, f.is.replacements))
