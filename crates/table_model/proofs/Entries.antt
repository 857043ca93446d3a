-- Entries in bytes, read from the last to the first. Assumes nothing.
use mathlib.Core.Path.{◌≡◌, sym, ap, ◌∙◌}
use mathlib.Core.Bool.{Bool, ◌&&◌}
use mathlib.Core.List.{List, [], ◌∷◌}
use Prim.Native.Nat.{ℕ, suc, ◌+◌, ◌-◌, ◌*◌, ◌≤◌, ◌<◌}
use native.Mathlib.Nat.{add-zero}
use native.Mathlib.Omega.{arith}
use lib.ListN.{take, drop}
use Rattle.octets.specs.Octets.{Bytes, part}
use Rattle.octets.proofs.Laws.{part-part}
use Rattle.lists.specs.Lists.{all}
use Rattle.entry.specs.declared.Entry.{Entry}
use Rattle.entry.specs.Layout.{decode_entry}
use Rattle.bucket_model.specs.Contents.{entries_at}

-- the entries of n from index i on
abbrev pub behind : Bytes → ℕ → ℕ → ℕ → List Entry
behind s at n i = entries_at s (at + i * 143) (n - i)

pub behind_none : (s : Bytes) (at n : ℕ) → behind s at n n ≡ []
unfolding entries_at
behind_none s at n =
    let e : n - n ≡ 0 = omega arith in
    ap (λ (k : ℕ). entries_at s (at + n * 143) k) e

pub behind_all : (s : Bytes) (at n : ℕ) → behind s at n 0 ≡ entries_at s at n
behind_all s at n =
    let e : at + 0 * 143 ≡ at = omega arith in
    let f : n - 0 ≡ n = omega arith in
    ap (λ (k : ℕ). entries_at s k (n - 0)) e ∙ ap (λ (k : ℕ). entries_at s at k) f

pub behind_turn : (s : Bytes) (at n i : ℕ) → 0 < i → i ≤ n
    → behind s at n (i - 1) ≡ decode_entry (part s (at + (i - 1) * 143) 143) ∷ behind s at n i
unfolding entries_at
behind_turn s at n i h k =
    let e : n - (i - 1) ≡ suc (n - i) = omega arith in
    let f : at + (i - 1) * 143 + 143 ≡ at + i * 143 = omega arith in
    ap (λ (m : ℕ). entries_at s (at + (i - 1) * 143) m) e
    ∙ ap (λ (m : ℕ). decode_entry (part s (at + (i - 1) * 143) 143) ∷ entries_at s m (n - i)) f

-- an entry's key is its first 64 bytes
pub key_at : (s : Bytes) (from : ℕ) → (decode_entry (part s from 143)).key ≡ part s from 64
unfolding decode_entry
key_at s from = part-part s from 143 0 64 (omega arith) ∙ ap (λ (m : ℕ). part s m 64) (add-zero from)

-- the 64 bytes that a turn looks at
pub key_slice : (s : Bytes) (from : ℕ) → take (from + 64 - from) (drop from s) ≡ part s from 64
unfolding part
key_slice s from =
    let e : from + 64 - from ≡ 64 = omega arith in
    ap (λ (n : ℕ). take n (drop from s)) e

-- a test of one entry more
pub all_turn : (q : Entry → Bool) (s : Bytes) (at n i : ℕ) → 0 < i → i ≤ n → {here before after : Bool}
    → before ≡ all q (behind s at n i)
    → here ≡ q (decode_entry (part s (at + (i - 1) * 143) 143))
    → after ≡ (here && before)
    → after ≡ all q (behind s at n (i - 1))
all_turn q s at n i h k {here} {before} e eh ea =
    ea
    ∙ ap (λ b. b && before) eh
    ∙ ap (λ b. q (decode_entry (part s (at + (i - 1) * 143) 143)) && b) e
    ∙ ap (all q) (sym (behind_turn s at n i h k))
