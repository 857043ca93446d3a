-- A sweep, bucket after bucket: the table with the first of its buckets swept. Assumes nothing.
use mathlib.Core.Path.{◌≡◌, refl, sym, ap, ◌∙◌}
use mathlib.Core.Bool.{Bool, true}
use mathlib.Core.List.{List, [], ◌∷◌, map}
use Prim.Native.Nat.{ℕ, zero, suc, ◌+◌, ◌^◌, ◌≤◌, ◌<◌}
use native.Mathlib.Numerals.{add-one}
use native.Mathlib.Omega.{arith}
use lib.ListN.{length, get_or, set, length-map}
use Rattle.octets.specs.Octets.{Bytes, store}
use Rattle.lists.specs.Lists.{All}
use Rattle.lists.proofs.Laws.{get_d_map}
use Rattle.distance.specs.Distance.{home}
use Rattle.bucket_model.specs.Contents.{Contents, no_contents, encode_bucket, decode_bucket}
use Rattle.bucket_model.specs.Rules.{on_sweep}
use Rattle.bucket_model.proofs.Kept.{sound-later, sound-sweep}
use Rattle.bucket_model.specs.Sound.{sound}
use Rattle.bucket_model.proofs.Values.{values-sweep, sound-encoded}
use Rattle.table_model.specs.Layout.{encode_table, offset_of, number_at, bucket_bytes}
use Rattle.table_model.proofs.Table.{SizedBuckets, length-table, bucket-table, store-bucket-table}
use Rattle.table_model.specs.Sound.{anywhere}
use Rattle.table_model.proofs.Home.{sound-anywhere}
use Rattle.table_model.proofs.Sound.{SoundBucket, SoundTable, bucket-size, bucket-back, sized-table}

module _ {A : Type 0} (f : A → A) where
  -- f applied to the first i elements
  abbrev pub changed : ℕ → List A → List A
  changed zero l = l
  changed (suc i) [] = []
  changed (suc i) (a ∷ l) = f a ∷ changed i l

  pub length-changed : (i : ℕ) (l : List A) → length (changed i l) ≡ length l
  length-changed zero l = refl
  length-changed (suc i) [] = refl
  length-changed (suc i) (a ∷ l) = ap suc (length-changed i l)

  pub changed-at : (i : ℕ) (l : List A) (d : A) → get_or (changed i l) i d ≡ get_or l i d
  changed-at zero l d = refl
  changed-at (suc i) [] d = refl
  changed-at (suc i) (a ∷ l) d = changed-at i l d

  pub changed-next : (i : ℕ) (l : List A) (d : A) → i < length l → set (changed i l) i (f (get_or l i d)) ≡ changed (suc i) l
  changed-next i [] d h = absurd (omega arith)
  changed-next zero (a ∷ l) d h = refl
  changed-next (suc i) (a ∷ l) d h = ap (λ m. f a ∷ m) (changed-next i l d (omega arith))

  pub changed-all : (l : List A) → changed (length l) l ≡ map f l
  changed-all [] = refl
  changed-all (a ∷ l) = ap (λ m. f a ∷ m) (changed-all l)

  pub All-changed : (P : A → Type 0) (i : ℕ) (l : List A) → All P l → All P (map f l) → All P (changed i l)
  All-changed P zero l p q = p
  All-changed P (suc i) [] p q = tt
  All-changed P (suc i) (a ∷ l) p q = (q.0, All-changed P i l p.1 q.1)

-- ---- a sweep keeps a table sound

pub swept_bucket : (here : Bytes → Bool) (clock now : ℕ) (m : Contents) → clock ≤ now → now < 2 ^ 64
    → SoundBucket here clock m → SoundBucket here now (on_sweep now m)
swept_bucket here clock now m h fits b =
    record {
      rules = sound-sweep here now m (sound-later here clock now m h b.rules);
      values = values-sweep now fits m b.values;
    }

module _ (own : Bytes) (clock now : ℕ) (buckets : List Contents) (t : SoundTable own clock buckets) (h : clock ≤ now) (fits : now < 2 ^ 64) where
  swept_at : (j : ℕ) → j < length buckets
      → SoundBucket (home own (number_at (length buckets) j)) now (get_or (map (on_sweep now) buckets) j no_contents)
  swept_at j k =
      rw (get_d_map (on_sweep now) buckets j no_contents k)
      (swept_bucket (home own (number_at (length buckets) j)) clock now (get_or buckets j no_contents) h fits (t.each j k))

  -- "every accepted call leaves a sound table sound"
  pub swept-table : SoundTable own now (map (on_sweep now) buckets)
  swept-table =
      let n : length (map (on_sweep now) buckets) ≡ length buckets = length-map buckets (on_sweep now) in
      record {
        own_size = t.own_size;
        clock_fits = fits;
        one = omega (arith, t.one);
        most = omega (arith, t.most);
        each = λ j k. rw n (swept_at j (omega arith));
      }

  sized-swept : (i : ℕ) → SizedBuckets (changed (on_sweep now) i buckets)
  sized-swept i =
      All-changed (on_sweep now) (λ m. length (encode_bucket m) ≡ 2862) i buckets
      (sized-table own clock buckets t)
      (sized-table own now (map (on_sweep now) buckets) swept-table)

  -- the bytes stay as many
  pub swept-length : (i : ℕ) → length (encode_table own clock (changed (on_sweep now) i buckets)) ≡ offset_of (length buckets)
  swept-length i =
      length-table own clock (changed (on_sweep now) i buckets) t.own_size (sized-swept i)
      ∙ ap offset_of (length-changed (on_sweep now) i buckets)

  module _ (i : ℕ) (k : i < length buckets) {s : Bytes} (e : s ≡ encode_table own clock (changed (on_sweep now) i buckets)) where
    within : i < length (changed (on_sweep now) i buckets)
    within = omega (arith, length-changed (on_sweep now) i buckets)

    next-bytes : bucket_bytes s i ≡ encode_bucket (get_or buckets i no_contents)
    next-bytes =
        ap (λ l. bucket_bytes l i) e
        ∙ bucket-table own clock (changed (on_sweep now) i buckets) t.own_size (sized-swept i) i within
        ∙ ap encode_bucket (changed-at (on_sweep now) i buckets no_contents)

    -- the next bucket is there, and sound
    pub next_fits : offset_of i + 2862 ≤ length s
    next_fits = omega (arith, ap length e ∙ swept-length i)

    pub next-sound : sound anywhere now (bucket_bytes s i) ≡ true
    next-sound =
        let here : Bytes → Bool = home own (number_at (length buckets) i) in
        let b : Contents = get_or buckets i no_contents in
        rw next-bytes
        (sound-anywhere here now (encode_bucket b)
        (sound-encoded here now b (sound-later here clock now b h (t.each i k).rules) (t.each i k).values))

    -- one bucket more is swept
    pub swept-turn : {s' : Bytes}
        → s' ≡ store s (offset_of i) (encode_bucket (on_sweep now (decode_bucket (bucket_bytes s i))))
        → s' ≡ encode_table own clock (changed (on_sweep now) (i + 1) buckets)
    swept-turn e' =
        let b : Contents = get_or buckets i no_contents in
        let here : Bytes → Bool = home own (number_at (length buckets) i) in
        let read : decode_bucket (bucket_bytes s i) ≡ b = ap decode_bucket next-bytes ∙ bucket-back here clock b (t.each i k) in
        let size : length (encode_bucket (on_sweep now b)) ≡ 2862 =
        bucket-size here now (on_sweep now b) (swept_bucket here clock now b h fits (t.each i k)) in
        e'
        ∙ ap (λ m. store s (offset_of i) (encode_bucket (on_sweep now m))) read
        ∙ ap (λ l. store l (offset_of i) (encode_bucket (on_sweep now b))) e
        ∙ store-bucket-table own clock (changed (on_sweep now) i buckets) t.own_size (sized-swept i) i (on_sweep now b) within size
        ∙ ap (encode_table own clock) (changed-next (on_sweep now) i buckets no_contents k)
        ∙ ap (λ (j : ℕ). encode_table own clock (changed (on_sweep now) j buckets)) (sym (add-one i))
