-- The entries that are chosen: of those of all buckets, sorted by their distance from the target, the first sixteen. Assumes nothing.
use mathlib.Core.Path.{◌≡◌, refl, sym, ap, ◌∙◌}
use mathlib.Core.List.{List, [], ◌∷◌, map, map-append, flat_map}
use Prim.Native.Nat.{ℕ, suc, ◌+◌, ◌<◌}
use native.Mathlib.Omega.{arith}
use lib.ListN.{length, get_or, take}
use Rattle.octets.specs.Octets.{Bytes, IsBytes, number}
use Rattle.lists.specs.Lists.{All}
use Rattle.lists.proofs.Laws.{All-append, All-imp}
use Rattle.keccak.specs.Sponge.{keccak256}
use Rattle.keccak.proofs.Laws.{keccak256-length, keccak256_bytes}
use Rattle.distance.specs.Distance.{distance}
use Rattle.entry.specs.declared.Entry.{Entry}
use Rattle.entry.specs.Layout.{no_entry}
use Rattle.bucket_model.specs.Contents.{Contents, no_contents}
use Rattle.closest_distance.proofs.Bytes.{number-far}
use Rattle.closest_nearest.specs.declared.Near.{Near}
use Rattle.closest_nearest.specs.Sort.{sort_by}
use Rattle.closest_nearest.specs.Nearest.{farness}
use Rattle.closest_nearest.proofs.Sort.{All-take, All-sort, map-take, sort-map}
use Rattle.closest_table.specs.Closest.{far_of, candidates_of, candidates_from, closest}

-- ---- the rest of a list from an index on

module _ {A : Type 0} (d : A) (whole : List A) where
  pub record RestAt (i : ℕ) (rest : List A) : Type 0 where
    pub size : i + length rest ≡ length whole
    pub same : (k : ℕ) → get_or whole (i + k) d ≡ get_or rest k d

  all_rest : RestAt 0 whole
  all_rest = record { size = omega arith; same = λ k. let e : 0 + k ≡ k = omega arith in ap (λ (j : ℕ). get_or whole j d) e }

  module _ (i : ℕ) (a : A) (rest : List A) (r : RestAt i (a ∷ rest)) where
    within : i < length whole
    within = omega (arith, r.size)

    here : get_or whole i d ≡ a
    here = let e : i ≡ i + 0 = omega arith in ap (λ (j : ℕ). get_or whole j d) e ∙ r.same 0

    next : RestAt (suc i) rest
    next =
        record {
          size = omega (arith, r.size);
          same = λ k. let e : suc i + k ≡ i + suc k = omega arith in ap (λ (j : ℕ). get_or whole j d) e ∙ r.same (suc k);
        }

-- ---- the entry that a candidate names

abbrev pub entry_of : List Contents → Near → Entry
entry_of bs n = get_or (get_or bs n.slot no_contents).entries n.index no_entry

-- there is one, and the distance is its own
pub record Names (target : Bytes) (bs : List Contents) (n : Near) : Type 0 where
  pub slot_within : n.slot < length bs
  pub index_within : n.index < length (get_or bs n.slot no_contents).entries
  pub its_far : n.far ≡ far_of target (entry_of bs n)

-- the number of an entry's distance
pub number_of_far : (target : Bytes) → length target ≡ 32 → IsBytes target → (e : Entry) → number (far_of target e) ≡ distance target (keccak256 e.key)
number_of_far target n bs e = number-far target (keccak256 e.key) n (keccak256-length e.key) bs (keccak256_bytes e.key)

module _ (target : Bytes) (bs : List Contents) where
  module _ (slot : ℕ) (k : slot < length bs) where
    abbrev entries : List Entry
    entries = (get_or bs slot no_contents).entries

    names_of : (i : ℕ) (es : List Entry) → RestAt no_entry entries i es → All (Names target bs) (candidates_of target slot i es)
    unfolding candidates_of
    names_of i [] r = tt
    names_of i (e ∷ es) r =
        let far = ap (far_of target) (sym (here no_entry entries i e es r)) in
        (record { slot_within = k; index_within = within no_entry entries i e es r; its_far = far }, names_of (suc i) es (next no_entry entries i e es r))

    entries-of : (i : ℕ) (es : List Entry) → RestAt no_entry entries i es → map (entry_of bs) (candidates_of target slot i es) ≡ es
    unfolding candidates_of
    entries-of i [] r = refl
    entries-of i (e ∷ es) r = cc (here no_entry entries i e es r, entries-of (suc i) es (next no_entry entries i e es r))

  module _ (slot : ℕ) (b : Contents) (rest : List Contents) (r : RestAt no_contents bs slot (b ∷ rest)) where
    its-entries : RestAt no_entry (get_or bs slot no_contents).entries 0 b.entries
    its-entries = rw (here no_contents bs slot b rest r) (all_rest no_entry b.entries)

  names-from : (slot : ℕ) (rest : List Contents) → RestAt no_contents bs slot rest → All (Names target bs) (candidates_from target slot rest)
  unfolding candidates_from
  names-from slot [] r = tt
  names-from slot (b ∷ rest) r =
      All-append (Names target bs) (candidates_of target slot 0 b.entries) (candidates_from target (suc slot) rest)
      (names_of slot (within no_contents bs slot b rest r) 0 b.entries (its-entries slot b rest r))
      (names-from (suc slot) rest (next no_contents bs slot b rest r))

  entries_from : (slot : ℕ) (rest : List Contents) → RestAt no_contents bs slot rest
      → map (entry_of bs) (candidates_from target slot rest) ≡ flat_map (λ b. b.entries) rest
  unfolding candidates_from flat_map
  entries_from slot [] r = refl
  entries_from slot (b ∷ rest) r =
      let first = entries-of slot (within no_contents bs slot b rest r) 0 b.entries (its-entries slot b rest r) in
      let others = entries_from (suc slot) rest (next no_contents bs slot b rest r) in
      map-append (entry_of bs) (candidates_of target slot 0 b.entries) (candidates_from target (suc slot) rest) ∙ cc (first, others)

  candidates : All (Names target bs) (candidates_from target 0 bs)
  candidates = names-from 0 bs (all_rest no_contents bs)

  -- each of those chosen names an entry
  pub closest-name : All (Names target bs) (closest target bs)
  unfolding closest
  closest-name =
      let all : List Near = candidates_from target 0 bs in
      All-take (Names target bs) 16 (sort_by farness all) (All-sort farness (Names target bs) all candidates)

  -- these entries, where the target is a hash
  pub closest-entries : length target ≡ 32 → IsBytes target
      → map (entry_of bs) (closest target bs) ≡ take 16 (sort_by (λ e. distance target (keccak256 e.key)) (flat_map (λ b. b.entries) bs))
  unfolding closest
  closest-entries size bytes =
      let far : Entry → ℕ = λ e. distance target (keccak256 e.key) in
      let all : List Near = candidates_from target 0 bs in
      let same : (n : Near) → Names target bs n → farness n ≡ far (entry_of bs n) =
      λ n h. ap number h.its_far ∙ number_of_far target size bytes (entry_of bs n) in
      map-take (entry_of bs) 16 (sort_by farness all)
      ∙ ap (take 16)
      (sort-map farness far (entry_of bs) all (All-imp (Names target bs) (λ n. farness n ≡ far (entry_of bs n)) same all candidates)
      ∙ ap (sort_by far) (entries_from 0 bs (all_rest no_contents bs)))
