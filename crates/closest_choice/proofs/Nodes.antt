-- The nodes of the entries that a closest call chooses in a sound table. Assumes nothing.
use mathlib.Core.Path.{◌≡◌, refl, sym, ap, ◌∙◌}
use mathlib.Core.Bool.{true}
use mathlib.Core.List.{List, [], ◌∷◌, map, flat_map}
use Prim.Native.Nat.{ℕ, ◌+◌, ◌≤◌, ◌<◌}
use native.Mathlib.Omega.{arith}
use borrow.Author.Tests.{le-leb, lt-ltb}
use lib.ListN.{length, get_or, take}
use Rattle.octets.specs.Octets.{Bytes, IsBytes}
use Rattle.lists.specs.Lists.{All}
use Rattle.lists.proofs.Laws.{All-imp}
use Rattle.keccak.specs.Sponge.{keccak256}
use Rattle.distance.specs.Distance.{distance}
use Rattle.node.specs.declared.Node.{Node}
use Rattle.entry.specs.declared.Entry.{Entry}
use Rattle.entry.specs.Layout.{no_entry}
use Rattle.entry.specs.Nodes.{node_of}
use Rattle.bucket_model.specs.Contents.{Contents, no_contents}
use Rattle.table_model.specs.Layout.{offset_of, count_of, bucket_at, buckets_of}
use Rattle.table_model.specs.Sound.{table_sound}
use Rattle.table_model.proofs.Table.{count_read, bucket_read}
use Rattle.table_model.proofs.Sound.{table_header}
use Rattle.closest_nearest.specs.declared.Near.{Near}
use Rattle.closest_nearest.specs.Sort.{sort_by}
use Rattle.closest_table.specs.Closest as nearest
use Rattle.closest_table.proofs.Most.{slot-fits, few-entries, entries-are}
use Rattle.closest_table.proofs.Nearest.{entry_of, Names, closest-name, closest-entries}
use Rattle.closest_choice.specs.Choice.{is_there, node_in}

map_through : {A B C : Type 0} (f : A → C) (g : B → C) (h : A → B) (l : List A) → All (λ a. f a ≡ g (h a)) l → map f l ≡ map g (map h l)
map_through f g h [] p = refl
map_through f g h (a ∷ l) p = cc (p.0, map_through f g h l p.1)

module _ (s : Bytes) (sound : table_sound s ≡ true) where
  module _ (target : Bytes) (n : Near) (names : Names target (buckets_of s) n) where
    abbrev at : ℕ
    at = offset_of n.slot

    within : n.slot < count_of s
    within = omega (arith, names.slot_within, count_read s)

    bucket : get_or (buckets_of s) n.slot no_contents ≡ bucket_at s n.slot
    bucket = bucket_read s n.slot within

    index : n.index < get_or s at 0
    index =
        omega (arith, names.index_within, ap (λ (b : Contents). length b.entries) bucket, entries-are s sound n.slot within)

    there : is_there s n.slot n.index ≡ true
    there =
        let slot : n.slot < 256 = omega (arith, within, (table_header s sound).most) in
        let next : offset_of (n.slot + 1) ≤ length s = omega (arith, slot-fits s sound n.slot within) in
        rw (
          lt-ltb n.slot 256 slot,
          le-leb (offset_of (n.slot + 1)) (length s) next,
          le-leb (get_or s at 0) 16 (few-entries s sound n.slot within),
          lt-ltb n.index (get_or s at 0) index,
        ) refl

    its-node : node_in s n.slot n.index ≡ node_of (entry_of (buckets_of s) n)
    unfolding node_in
    its-node = rw there (ap (λ (b : Contents). node_of (get_or b.entries n.index no_entry)) (sym bucket))

  module _ (target : Bytes) where
    abbrev chosen : List Near
    chosen = nearest.closest target (buckets_of s)

    names : All (Names target (buckets_of s)) chosen
    names = closest-name target (buckets_of s)

    -- there is an entry wherever one is chosen
    pub closest-there : All (λ n. is_there s n.slot n.index ≡ true) (nearest.closest target (buckets_of s))
    closest-there = All-imp (Names target (buckets_of s)) (λ n. is_there s n.slot n.index ≡ true) (there target) chosen names

    -- the nodes of the entries of all buckets, nearest to the target first, where the target is a hash
    pub closest-nodes : length target ≡ 32 → IsBytes target → map (λ n. node_in s n.slot n.index) (nearest.closest target (buckets_of s))
        ≡ map node_of (take 16 (sort_by (λ e. distance target (keccak256 e.key)) (flat_map (λ b. b.entries) (buckets_of s))))
    closest-nodes size bytes =
        let node : Near → Node = λ n. node_in s n.slot n.index in
        let entry : Near → Entry = entry_of (buckets_of s) in
        map_through node node_of entry chosen (All-imp (Names target (buckets_of s)) (λ n. node n ≡ node_of (entry n)) (its-node target) chosen names)
        ∙ ap (map node_of) (closest-entries target (buckets_of s) size bytes)
