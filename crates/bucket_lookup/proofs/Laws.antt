-- What a lookup by key finds, and tests of it. Assumes nothing.
use mathlib.Core.Path.{◌≡◌, refl, sym, ap, ◌∙◌}
use mathlib.Core.Bool.{Bool, true, false, not, ◌&&◌, ◌||◌}
use mathlib.Core.List.{[], ◌∷◌, ◌++◌}
use Prim.Native.Nat.{ℕ, ◌<◌}
use native.Mathlib.Omega.{arith}
use borrow.Author.Tests.{not-true, not-false}
use lib.ListN.{length, get_or}
use lib.Seq.{get_or-take}
use Rattle.octets.specs.Octets.{Bytes}
use Rattle.lists.specs.Lists.{any, empty}
use Rattle.entry.specs.declared.Entry.{Entry}
use Rattle.entry.specs.Layout.{no_entry}
use Rattle.bucket_model.specs.Contents.{Contents}
use Rattle.bucket_model.specs.Rules.{is_of, of_key, held, has_entry}
use Rattle.bucket_model.specs.Sound.{distinct}
use Rattle.bucket.specs.declared.Position.{Position}
use Rattle.bucket.specs.declared.Position.TheVariants.{Absent, InEntries, InReplacements}
use Rattle.bucket.specs.declared.Bucket.{Bucket}
use Rattle.bucket.specs.Steps.{listed, index_of, contents, InBounds, position_of}
use Rattle.bucket.proofs.Laws.{length-listed}
use Rattle.bucket_lookup.specs.declared.Lookup.{Lookup}
use Rattle.bucket_lookup.specs.Steps.{found, only_at, LooksUp, Within, EntryAt}
use Rattle.bucket_lookup.proofs.ByKey.{none_of, one_of, located}

-- the position of a key is one of the bucket
pub within : (key : Bytes) (m : Contents) → distinct (m.entries ++ m.replacements) ≡ true → Within (position_of key m) m
within key m h =
    located key m h
    (λ i e f no. rw (e, f.at) f.below)
    (λ i e no f. rw (e, f.at) f.below)
    (λ e no no'. rw e tt)

-- what stands at the position of a key is what the bucket has of it
pub looked_up : (key : Bytes) (m : Contents) (l : Lookup) → distinct (m.entries ++ m.replacements) ≡ true
    → l.position ≡ position_of key m → EntryAt l.position m l.entry → LooksUp key m l
looked_up key m l h e is =
    let at : EntryAt (position_of key m) m l.entry = rw e at is in
    located key m h
    (λ i p f no.
    let one : l.entry ≡ get_or m.entries (index_of (is_of key) m.entries) no_entry = rw (p, f.at) at at in
    let is_one : of_key key m.entries ≡ l.entry ∷ [] = one_of key no_entry m.entries f.keys f.below ∙ ap (λ x. x ∷ []) (sym one) in
    let other : of_key key m.replacements ≡ [] = none_of key m.replacements no in
    record { position = e; held = rw (e, p, is_one, other) refl; has_entry = rw (e, p, is_one) refl })
    (λ i p no f.
    let one : l.entry ≡ get_or m.replacements (index_of (is_of key) m.replacements) no_entry = rw (p, f.at) at at in
    let is_one : of_key key m.replacements ≡ l.entry ∷ [] = one_of key no_entry m.replacements f.keys f.below ∙ ap (λ x. x ∷ []) (sym one) in
    let other : of_key key m.entries ≡ [] = none_of key m.entries no in
    record { position = e; held = rw (e, p, is_one, other) refl; has_entry = rw (e, p, other) refl })
    (λ p no no'.
    let none : of_key key m.entries ≡ [] = none_of key m.entries no in
    let none' : of_key key m.replacements ≡ [] = none_of key m.replacements no' in
    record { position = e; held = rw (e, p, none, none') refl; has_entry = rw (e, p, none) refl })

-- ---- what stands at a position

module _ (b : Bucket) {at : Position} (n : length b.entries.items ≡ 16) (k : length b.replacements.items ≡ 16) (h : InBounds b) (w : Within at (contents b)) {i : ℕ} where
  pub in-entries : at ≡ InEntries i → i < b.entries.len
  in-entries e =
      let less : i < length (listed b.entries) = rw e at w in
      omega (arith, length-listed b.entries n h.entries)

  pub in-replacements : at ≡ InReplacements i → i < b.replacements.len
  in-replacements e =
      let less : i < length (listed b.replacements) = rw e at w in
      omega (arith, length-listed b.replacements k (omega (arith, h.replacements)))

  pub entry-there : at ≡ InEntries i → EntryAt at (contents b) (get_or b.entries.items i no_entry)
  entry-there e = rw e (sym (get_or-take b.entries.len b.entries.items i no_entry (in-entries e)))

  pub replacement-there : at ≡ InReplacements i → EntryAt at (contents b) (get_or b.replacements.items i no_entry)
  replacement-there e = rw e (sym (get_or-take b.replacements.len b.replacements.items i no_entry (in-replacements e)))

pub nothing_there : (m : Contents) (e : Entry) {at : Position} → at ≡ Absent → EntryAt at m e
nothing_there m e is = rw is tt

-- ---- tests of what was found

not_not : (b : Bool) → not (not b) ≡ b
not_not true = refl
not_not false = refl

or_false : (b : Bool) → (b || false) ≡ b
or_false true = refl
or_false false = refl

any_at : (q : Entry → Bool) (p : Position) (e : Entry) → any q (only_at p e) ≡ (not (empty (only_at p e)) && q e)
any_at q Absent e = refl
any_at q (InEntries i) e = or_false (q e)
any_at q (InReplacements i) e = or_false (q e)

-- with `held` and `is` what `is_held` and the test of the entry answer
pub any_found : (q : Entry → Bool) (l : Lookup) {held is r : Bool} → held ≡ not (empty (found l)) → is ≡ q l.entry → r ≡ (held && is) → r ≡ any q (found l)
any_found q l eh ei er = cc (any_at q l.position l.entry)

-- the node is held, or a test of its entry passes
pub held_or : (q : Entry → Bool) (l : Lookup) {held : Bool} → held ≡ not (empty (found l)) → not held ≡ true → true ≡ (empty (found l) || any q (found l))
held_or q l eh t = sym (rw (not-false (empty (found l)) (sym eh ∙ not-true _ t)) refl)

pub held_and : (q : Entry → Bool) (l : Lookup) {held r : Bool} → held ≡ not (empty (found l)) → not held ≡ false → r ≡ q l.entry → r ≡ (empty (found l) || any q (found l))
held_and q l eh t e =
    let is : not (empty (found l)) ≡ true = sym eh ∙ not-false _ t in
    let none : empty (found l) ≡ false = not-true _ is in
    let one : any q (found l) ≡ q l.entry = any_at q l.position l.entry ∙ rw is refl in
    e ∙ sym (rw (none, one) refl)

pub room : (l : Lookup) (full : Bool) {held r : Bool} → held ≡ not (empty (found l)) → r ≡ (not held && full) → r ≡ (empty (found l) && full)
room l full eh er = er ∙ ap (λ b. not b && full) eh ∙ rw (not_not (empty (found l))) refl
