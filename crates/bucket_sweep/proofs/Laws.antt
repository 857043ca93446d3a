-- Laws of the sweep. Assumes nothing.
use mathlib.Core.Path.{◌≡◌, refl, sym, ap, ◌∙◌}
use mathlib.Core.Bool.{Bool, true, false, cond}
use mathlib.Core.List.{List, [], ◌∷◌, ◌++◌, append_assoc, append-nil}
use Prim.Native.Nat.{ℕ, ◌+◌, ◌≤◌, ◌<◌}
use native.Mathlib.Nat.{add-zero}
use native.Mathlib.Numerals.{add-one}
use native.Mathlib.Omega.{arith}
use lib.ListN.{length, get_or, take, set, length-set}
use lib.Seq.{take-suc, take-suc-set, take-set-le, length-take-le}
use Rattle.lists.specs.Lists.{select}
use Rattle.lists.proofs.Laws.{by_test, and_right, select-append}
use Rattle.entry.specs.declared.Entry.{Entry}
use Rattle.entry.specs.Layout.{no_entry}
use Rattle.bucket_model.specs.Contents.{Contents}
use Rattle.bucket_model.specs.Rules.{is_proved, may_take, is_promoted, stays_entry, stays_replacement, promoted, remaining, on_sweep}
use Rattle.bucket.specs.declared.EntryList.{EntryList}
use Rattle.bucket.specs.declared.Bucket.{Bucket}
use Rattle.bucket.specs.Steps.{listed, Holds, contents, Shows}
use Rattle.bucket.proofs.Laws.{holds_listed, shown, push_holds}
use Rattle.bucket_sweep.specs.Steps.{promote_one, promote_all}
use Rattle.bucket_range.proofs.Laws.{room_for_one}

-- ---- what stays

-- the first n of `kept` are those of the first i of `es` that pass the test
pub record Kept (f : Entry → Bool) (es kept : List Entry) (i n : ℕ) : Type 0 where
  pub most : n ≤ i
  pub wide : length kept ≡ 16
  pub are : take n kept ≡ select f (take i es)

-- one more is tested
pub kept_turn : (f : Entry → Bool) (es kept : List Entry) (i n : ℕ) {b : Bool} {k : ℕ} → i < length es → i < 16 → Kept f es kept i n
    → b ≡ f (get_or es i no_entry) → k ≡ cond b 1 0 → Kept f es (set kept n (get_or es i no_entry)) (i + 1) (n + k)
kept_turn f es kept i n {b} {k} h less inv eb ek =
    let e : Entry = get_or es i no_entry in
    let t : take (i + 1) es ≡ take i es ++ (e ∷ []) = rw add-one (take-suc es i no_entry h) in
    let s : select f (take (i + 1) es) ≡ select f (take i es) ++ select f (e ∷ []) = ap (λ l. select f l) t ∙ select-append f (take i es) (e ∷ []) in
    let wide : length (set kept n e) ≡ 16 = length-set kept n e ∙ inv.wide in
    let most : n ≤ i = inv.most in
    by_test b
    (λ yes.
    let one : k ≡ 1 = rw yes at ek in
    let passes : f e ≡ true = sym eb ∙ yes in
    let all : select f (take (i + 1) es) ≡ select f (take i es) ++ (e ∷ []) = s ∙ rw passes refl in
    let are : take (n + 1) (set kept n e) ≡ select f (take (i + 1) es) =
    rw add-one (take-suc-set kept n e (omega (arith, inv.wide))) ∙ ap (λ l. l ++ (e ∷ [])) inv.are ∙ sym all in
    rw one (record { most = omega arith; wide = wide; are = are }))
    (λ no.
    let none : k ≡ 0 = rw no at ek in
    let fails : f e ≡ false = sym eb ∙ no in
    let all : select f (take (i + 1) es) ≡ select f (take i es) = s ∙ rw (fails, append-nil) refl in
    let are : take n (set kept n e) ≡ select f (take (i + 1) es) = take-set-le n kept n e (omega arith) ∙ inv.are ∙ sym all in
    rw (none, add-zero) (record { most = omega arith; wide = wide; are = are }))

pub kept_done : (f : Entry → Bool) (l : EntryList) (kept : List Entry) (n : ℕ) → l.len ≤ 16 → Kept f l.items kept l.len n
    → Holds (record { len = n; items = kept }) (select f (listed l))
kept_done f l kept n h inv =
    let size : length (select f (listed l)) ≡ n = ap length (sym inv.are) ∙ length-take-le n kept (omega (arith, inv.most, inv.wide)) in
    record { count = sym size; fits = omega (arith, inv.most); held = inv.are }

-- ---- replacements take free entries

promote_all_next : (m : Contents) (l : List Entry) (e : Entry) → promote_all m (l ++ (e ∷ [])) ≡ promote_one (promote_all m l) e
unfolding promote_all
promote_all_next m [] e = refl
promote_all_next m (x ∷ l) e = promote_all_next (promote_one m x) l e

promote_turn : (m : Contents) (es : List Entry) (i : ℕ) (b r : Bucket) → i < length es
    → Shows b (promote_all m (take i es)) → Shows r (promote_one (contents b) (get_or es i no_entry)) → Shows r (promote_all m (take (i + 1) es))
promote_turn m es i b r h hb hr =
    let e : Entry = get_or es i no_entry in
    let t : take (i + 1) es ≡ take i es ++ (e ∷ []) = rw add-one (take-suc es i no_entry h) in
    let is : promote_one (contents b) e ≡ promote_all m (take (i + 1) es) =
    ap (λ c. promote_one c e) (shown b _ hb) ∙ sym (promote_all_next m (take i es) e) ∙ ap (λ l. promote_all m l) (sym t) in
    rw is at hr

-- the first i of the line are dealt with
pub record Turned (m : Contents) (es : List Entry) (i : ℕ) (entries replacements : EntryList) : Type 0 where
  pub wide : length entries.items ≡ 16
  pub wide' : length replacements.items ≡ 16
  pub most : replacements.len ≤ i
  pub shows : Shows (record { entries = entries; replacements = replacements }) (promote_all m (take i es))

pub turned_start : (taken line : EntryList) → length taken.items ≡ 16 → length line.items ≡ 16 → taken.len ≤ 16
    → Turned (record { entries = listed taken; replacements = [] }) line.items 0 taken (record { len = 0; items = line.items })
unfolding promote_all
turned_start taken line n k h = record {
  wide = n;
  wide' = k;
  most = omega arith;
  shows = record { entries = holds_listed taken n h; replacements = record { count = refl; fits = omega arith; held = refl } };
}

-- the next one takes an entry at the tail, or stays in line
module _ (m : Contents) (es : List Entry) (i : ℕ) (entries replacements : EntryList) (less : i < length es) (few : i < 16)
    (inv : Turned m es i entries replacements) {moves : Bool} (is : moves ≡ is_promoted (listed entries) (get_or es i no_entry)) where
  abbrev pub e : Entry
  e = get_or es i no_entry

  abbrev b : Bucket
  b = record { entries = entries; replacements = replacements }

  within : entries.len ≤ 16
  within = omega (arith, inv.shows.entries.count, inv.shows.entries.fits)

  pub turn-room : moves ≡ true → entries.len < 16
  turn-room t =
      room_for_one entries e.endpoint inv.wide within (and_right (is_proved e.proof) (may_take (listed entries) e.endpoint) (sym is ∙ t))

  pub turn-moves : moves ≡ true
      → Turned m es (i + 1) (record { len = entries.len + 1; items = set entries.items entries.len e }) replacements
  turn-moves t =
      let r : EntryList = record { len = entries.len + 1; items = set entries.items entries.len e } in
      let hr : Holds r (listed entries ++ (e ∷ [])) = push_holds entries e inv.wide (turn-room t) in
      let hs : Holds replacements (listed replacements) = holds_listed replacements inv.wide' (omega (arith, inv.most)) in
      record {
        wide = length-set entries.items entries.len e ∙ inv.wide;
        wide' = inv.wide';
        most = omega (arith, inv.most);
        shows =
            promote_turn m es i b (record { entries = r; replacements = replacements }) less inv.shows
            (rw (sym is ∙ t) (record { entries = hr; replacements = hs }));
      }

  pub turn-stays : moves ≡ false
      → Turned m es (i + 1) entries (record { len = replacements.len + 1; items = set replacements.items replacements.len e })
  turn-stays t =
      let r : EntryList = record { len = replacements.len + 1; items = set replacements.items replacements.len e } in
      let hr : Holds r (listed replacements ++ (e ∷ [])) = push_holds replacements e inv.wide' (omega (arith, inv.most)) in
      let hs : Holds entries (listed entries) = holds_listed entries inv.wide within in
      record {
        wide = inv.wide;
        wide' = length-set replacements.items replacements.len e ∙ inv.wide';
        most = omega (arith, inv.most);
        shows =
            promote_turn m es i b (record { entries = entries; replacements = r }) less inv.shows
            (rw (sym is ∙ t) (record { entries = hs; replacements = hr }));
      }

-- the replacements in line order: those that are promoted, and those that remain
pub promote_all_is : (m : Contents) (l : List Entry)
    → promote_all m l ≡ record { entries = m.entries ++ promoted m.entries l; replacements = m.replacements ++ remaining m.entries l }
unfolding promote_all
promote_all_is m [] = rw (append-nil m.entries, append-nil m.replacements) refl
promote_all_is m (e ∷ l) =
    by_test (is_promoted m.entries e)
    (λ t. rw t (promote_all_is (record { entries = m.entries ++ (e ∷ []); replacements = m.replacements }) l ∙ rw append_assoc refl))
    (λ t. rw t (promote_all_is (record { entries = m.entries; replacements = m.replacements ++ (e ∷ []) }) l ∙ rw append_assoc refl))

pub swept : (now : ℕ) (b r : Bucket) (entries line : EntryList) → Holds entries (select (stays_entry now) (listed b.entries))
    → Holds line (select (stays_replacement now) (listed b.replacements))
    → Shows r (promote_all (record { entries = listed entries; replacements = [] }) (listed line)) → Shows r (on_sweep now (contents b))
unfolding on_sweep
swept now b r entries line he hl hr =
    let is : promote_all (record { entries = listed entries; replacements = [] }) (listed line) ≡ on_sweep now (contents b) =
    ap (λ xs. promote_all (record { entries = xs; replacements = [] }) (listed line)) he.held
    ∙ ap (λ l. promote_all (record { entries = select (stays_entry now) (listed b.entries); replacements = [] }) l) hl.held
    ∙ promote_all_is (record { entries = select (stays_entry now) (listed b.entries); replacements = [] }) (select (stays_replacement now) (listed b.replacements)) in
    rw is at hr
