-- A line is its fields parted by one tab: they give the line again, and none has a tab. Assumes nothing.
use Prim.Native.Nat.{ℕ, zero, suc, ◌+◌, ◌<◌}
use mathlib.Core.Path.{◌≡◌, refl, sym, ap, ◌∙◌}
use mathlib.Core.Bool.{true, false}
use mathlib.Core.List.{[], ◌∷◌, ◌++◌, map}
use native.Mathlib.Nat.{add-zero}
use native.Mathlib.Numerals.{add-one}
use native.Mathlib.Omega.{arith}
use borrow.Author.Tests.{eqb-true}
use lib.Dec.{eqb}
use lib.ListN.{length, get_or, take, drop, length-drop, take-append-drop}
use lib.Seq.{drop-drop, take-suc, drop-cons}
use Rattle.octets.specs.Octets.{Bytes, part}
use Rattle.lists.proofs.Laws.{by_test, never}
use Rattle.text.specs.Rows.{tabbed}
use Rattle.log_line.specs.Fields.{span, fields_from, fields, text, field, untabbed}

module _ (line : Bytes) where
  -- the rest after one byte more
  rest_next : (k b : ℕ) (s : Bytes) → drop k line ≡ b ∷ s → drop (k + 1) line ≡ s
  rest_next k b s h = sym (drop-drop 1 k line) ∙ ap (drop 1) h

  -- from the bytes of a field on
  from_field : (start len : ℕ) (s : Bytes) → drop (start + len) line ≡ s → part line start len ++ s ≡ drop start line
  unfolding part
  from_field start len s h =
      ap (λ (r : Bytes). take len (drop start line) ++ r) (sym (drop-drop len start line ∙ h)) ∙ take-append-drop len (drop start line)

  parted-from : (start len : ℕ) (s : Bytes) → drop (start + len) line ≡ s → tabbed (map (text line) (fields_from start len s)) ≡ 9 ∷ drop start line
  parted-from start len [] h = ap (λ (r : Bytes). 9 ∷ r) (from_field start len [] h)
  parted-from start len (b ∷ s) h =
      by_test (eqb b 9)
      (λ e.
      let next : drop (start + len + 1) line ≡ s = rest_next (start + len) b s h in
      let more : tabbed (map (text line) (fields_from (start + len + 1) 0 s)) ≡ 9 ∷ s = parted-from (start + len + 1) 0 s (rw add-zero next) ∙ ap (λ (r : Bytes). 9 ∷ r) next in
      rw e (ap (λ (r : Bytes). 9 ∷ part line start len ++ r) (more ∙ ap (λ (x : ℕ). x ∷ s) (sym (eqb-true b 9 e))) ∙ ap (λ (r : Bytes). 9 ∷ r) (from_field start len (b ∷ s) h)))
      (λ e.
      let k : start + (len + 1) ≡ start + len + 1 = omega arith in
      rw e (parted-from start (len + 1) s (rw k (rest_next (start + len) b s h))))

  -- the fields, with a tab before each, are a tab and the line
  pub fields-parted : tabbed (map (text line) (fields line)) ≡ 9 ∷ line
  unfolding fields
  fields-parted = parted-from 0 0 line refl

all_more : (s : Bytes) (b : ℕ) → untabbed s ≡ true → eqb b 9 ≡ false → untabbed (s ++ (b ∷ [])) ≡ true
all_more [] b h e = rw e
all_more (x ∷ s) b h e = by_test (eqb x 9) (λ t. never (sym (rw t at h))) (λ t. rw t (all_more s b (rw t at h) e))

module _ (line : Bytes) where
  -- one byte more of a field
  longer-field : (start len b : ℕ) (s : Bytes) → drop (start + len) line ≡ b ∷ s → part line start (len + 1) ≡ part line start len ++ (b ∷ [])
  unfolding part
  longer-field start len b s h =
      let here : drop len (drop start line) ≡ b ∷ s = drop-drop len start line ∙ h in
      let size : len < length (drop start line) = omega (arith, length-drop len (drop start line), ap length here) in
      let byte : get_or (drop start line) len 0 ≡ b = (let both : get_or (drop start line) len 0 ∷ drop (suc len) (drop start line) ≡ b ∷ s = sym (drop-cons (drop start line) len 0 size) ∙ here in cc) in
      rw (add-one, take-suc (drop start line) len 0 size, byte)

  untabbed-none : (start : ℕ) → untabbed (part line start 0) ≡ true
  unfolding part
  untabbed-none start = refl

  untabbed-from : (start len : ℕ) (s : Bytes) → drop (start + len) line ≡ s → untabbed (part line start len) ≡ true → (i : ℕ) → untabbed (text line (field (fields_from start len s) i)) ≡ true
  untabbed-from start len [] h u zero = u
  untabbed-from start len [] h u (suc i) = untabbed-none 0
  untabbed-from start len (b ∷ s) h u i =
      by_test (eqb b 9)
      (λ e. rw e (after-tab i (untabbed-from (start + len + 1) 0 s (rw add-zero (rest_next line (start + len) b s h)) (untabbed-none (start + len + 1)))))
      (λ e.
      let k : start + (len + 1) ≡ start + len + 1 = omega arith in
      rw e (untabbed-from start (len + 1) s (rw k (rest_next line (start + len) b s h)) (rw (longer-field start len b s h) (all_more (part line start len) b u e)) i))
    where
      after-tab : (i : ℕ) → ((j : ℕ) → untabbed (text line (field (fields_from (start + len + 1) 0 s) j)) ≡ true)
          → untabbed (text line (field (span start len ∷ fields_from (start + len + 1) 0 s) i)) ≡ true
      after-tab zero r = u
      after-tab (suc i) r = r i

  -- no field has a tab
  pub fields-untabbed : (i : ℕ) → untabbed (text line (field (fields line) i)) ≡ true
  unfolding fields
  fields-untabbed = untabbed-from 0 0 line refl (untabbed-none 0)
