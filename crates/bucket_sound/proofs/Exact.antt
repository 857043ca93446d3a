-- The tests of the records, the keys and the unused bytes together are the test of soundness. Assumes nothing.
use mathlib.Core.Path.{◌≡◌, refl, sym, ap, ◌∙◌}
use mathlib.Core.Bool.{Bool, true, false, cond, not, ◌&&◌, ◌||◌}
use mathlib.Core.List.{List, [], ◌∷◌, ◌++◌, append-nil}
use Prim.Native.Nat.{ℕ, zero, suc, ◌+◌, ◌-◌, ◌*◌, ◌≤◌, ◌<◌}
use native.Mathlib.Nat.{add-zero}
use native.Mathlib.Omega.{arith}
use borrow.Author.Tests.{le-leb, lt-leb}
use lib.Dec.{eqb, leb}
use lib.ListN.{length, get_or}
use Rattle.octets.specs.Octets.{Bytes, IsBytes, part, number, same_bytes}
use Rattle.octets.proofs.Laws.{length_part, part-part, get_d_part, bytes_part}
use Rattle.lists.specs.Lists.{any, all}
use Rattle.lists.proofs.Laws.{by_test, and_left, and_right}
use Rattle.entry.specs.declared.Entry.{Entry}
use Rattle.entry.specs.declared.Stamp.{Stamp}
use Rattle.entry.specs.Layout.{decode_entry, decode_endpoint, decode_stamp, proof_of, ping_of}
use Rattle.entry.proofs.Laws.{decode-entry}
use Rattle.bucket_model.specs.Contents.{entries_at, encode_bucket, decode_bucket}
use Rattle.bucket_model.specs.Rules.{is_of, is_proved, is_out, is_promoted}
use Rattle.bucket_model.specs.Sound.{proof_by, ping_by, address_form, entry_sound, may_wait, ranges_kept, distinct, keeps_rules, sound}
use Rattle.bucket_model.proofs.ByteForm.{entries_at-part}
use Rattle.bucket_sound.specs.Steps.{stamp_form, stamp_by, may_stand, record_sound, all_records, keys_apart}
use Rattle.bucket_sound.proofs.Tests.{both_ways, and_intro, and_same, and_true, not_or, all_append, all_same}
use Rattle.bucket_sound.proofs.Forms.{entry_form, is_form, unused, bucket_form}
use Rattle.bucket_sound.proofs.Steps.{all_records-part, keys_apart-part}

-- ---- one record

proof-by : (clock : ℕ) (s : Stamp) → proof_by clock (proof_of s) ≡ stamp_by clock s
proof-by clock s = by_test (eqb s.flag 0) (λ t. rw t refl) (λ t. rw t refl)

ping-by : (clock : ℕ) (s : Stamp) → ping_by clock (ping_of s) ≡ stamp_by clock s
ping-by clock s = by_test (eqb s.flag 0) (λ t. rw t refl) (λ t. rw t refl)

-- the order in which the tests of a record are made
order : (f h t s a : Bool) → (f && ((h && (t && a)) && s)) ≡ ((f && (t && (s && a))) && h)
order f h t s a =
    both_ways (f && ((h && (t && a)) && s)) ((f && (t && (s && a))) && h)
    (λ e.
    let r : ((h && (t && a)) && s) ≡ true = and_right f _ e in
    let l : (h && (t && a)) ≡ true = and_left (h && (t && a)) s r in
    let ta : (t && a) ≡ true = and_right h (t && a) l in
    and_intro (and_intro (and_left f _ e) (and_intro (and_left t a ta) (and_intro (and_right (h && (t && a)) s r) (and_right t a ta)))) (and_left h (t && a) l))
    (λ e.
    let l : (f && (t && (s && a))) ≡ true = and_left (f && (t && (s && a))) h e in
    let r : (t && (s && a)) ≡ true = and_right f (t && (s && a)) l in
    let sa : (s && a) ≡ true = and_right t (s && a) r in
    and_intro (and_left f (t && (s && a)) l) (and_intro (and_intro (and_right (f && (t && (s && a))) h e) (and_intro (and_left t (s && a) r) (and_right s a sa))) (and_left s a sa)))

module _ (home : Bytes → Bool) (clock : ℕ) (proved unproved : Bool) where
  -- what is tested of a record but its key's bucket
  abbrev shape_at : Bytes → ℕ → Bool
  shape_at s at =
      (stamp_form (decode_stamp (part s (at + 93) 9)) && stamp_form (decode_stamp (part s (at + 102) 9)))
      && ((leb (number (part s (at + 85) 8)) clock && (stamp_by clock (decode_stamp (part s (at + 93) 9)) && stamp_by clock (decode_stamp (part s (at + 102) 9))))
      && (cond (is_proved (proof_of (decode_stamp (part s (at + 93) 9)))) proved (unproved && is_out (ping_of (decode_stamp (part s (at + 102) 9)))) && address_form (decode_endpoint (part s (at + 64) 21))))

  record_is : (s : Bytes) (at : ℕ) → at + 143 ≤ length s → IsBytes s
      → record_sound home clock proved unproved (part s at 143) ≡ (shape_at s at && home (part s at 64))
  unfolding record_sound entry_sound
  record_is s at h b =
      rw (entry_form s at h b, decode-entry s at, proof-by clock (decode_stamp (part s (at + 93) 9)), ping-by clock (decode_stamp (part s (at + 102) 9)))
      (order
      (stamp_form (decode_stamp (part s (at + 93) 9)) && stamp_form (decode_stamp (part s (at + 102) 9)))
      (home (part s at 64))
      (leb (number (part s (at + 85) 8)) clock && (stamp_by clock (decode_stamp (part s (at + 93) 9)) && stamp_by clock (decode_stamp (part s (at + 102) 9))))
      (cond (is_proved (proof_of (decode_stamp (part s (at + 93) 9)))) proved (unproved && is_out (ping_of (decode_stamp (part s (at + 102) 9)))))
      (address_form (decode_endpoint (part s (at + 64) 21))))

  -- the tests of `record_sound`, one after the other
  pub shape_is : (s : Bytes) (at : ℕ) {seen : ℕ} {proof ping : Stamp} {f₁ f₂ form b₁ b₂ stamps times st ad stands inner shape : Bool}
      → seen ≡ number (part s (at + 85) 8)
      → proof ≡ decode_stamp (part s (at + 93) 9)
      → ping ≡ decode_stamp (part s (at + 102) 9)
      → f₁ ≡ stamp_form proof
      → f₂ ≡ stamp_form ping
      → form ≡ (f₁ && f₂)
      → b₁ ≡ stamp_by clock proof
      → b₂ ≡ stamp_by clock ping
      → stamps ≡ (b₁ && b₂)
      → times ≡ (leb seen clock && stamps)
      → st ≡ cond (is_proved (proof_of proof)) proved (unproved && is_out (ping_of ping))
      → ad ≡ address_form (decode_endpoint (part s (at + 64) 21))
      → stands ≡ (st && ad)
      → inner ≡ (times && stands)
      → shape ≡ (form && inner)
      → shape ≡ shape_at s at
  shape_is s at {ping = ping} {st = st} es ep eq f₁ f₂ ef b₁ b₂ eb et est ad ed ei e =
      let stand : st ≡ cond (is_proved (proof_of (decode_stamp (part s (at + 93) 9)))) proved (unproved && is_out (ping_of (decode_stamp (part s (at + 102) 9)))) =
      est
      ∙ ap (λ x. cond (is_proved (proof_of x)) proved (unproved && is_out (ping_of ping))) ep
      ∙ ap (λ x. cond (is_proved (proof_of (decode_stamp (part s (at + 93) 9)))) proved (unproved && is_out (ping_of x))) eq in
      and_same e (and_same ef (f₁ ∙ ap stamp_form ep) (f₂ ∙ ap stamp_form eq))
      (and_same ei
      (and_same et (ap (λ n. leb n clock) es) (and_same eb (b₁ ∙ ap (stamp_by clock) ep) (b₂ ∙ ap (stamp_by clock) eq)))
      (and_same ed stand ad))

  pub record-yes : (s : Bytes) (at : ℕ) {shape r : Bool} → at + 143 ≤ length s → IsBytes s → shape ≡ shape_at s at → shape ≡ true → r ≡ home (part s at 64)
      → r ≡ record_sound home clock proved unproved (part s at 143)
  record-yes s at h b e t is = is ∙ sym (record_is s at h b ∙ ap (λ k. k && home (part s at 64)) (sym e ∙ t))

  pub record-no : (s : Bytes) (at : ℕ) {shape : Bool} → at + 143 ≤ length s → IsBytes s → shape ≡ shape_at s at → shape ≡ false
      → false ≡ record_sound home clock proved unproved (part s at 143)
  record-no s at h b e t = sym (record_is s at h b ∙ ap (λ k. k && home (part s at 64)) (sym e ∙ t))

  -- the records of a list, test by test
  three : (f e g F E G : Bool) → ((f && (e && g)) && (F && (E && G))) ≡ ((f && F) && ((e && E) && (g && G)))
  three f e g F E G =
      both_ways ((f && (e && g)) && (F && (E && G))) ((f && F) && ((e && E) && (g && G)))
      (λ t.
      let l : (f && (e && g)) ≡ true = and_left (f && (e && g)) (F && (E && G)) t in
      let r : (F && (E && G)) ≡ true = and_right (f && (e && g)) (F && (E && G)) t in
      let eg : (e && g) ≡ true = and_right f (e && g) l in
      let EG : (E && G) ≡ true = and_right F (E && G) r in
      and_intro (and_intro (and_left f (e && g) l) (and_left F (E && G) r)) (and_intro (and_intro (and_left e g eg) (and_left E G EG)) (and_intro (and_right e g eg) (and_right E G EG))))
      (λ t.
      let l : (f && F) ≡ true = and_left (f && F) ((e && E) && (g && G)) t in
      let r : ((e && E) && (g && G)) ≡ true = and_right (f && F) ((e && E) && (g && G)) t in
      let ee : (e && E) ≡ true = and_left (e && E) (g && G) r in
      let gg : (g && G) ≡ true = and_right (e && E) (g && G) r in
      and_intro (and_intro (and_left f F l) (and_intro (and_left e E ee) (and_left g G gg))) (and_intro (and_right f F l) (and_intro (and_right e E ee) (and_right g G gg))))

  records-are : (s : Bytes) (at n : ℕ)
      → all_records (record_sound home clock proved unproved) s at n
      ≡ (all_records is_form s at n && (all (entry_sound home clock) (entries_at s at n) && all (may_stand proved unproved) (entries_at s at n)))
  unfolding all_records entries_at record_sound
  records-are s at zero = refl
  records-are s at (suc n) =
      ap (λ t. record_sound home clock proved unproved (part s at 143) && t) (records-are s (at + 143) n)
      ∙ three (is_form (part s at 143)) (entry_sound home clock (decode_entry (part s at 143))) (may_stand proved unproved (decode_entry (part s at 143)))
      (all_records is_form s (at + 143) n) (all (entry_sound home clock) (entries_at s (at + 143) n)) (all (may_stand proved unproved) (entries_at s (at + 143) n))

-- who may stand among the entries, and among the replacements
stands_entry : (e : Entry) → may_stand true false e ≡ is_proved e.proof
stands_entry e = by_test (is_proved e.proof) (λ t. rw t refl) (λ t. rw t refl)

stands_waiting : (taken : List Entry) (e : Entry) → may_wait taken e ≡ (may_stand true true e && not (is_promoted taken e))
stands_waiting taken e =
    by_test (is_proved e.proof) (λ t. rw t refl) (λ t. rw t (sym (and_true (is_out e.ping))))

all_both : {A : Type 0} (q r : A → Bool) (l : List A) → all (λ a. q a && r a) l ≡ (all q l && all r l)
all_both q r [] = refl
all_both q r (a ∷ l) = ap (λ t. (q a && r a) && t) (all_both q r l) ∙ four (q a) (r a) (all q l) (all r l)
  where
    four : (x y z w : Bool) → ((x && y) && (z && w)) ≡ ((x && z) && (y && w))
    four true y z w = swap y z w
      where
        swap : (y z w : Bool) → (y && (z && w)) ≡ (z && (y && w))
        swap true z w = refl
        swap false true w = refl
        swap false false w = refl
    four false y z w = refl

-- ---- keys

any_append : {A : Type 0} (q : A → Bool) (l m : List A) → any q (l ++ m) ≡ (any q l || any q m)
any_append q [] m = refl
any_append q (a ∷ l) m = by_test (q a) (λ t. rw t refl) (λ t. rw t (any_append q l m))

and_assoc : (a b c : Bool) → ((a && b) && c) ≡ (a && (b && c))
and_assoc true b c = refl
and_assoc false b c = refl

keys_are : (s : Bytes) (at n other m : ℕ)
    → distinct (entries_at s at n ++ entries_at s other m) ≡ (keys_apart s at n other m && distinct (entries_at s other m))
unfolding entries_at distinct keys_apart
keys_are s at zero other m = refl
keys_are s at (suc n) other m =
    rw (decode-entry s at, any_append (is_of (part s at 64)) (entries_at s (at + 143) n) (entries_at s other m), not_or, keys_are s (at + 143) n other m)
    (sym (and_assoc
    (not (any (is_of (part s at 64)) (entries_at s (at + 143) n)) && not (any (is_of (part s at 64)) (entries_at s other m)))
    (keys_apart s (at + 143) n other m)
    (distinct (entries_at s other m))))

keys_none : (s : Bytes) (other m at : ℕ) → distinct (entries_at s other m ++ []) ≡ (keys_apart s other m at 0 && true)
unfolding entries_at distinct
keys_none s other m at = keys_are s other m at 0

alone : (s : Bytes) (other m at : ℕ) → distinct (entries_at s other m) ≡ keys_apart s other m at 0
alone s other m at = ap distinct (sym (append-nil (entries_at s other m))) ∙ keys_none s other m at ∙ and_true (keys_apart s other m at 0)

-- ---- the bucket

regroup : (f₁ z₁ f₂ z₂ a₁ a₂ k₁ k₂ p₁ p₂ g w : Bool)
    → (((f₁ && z₁) && (f₂ && z₂)) && ((a₁ && a₂) && ((k₁ && k₂) && (p₁ && (g && (p₂ && w))))))
    ≡ ((((z₁ && z₂) && (k₁ && k₂)) && (g && w)) && ((f₁ && (a₁ && p₁)) && (f₂ && (a₂ && p₂))))
regroup f₁ z₁ f₂ z₂ a₁ a₂ k₁ k₂ p₁ p₂ g w =
    both_ways (((f₁ && z₁) && (f₂ && z₂)) && ((a₁ && a₂) && ((k₁ && k₂) && (p₁ && (g && (p₂ && w))))))
    ((((z₁ && z₂) && (k₁ && k₂)) && (g && w)) && ((f₁ && (a₁ && p₁)) && (f₂ && (a₂ && p₂))))
    (λ e.
    let l = and_left ((f₁ && z₁) && (f₂ && z₂)) ((a₁ && a₂) && ((k₁ && k₂) && (p₁ && (g && (p₂ && w))))) e in
    let r = and_right ((f₁ && z₁) && (f₂ && z₂)) ((a₁ && a₂) && ((k₁ && k₂) && (p₁ && (g && (p₂ && w))))) e in
    let fz₁ = and_left (f₁ && z₁) (f₂ && z₂) l in
    let fz₂ = and_right (f₁ && z₁) (f₂ && z₂) l in
    let a = and_left (a₁ && a₂) ((k₁ && k₂) && (p₁ && (g && (p₂ && w)))) r in
    let kp = and_right (a₁ && a₂) ((k₁ && k₂) && (p₁ && (g && (p₂ && w)))) r in
    let k = and_left (k₁ && k₂) (p₁ && (g && (p₂ && w))) kp in
    let p = and_right (k₁ && k₂) (p₁ && (g && (p₂ && w))) kp in
    let gpw = and_right p₁ (g && (p₂ && w)) p in
    let pw = and_right g (p₂ && w) gpw in
    and_intro
    (and_intro (and_intro (and_intro (and_right f₁ z₁ fz₁) (and_right f₂ z₂ fz₂)) k) (and_intro (and_left g (p₂ && w) gpw) (and_right p₂ w pw)))
    (and_intro (and_intro (and_left f₁ z₁ fz₁) (and_intro (and_left a₁ a₂ a) (and_left p₁ (g && (p₂ && w)) p)))
    (and_intro (and_left f₂ z₂ fz₂) (and_intro (and_right a₁ a₂ a) (and_left p₂ w pw)))))
    (λ e.
    let l = and_left (((z₁ && z₂) && (k₁ && k₂)) && (g && w)) ((f₁ && (a₁ && p₁)) && (f₂ && (a₂ && p₂))) e in
    let r = and_right (((z₁ && z₂) && (k₁ && k₂)) && (g && w)) ((f₁ && (a₁ && p₁)) && (f₂ && (a₂ && p₂))) e in
    let zk = and_left ((z₁ && z₂) && (k₁ && k₂)) (g && w) l in
    let gw = and_right ((z₁ && z₂) && (k₁ && k₂)) (g && w) l in
    let z = and_left (z₁ && z₂) (k₁ && k₂) zk in
    let k = and_right (z₁ && z₂) (k₁ && k₂) zk in
    let r₁ = and_left (f₁ && (a₁ && p₁)) (f₂ && (a₂ && p₂)) r in
    let r₂ = and_right (f₁ && (a₁ && p₁)) (f₂ && (a₂ && p₂)) r in
    let ap₁ = and_right f₁ (a₁ && p₁) r₁ in
    let ap₂ = and_right f₂ (a₂ && p₂) r₂ in
    and_intro (and_intro (and_intro (and_left f₁ (a₁ && p₁) r₁) (and_left z₁ z₂ z)) (and_intro (and_left f₂ (a₂ && p₂) r₂) (and_right z₁ z₂ z)))
    (and_intro (and_intro (and_left a₁ p₁ ap₁) (and_left a₂ p₂ ap₂))
    (and_intro k (and_intro (and_right a₁ p₁ ap₁) (and_intro (and_left g w gw) (and_intro (and_right a₂ p₂ ap₂) (and_right g w gw)))))))

-- who of a line may not take an entry beside these
abbrev settled_by : List Entry → List Entry → Bool
settled_by taken line = all (λ e. not (is_promoted taken e)) line

module _ (home : Bytes → Bool) (clock : ℕ) where
  keeps-is : (s : Bytes) (n m : ℕ)
      → keeps_rules home clock (record { entries = entries_at s 2 n; replacements = entries_at s 2290 m })
      ≡ ((all (entry_sound home clock) (entries_at s 2 n) && all (entry_sound home clock) (entries_at s 2290 m))
      && ((keys_apart s 2 n 2290 m && keys_apart s 2290 m 2290 0)
      && (all (may_stand true false) (entries_at s 2 n)
      && (ranges_kept (entries_at s 2 n) && (all (may_stand true true) (entries_at s 2290 m) && settled_by (entries_at s 2 n) (entries_at s 2290 m))))))
  unfolding keeps_rules
  keeps-is s n m =
      let es : List Entry = entries_at s 2 n in
      let rs : List Entry = entries_at s 2290 m in
      let keys : distinct (es ++ rs) ≡ (keys_apart s 2 n 2290 m && keys_apart s 2290 m 2290 0) =
      keys_are s 2 n 2290 m ∙ ap (λ t. keys_apart s 2 n 2290 m && t) (alone s 2290 m 2290) in
      let stand : all (λ e. is_proved e.proof) es ≡ all (may_stand true false) es =
      all_same (λ e. is_proved e.proof) (may_stand true false) (λ e. sym (stands_entry e)) es in
      let wait : all (may_wait es) rs ≡ (all (may_stand true true) rs && settled_by es rs) =
      all_same (may_wait es) (λ e. may_stand true true e && not (is_promoted es e)) (stands_waiting es) rs
      ∙ all_both (may_stand true true) (λ e. not (is_promoted es e)) rs in
      rw (all_append (entry_sound home clock) es rs, keys, stand, wait) refl

  -- the tests of `sound`, on the bucket's own bytes
  whole_is : (s : Bytes) → length s ≡ 2862 → IsBytes s → get_or s 0 0 ≤ 16 → get_or s 1 0 ≤ 4
      → sound home clock s
      ≡ ((((unused s (2 + get_or s 0 0 * 143) ((16 - get_or s 0 0) * 143) && unused s (2290 + get_or s 1 0 * 143) ((4 - get_or s 1 0) * 143))
      && (keys_apart s 2 (get_or s 0 0) 2290 (get_or s 1 0) && keys_apart s 2290 (get_or s 1 0) 2290 0))
      && (ranges_kept (entries_at s 2 (get_or s 0 0)) && settled_by (entries_at s 2 (get_or s 0 0)) (entries_at s 2290 (get_or s 1 0))))
      && (all_records (record_sound home clock true false) s 2 (get_or s 0 0) && all_records (record_sound home clock true true) s 2290 (get_or s 1 0)))
  unfolding sound decode_bucket
  whole_is s h b ln lm =
      let n : ℕ = get_or s 0 0 in
      let m : ℕ = get_or s 1 0 in
      ap (λ t. t && (leb m 4 && (same_bytes (encode_bucket (decode_bucket s)) s && keeps_rules home clock (decode_bucket s)))) (le-leb n 16 ln)
      ∙ ap (λ t. t && (same_bytes (encode_bucket (decode_bucket s)) s && keeps_rules home clock (decode_bucket s))) (le-leb m 4 lm)
      ∙ ap (λ t. t && keeps_rules home clock (decode_bucket s)) (bucket_form s h b ln lm)
      ∙ ap (λ t.
      ((all_records is_form s 2 n && unused s (2 + n * 143) ((16 - n) * 143)) && (all_records is_form s 2290 m && unused s (2290 + m * 143) ((4 - m) * 143))) && t) (keeps-is s n m)
      ∙ regroup (all_records is_form s 2 n) (unused s (2 + n * 143) ((16 - n) * 143)) (all_records is_form s 2290 m) (unused s (2290 + m * 143) ((4 - m) * 143))
      (all (entry_sound home clock) (entries_at s 2 n)) (all (entry_sound home clock) (entries_at s 2290 m)) (keys_apart s 2 n 2290 m) (keys_apart s 2290 m 2290 0)
      (all (may_stand true false) (entries_at s 2 n)) (all (may_stand true true) (entries_at s 2290 m)) (ranges_kept (entries_at s 2 n)) (settled_by (entries_at s 2 n) (entries_at s 2290 m))
      ∙ rw (← records-are home clock true false s 2 n, ← records-are home clock true true s 2290 m) refl

  -- the same where the bucket lies in longer bytes
  pub sound-is : (s : Bytes) (at : ℕ) → at + 2862 ≤ length s → IsBytes s → get_or s at 0 ≤ 16 → get_or s (at + 1) 0 ≤ 4
      → sound home clock (part s at 2862)
      ≡ ((((unused s (at + 2 + get_or s at 0 * 143) ((16 - get_or s at 0) * 143) && unused s (at + 2290 + get_or s (at + 1) 0 * 143) ((4 - get_or s (at + 1) 0) * 143))
      && (keys_apart s (at + 2) (get_or s at 0) (at + 2290) (get_or s (at + 1) 0) && keys_apart s (at + 2290) (get_or s (at + 1) 0) (at + 2290) 0))
      && (ranges_kept (entries_at s (at + 2) (get_or s at 0)) && settled_by (entries_at s (at + 2) (get_or s at 0)) (entries_at s (at + 2290) (get_or s (at + 1) 0))))
      && (all_records (record_sound home clock true false) s (at + 2) (get_or s at 0) && all_records (record_sound home clock true true) s (at + 2290) (get_or s (at + 1) 0)))
  sound-is s at h b ln lm =
      let n : ℕ = get_or s at 0 in
      let m : ℕ = get_or s (at + 1) 0 in
      let p : Bytes = part s at 2862 in
      let en : get_or p 0 0 ≡ n = rw (add-zero at) at (get_d_part s at 2862 0 (omega arith)) in
      let em : get_or p 1 0 ≡ m = get_d_part s at 2862 1 (omega arith) in
      let i : at + (2 + n * 143) ≡ at + 2 + n * 143 = omega arith in
      let j : at + (2290 + m * 143) ≡ at + 2290 + m * 143 = omega arith in
      let z₁ : part p (2 + n * 143) ((16 - n) * 143) ≡ part s (at + 2 + n * 143) ((16 - n) * 143) =
      part-part s at 2862 (2 + n * 143) ((16 - n) * 143) (omega arith) ∙ ap (λ k. part s k ((16 - n) * 143)) i in
      let z₂ : part p (2290 + m * 143) ((4 - m) * 143) ≡ part s (at + 2290 + m * 143) ((4 - m) * 143) =
      part-part s at 2862 (2290 + m * 143) ((4 - m) * 143) (omega arith) ∙ ap (λ k. part s k ((4 - m) * 143)) j in
      let whole = rw (en, em) at (whole_is p (length_part s at 2862 h) (bytes_part s at 2862 b) (rw en ln) (rw em lm)) in
      whole
      ∙ rw (
        z₁,
        z₂,
        keys_apart-part s at 2862 2 n 2290 m (omega arith) (omega arith),
        keys_apart-part s at 2862 2290 m 2290 0 (omega arith) (omega arith),
        entries_at-part s at 2862 2 n (omega arith),
        entries_at-part s at 2862 2290 m (omega arith),
        all_records-part (record_sound home clock true false) s at 2862 2 n (omega arith),
        all_records-part (record_sound home clock true true) s at 2862 2290 m (omega arith),
      ) refl

  -- counts out of bounds
  pub too_many : (s : Bytes) (at : ℕ) → at + 2862 ≤ length s → 16 < get_or s at 0 → false ≡ sound home clock (part s at 2862)
  unfolding sound
  too_many s at h more =
      let en : get_or (part s at 2862) 0 0 ≡ get_or s at 0 = rw (add-zero at) at (get_d_part s at 2862 0 (omega arith)) in
      sym (rw (en, lt-leb (get_or s at 0) 16 more) refl)

  pub too-many-waiting : (s : Bytes) (at : ℕ) → at + 2862 ≤ length s → get_or s at 0 ≤ 16 → 4 < get_or s (at + 1) 0 → false ≡ sound home clock (part s at 2862)
  unfolding sound
  too-many-waiting s at h few more =
      let en : get_or (part s at 2862) 0 0 ≡ get_or s at 0 = rw (add-zero at) at (get_d_part s at 2862 0 (omega arith)) in
      let em : get_or (part s at 2862) 1 0 ≡ get_or s (at + 1) 0 = get_d_part s at 2862 1 (omega arith) in
      sym (rw (en, le-leb (get_or s at 0) 16 few, em, lt-leb (get_or s (at + 1) 0) 4 more) refl)

  -- the tests of `sound`, one after the other
  pub sound-done : (s : Bytes) (at : ℕ) {z₁ z₂ z k₁ k₂ k r₁ r₂ g₁ g₂ g zk l r a : Bool} → at + 2862 ≤ length s → IsBytes s → get_or s at 0 ≤ 16 → get_or s (at + 1) 0 ≤ 4
      → z₁ ≡ unused s (at + 2 + get_or s at 0 * 143) ((16 - get_or s at 0) * 143)
      → z₂ ≡ unused s (at + 2290 + get_or s (at + 1) 0 * 143) ((4 - get_or s (at + 1) 0) * 143)
      → z ≡ (z₁ && z₂)
      → k₁ ≡ keys_apart s (at + 2) (get_or s at 0) (at + 2290) (get_or s (at + 1) 0)
      → k₂ ≡ keys_apart s (at + 2290) (get_or s (at + 1) 0) (at + 2290) 0
      → k ≡ (k₁ && k₂)
      → r₁ ≡ all_records (record_sound home clock true false) s (at + 2) (get_or s at 0)
      → r₂ ≡ all_records (record_sound home clock true true) s (at + 2290) (get_or s (at + 1) 0)
      → g₁ ≡ ranges_kept (entries_at s (at + 2) (get_or s at 0))
      → g₂ ≡ settled_by (entries_at s (at + 2) (get_or s at 0)) (entries_at s (at + 2290) (get_or s (at + 1) 0))
      → g ≡ (g₁ && g₂)
      → zk ≡ (z && k)
      → l ≡ (zk && g)
      → r ≡ (r₁ && r₂)
      → a ≡ (l && r)
      → a ≡ sound home clock (part s at 2862)
  sound-done s at h b ln lm z₁ z₂ ez k₁ k₂ ek r₁ r₂ g₁ g₂ eg ezk el er e =
      and_same e (and_same el (and_same ezk (and_same ez z₁ z₂) (and_same ek k₁ k₂)) (and_same eg g₁ g₂)) (and_same er r₁ r₂) ∙ sym (sound-is s at h b ln lm)
