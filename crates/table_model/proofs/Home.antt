-- The test of a bucket is that of everything but the own-bucket rule, and then of that rule. Assumes nothing.
use mathlib.Core.Path.{◌≡◌, refl, sym, ap, ◌∙◌}
use mathlib.Core.Bool.{Bool, true, false, ◌&&◌}
use mathlib.Core.List.{List, [], ◌∷◌, ◌++◌}
use Prim.Native.Nat.{ℕ, ◌+◌, ◌-◌}
use lib.Dec.{leb}
use lib.ListN.{get_or}
use Rattle.octets.specs.Octets.{Bytes, same_bytes}
use Rattle.lists.specs.Lists.{all}
use Rattle.lists.proofs.Laws.{and_left}
use Rattle.entry.specs.declared.Entry.{Entry}
use Rattle.bucket_model.specs.Contents.{Contents, encode_bucket, decode_bucket}
use Rattle.bucket_model.specs.Sound.{entry_sound, keeps_rules, sound, in_time, address_form, distinct, ranges_kept, may_wait}
use Rattle.bucket_model.specs.Rules.{is_proved}
use Rattle.distance.specs.Distance.{home}
use Rattle.table_model.specs.Layout.{own_of, clock_of, count_of, bucket_bytes}
use Rattle.table_model.specs.Sound.{anywhere, bucket_sound}

and_swap : (a b c : Bool) → ((a && b) && c) ≡ ((b && c) && a)
and_swap true true true = refl
and_swap true true false = refl
and_swap true false c = refl
and_swap false true true = refl
and_swap false true false = refl
and_swap false false c = refl

and_regroup : (a b c d : Bool) → ((a && b) && (c && d)) ≡ ((a && c) && (b && d))
and_regroup true true c d = refl
and_regroup true false true d = refl
and_regroup true false false d = refl
and_regroup false b c d = refl

and_last : (a b c : Bool) → (a && (b && c)) ≡ ((a && b) && c)
and_last true b c = refl
and_last false b c = refl

module _ {A : Type 0} where
  pub all_both : (q r : A → Bool) (l : List A) → all (λ a. q a && r a) l ≡ (all q l && all r l)
  all_both q r [] = refl
  all_both q r (a ∷ l) = ap (λ b. (q a && r a) && b) (all_both q r l) ∙ and_regroup (q a) (r a) (all q l) (all r l)

  pub all_append : (q : A → Bool) (l m : List A) → all q (l ++ m) ≡ (all q l && all q m)
  all_append q [] m = refl
  all_append q (a ∷ l) m = ap (λ b. q a && b) (all_append q l m) ∙ and_last (q a) (all q l) (all q m)

module _ (here : Bytes → Bool) (clock : ℕ) where
  abbrev at_home : Entry → Bool
  at_home e = here e.key

  entries-split : (l : List Entry) → all (entry_sound here clock) l ≡ (all at_home l && all (entry_sound anywhere clock) l)
  unfolding entry_sound
  entries-split l = all_both at_home (λ e. in_time clock e && address_form e.endpoint) l

  rules-split : (m : Contents)
      → keeps_rules here clock m ≡ (keeps_rules anywhere clock m && (all at_home m.entries && all at_home m.replacements))
  unfolding keeps_rules
  rules-split m =
      let l : List Entry = m.entries ++ m.replacements in
      let rest : Bool = distinct l && (all (λ e. is_proved e.proof) m.entries && (ranges_kept m.entries && all (may_wait m.entries) m.replacements)) in
      ap (λ b. b && rest) (entries-split l)
      ∙ and_swap (all at_home l) (all (entry_sound anywhere clock) l) rest
      ∙ ap (λ b. (all (entry_sound anywhere clock) l && rest) && b) (all_append at_home m.entries m.replacements)

  pub sound-split : (s : Bytes)
      → sound here clock s
      ≡ (sound anywhere clock s && (all at_home (decode_bucket s).entries && all at_home (decode_bucket s).replacements))
  unfolding sound
  sound-split s =
      let a : Bool = leb (get_or s 0 0) 16 in
      let b : Bool = leb (get_or s 1 0) 4 in
      let c : Bool = same_bytes (encode_bucket (decode_bucket s)) s in
      let r : Bool = keeps_rules anywhere clock (decode_bucket s) in
      let h : Bool = all at_home (decode_bucket s).entries && all at_home (decode_bucket s).replacements in
      ap (λ k. a && (b && (c && k))) (rules-split (decode_bucket s))
      ∙ ap (λ k. a && (b && k)) (and_last c r h)
      ∙ ap (λ k. a && k) (and_last b (c && r) h)
      ∙ and_last a (b && (c && r)) h

  pub sound-anywhere : (s : Bytes) → sound here clock s ≡ true → sound anywhere clock s ≡ true
  sound-anywhere s h =
      and_left (sound anywhere clock s) (all at_home (decode_bucket s).entries && all at_home (decode_bucket s).replacements) (sym (sound-split s) ∙ h)

-- the bucket in a slot, by what is read of the header
pub slot_is : (s : Bytes) (slot : ℕ) {own : Bytes} {clock count : ℕ} {r : Bool}
    → own ≡ own_of s → clock ≡ clock_of s → count ≡ count_of s
    → r ≡ sound (home own (256 - count + slot)) clock (bucket_bytes s slot)
    → r ≡ bucket_sound s slot
slot_is s slot eo ec en er = cc
