-- What a rule changes by key, it changes at the position where the key is held. Assumes nothing.
use mathlib.Core.Path.{◌≡◌, refl, sym, ap, ◌∙◌}
use mathlib.Core.Bool.{true, false, cond, not}
use mathlib.Core.List.{List, [], ◌∷◌, ◌++◌, map, append-nil}
use Prim.Native.Nat.{ℕ}
use borrow.Author.Tests.{not-true, not-false}
use lib.ListN.{get_or, set}
use Rattle.octets.specs.Octets.{Bytes}
use Rattle.lists.specs.Lists.{empty}
use Rattle.lists.proofs.Laws.{by_test}
use Rattle.entry.specs.declared.Entry.{Entry}
use Rattle.entry.specs.Layout.{no_entry}
use Rattle.bucket_model.specs.Contents.{Contents}
use Rattle.bucket_model.specs.Rules.{is_of, of_key, without, update, to_tail, held, may_take, takes_entry, pinged, ponged, heard, new_entry, on_ping_sent, on_pong, on_heard}
use Rattle.bucket_model.specs.Sound.{distinct}
use Rattle.bucket.specs.declared.Position.TheVariants.{InEntries, InReplacements}
use Rattle.bucket.specs.Steps.{remove_at, index_of, position_of}
use Rattle.bucket_lookup.specs.declared.Lookup.{Lookup}
use Rattle.bucket_lookup.specs.Steps.{found, LooksUp}
use Rattle.bucket_rules.specs.Steps.{put_at, tail_at, promote_at, join_line}
use Rattle.bucket_lookup.proofs.ByKey.{none_of, none-without, none-update, one_of, one-without, one-update, Found, located}

-- one entry of a list, which is the one of the key
module _ (key : Bytes) (l : List Entry) (i : ℕ) (f : Entry → Entry) (e : Entry) (h : Found key l i) (one : of_key key l ≡ e ∷ []) where
  removed : without key l ≡ remove_at i l
  removed = rw h.at (one-without key l h.keys h.below)

  changed : update key f l ≡ set l i (f e)
  changed =
      let is : get_or l (index_of (is_of key) l) no_entry ≡ e = cc (one_of key no_entry l h.keys h.below) in
      rw (h.at, ← is) (one-update key f no_entry l h.keys h.below)

module _ (key : Bytes) (m : Contents) (l : Lookup) (h : distinct (m.entries ++ m.replacements) ≡ true) (u : LooksUp key m l) (f : Entry → Entry) where
  in-first : (i : ℕ) → position_of key m ≡ InEntries i → of_key key m.replacements ≡ [] → of_key key m.entries ≡ l.entry ∷ []
  in-first i p nil =
      let pos : l.position ≡ InEntries i = u.position ∙ p in
      sym (append-nil (of_key key m.entries)) ∙ ap (λ t. of_key key m.entries ++ t) (sym nil) ∙ sym (rw pos at u.held)

  in-second : (i : ℕ) → position_of key m ≡ InReplacements i → of_key key m.entries ≡ [] → of_key key m.replacements ≡ l.entry ∷ []
  in-second i p nil =
      let pos : l.position ≡ InReplacements i = u.position ∙ p in
      let both : l.entry ∷ [] ≡ held key m = rw pos at u.held in
      sym (both ∙ ap (λ t. t ++ of_key key m.replacements) nil)

  pub put_is : record { entries = update key f m.entries; replacements = update key f m.replacements } ≡ put_at l.position (f l.entry) m
  put_is =
      located key m h
      (λ i p x no. rw (u.position, p, changed key m.entries i f l.entry x (in-first i p (none_of key m.replacements no)), none-update key f m.replacements no) refl)
      (λ i p no x. rw (u.position, p, changed key m.replacements i f l.entry x (in-second i p (none_of key m.entries no)), none-update key f m.entries no) refl)
      (λ p no no'. rw (u.position, p, none-update key f m.entries no, none-update key f m.replacements no') refl)

  pub tail-is : record { entries = to_tail key f m.entries; replacements = update key f m.replacements } ≡ tail_at l.position (f l.entry) m
  tail-is =
      located key m h
      (λ i p x no.
      let one : of_key key m.entries ≡ l.entry ∷ [] = in-first i p (none_of key m.replacements no) in
      rw (u.position, p, removed key m.entries i f l.entry x one, one, none-update key f m.replacements no) refl)
      (λ i p no x.
      let none : of_key key m.entries ≡ [] = none_of key m.entries no in
      rw (u.position, p, none-without key m.entries no, none, append-nil, changed key m.replacements i f l.entry x (in-second i p none)) refl)
      (λ p no no'. rw (u.position, p, none-without key m.entries no, none_of key m.entries no, append-nil, none-update key f m.replacements no') refl)

  pub promote-is : ((p : Entry) → (f p).endpoint ≡ p.endpoint)
      → cond (takes_entry key m)
      (record {
        entries = to_tail key f m.entries ++ map f (of_key key m.replacements);
        replacements = without key m.replacements;
      })
      (record { entries = to_tail key f m.entries; replacements = update key f m.replacements })
      ≡ promote_at l.position (f l.entry) m
  promote-is same =
      located key m h
      (λ i p x no.
      let one : of_key key m.entries ≡ l.entry ∷ [] = in-first i p (none_of key m.replacements no) in
      rw (none_of key m.replacements no, u.position, p, removed key m.entries i f l.entry x one, one, none-update key f m.replacements no) refl)
      (λ i p no x.
      let none : of_key key m.entries ≡ [] = none_of key m.entries no in
      let one : of_key key m.replacements ≡ l.entry ∷ [] = in-second i p none in
      let at : may_take m.entries (f l.entry).endpoint ≡ may_take m.entries l.entry.endpoint = ap (may_take m.entries) (same l.entry) in
      by_test (may_take m.entries l.entry.endpoint)
      (λ may. rw (one, may, u.position, p, at ∙ may, none-without key m.entries no, none, append-nil, removed key m.replacements i f l.entry x one) refl)
      (λ may_not.
      rw (one, may_not, u.position, p, at ∙ may_not, none-without key m.entries no, none, append-nil, changed key m.replacements i f l.entry x one) refl))
      (λ p no no'.
      rw (none_of key m.replacements no', u.position, p, none-without key m.entries no, none_of key m.entries no, append-nil, none-update key f m.replacements no') refl)

-- ---- the rules

module _ (key : Bytes) (m : Contents) (l : Lookup) (now : ℕ) (h : distinct (m.entries ++ m.replacements) ≡ true) (u : LooksUp key m l) where
  pub heard-is : on_heard now key m ≡ tail_at l.position (heard now l.entry) m
  unfolding on_heard
  heard-is = tail-is key m l h u (heard now)

  pub pong-is : on_pong now key m ≡ promote_at l.position (ponged now l.entry) m
  unfolding on_pong
  pong-is = promote-is key m l h u (ponged now) (λ p. refl)

  module _ (address hash : Bytes) (udp tcp : ℕ) where
    pub pinged-is : not (empty (found l)) ≡ true → on_ping_sent now key address udp tcp hash m ≡ put_at l.position (pinged now hash l.entry) m
    unfolding on_ping_sent
    pinged-is t =
        let some : empty (held key m) ≡ false = ap (λ x. empty x) (sym u.held) ∙ not-true _ t in
        rw some (put_is key m l h u (pinged now hash))

    pub new_is : not (empty (found l)) ≡ false → on_ping_sent now key address udp tcp hash m ≡ join_line (new_entry now key address udp tcp hash) m
    unfolding on_ping_sent
    new_is t =
        let none : empty (held key m) ≡ true = ap (λ x. empty x) (sym u.held) ∙ not-false _ t in
        rw none refl
