-- The answer to an accepted pong, by the standing of its sender. Assumes nothing.
use mathlib.Core.Path.{◌≡◌, refl, sym, ap, ◌∙◌}
use mathlib.Core.Bool.{Bool, true, false}
use mathlib.Core.List.{List, [], ◌∷◌, ◌++◌}
use borrow.Author.Tests.{not-false}
use Rattle.octets.specs.Octets.{Bytes}
use Rattle.lists.specs.Lists.{any, empty}
use Rattle.entry.specs.declared.Entry.{Entry}
use Rattle.bucket_model.specs.Contents.{Contents}
use Rattle.bucket_model.specs.Rules.{of_key, held, has_entry, free_entry, range_full, range_taken}
use Rattle.bucket_lookup.specs.declared.Lookup.{Lookup}
use Rattle.bucket_lookup.specs.Steps.{found, LooksUp}
use Rattle.packet.specs.declared.Pong.{Pong}
use Rattle.call_answer.specs.declared.Standing.TheVariants.{Tail, TookEntry, RangeFull, Waiting}
use Rattle.call_answer.specs.declared.Outcome.TheVariants as outcome
use Rattle.call_answer.specs.declared.Received.{Received}
use Rattle.call_answer.specs.Answer.{plain, head_of, accepted_pong}

empty_nil : (l : List Entry) → empty l ≡ true → l ≡ []
empty_nil [] h = refl
empty_nil (e ∷ l) h = let z : false ≡ true = h in cc

module _ (key : Bytes) (p : Pong) (m : Contents) where
  abbrev answer : Received
  answer = accepted_pong key p m

  pub was-entry : {r : Received} → has_entry key m ≡ true → r ≡ plain (outcome.Pong p Tail) → r ≡ answer
  was-entry h e = e ∙ sym (rw h refl)

  -- what was looked up is the replacement of the key
  module _ (l : Lookup) (u : LooksUp key m l) (h : has_entry key m ≡ false) where
    waits-alone : (q : Entry → Bool) → any q (of_key key m.replacements) ≡ any q (found l)
    waits-alone q =
        let none : of_key key m.entries ≡ [] = empty_nil (of_key key m.entries) (not-false (empty (of_key key m.entries)) h) in
        let all : held key m ≡ of_key key m.replacements = ap (λ l. l ++ of_key key m.replacements) none in
        ap (any q) (sym (u.held ∙ all))

    pub range-of : {b : Bool} → b ≡ any (λ e. range_full m.entries e.endpoint) (found l) → range_taken key m ≡ b
    range-of e = waits-alone (λ e. range_full m.entries e.endpoint) ∙ sym e

  pub range-full : {r : Received} → has_entry key m ≡ false → range_taken key m ≡ true → r ≡ plain (outcome.Pong p RangeFull) → r ≡ answer
  range-full h f e = e ∙ sym (rw (h, f) refl)

  pub took-entry : {r : Received} → has_entry key m ≡ false → range_taken key m ≡ false → free_entry m ≡ true → r ≡ plain (outcome.Pong p TookEntry) → r ≡ answer
  took-entry h t f e = e ∙ sym (rw (h, t, f) refl)

  pub waits : {r : Received} (e : Entry) → has_entry key m ≡ false → range_taken key m ≡ false → free_entry m ≡ false → e ≡ head_of m
      → r ≡ record { outcome = outcome.Pong p (Waiting e.ping); head = record { key = e.key; endpoint = e.endpoint } } → r ≡ answer
  waits e h t f is er =
      er ∙ ap (λ (x : Entry). record { outcome = outcome.Pong p (Waiting x.ping); head = record { key = x.key; endpoint = x.endpoint } }) is
      ∙ sym (rw (h, t, f) refl)
