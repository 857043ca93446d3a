-- A sweep that removes nothing changes nothing. Assumes nothing.
use mathlib.Core.Path.{◌≡◌, refl, ap}
use mathlib.Core.Bool.{Bool, true, false}
use mathlib.Core.List.{List, [], ◌∷◌, append-nil}
use Prim.Native.Nat.{ℕ}
use Rattle.octets.specs.Octets.{Bytes}
use Rattle.lists.specs.Lists.{select, all, All}
use Rattle.lists.proofs.Laws.{and_left, and_right}
use Rattle.entry.specs.declared.Entry.{Entry}
use Rattle.bucket_model.specs.Contents.{Contents}
use Rattle.bucket_model.specs.Rules.{is_promoted, stays_entry, stays_replacement, promoted, remaining, on_sweep}
use Rattle.bucket_model.proofs.Sound.{BucketSound}

select_all : (q : Entry → Bool) (l : List Entry) → all q l ≡ true → select q l ≡ l
select_all q [] h = refl
select_all q (a ∷ l) h = simp (and_left (q a) (all q l) h) (ap (λ m. a ∷ m) (select_all q l (and_right (q a) (all q l) h)))

-- none is promoted of a line that is settled
none_promoted : (taken line : List Entry) → All (λ p. is_promoted taken p ≡ false) line → promoted taken line ≡ []
none_promoted taken [] w = refl
none_promoted taken (e ∷ line) w = simp w.0 (none_promoted taken line w.1)

all_remain : (taken line : List Entry) → All (λ p. is_promoted taken p ≡ false) line → remaining taken line ≡ line
all_remain taken [] w = refl
all_remain taken (e ∷ line) w = simp w.0 (ap (λ m. e ∷ m) (all_remain taken line w.1))

pub sweep_unchanged : (here : Bytes → Bool) (clock now : ℕ) (m : Contents) → BucketSound here clock m
    → all (stays_entry now) m.entries ≡ true → all (stays_replacement now) m.replacements ≡ true → on_sweep now m ≡ m
unfolding on_sweep
sweep_unchanged here clock now m s he hr =
    let entries : select (stays_entry now) m.entries ≡ m.entries = select_all (stays_entry now) m.entries he in
    let line : select (stays_replacement now) m.replacements ≡ m.replacements = select_all (stays_replacement now) m.replacements hr in
    let same : record { entries = m.entries; replacements = m.replacements } ≡ m = refl in
    simp (
      entries,
      line,
      none_promoted m.entries m.replacements s.settled,
      all_remain m.entries m.replacements s.settled,
      append-nil m.entries,
    ) same
