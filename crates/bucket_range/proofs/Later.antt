-- Ranges kept, told by the entries behind each one. Assumes nothing.
use Prim.Native.Nat.{suc, ◌≤◌, ◌<◌}
use mathlib.Core.Path.{◌≡◌, refl, sym, ◌∙◌}
use mathlib.Core.Bool.{true, false}
use mathlib.Core.List.{List, [], ◌∷◌, ◌++◌}
use native.Mathlib.Omega.{arith}
use borrow.Author.Tests.{le-leb, leb-true}
use lib.Dec.{eqb, leb}
use lib.ListN.{length, length-append}
use Rattle.octets.specs.Octets.{part}
use Rattle.octets.proofs.Laws.{same_refl}
use Rattle.lists.specs.Lists.{select}
use Rattle.lists.proofs.Laws.{by_test, never, select-append, select-none, All-imp, All-every, all_true, true-all}
use Rattle.node.specs.declared.Endpoint.{Endpoint}
use Rattle.entry.specs.declared.Entry.{Entry}
use Rattle.bucket_model.specs.Facts.{RangesKept}
use Rattle.bucket_model.specs.Rules.{max_of_range, same_range, range_count}
use Rattle.bucket_model.specs.Sound.{ranges_kept}
use Rattle.bucket_model.proofs.Ranges.{ranges_add, ranges_bounded}

-- ---- the Boolean and the fact

fact : (l : List Entry) → ranges_kept l ≡ true → RangesKept l
fact l h =
    All-imp (λ e. leb (range_count e.endpoint l) max_of_range ≡ true) (λ e. range_count e.endpoint l ≤ max_of_range)
    (λ e g. leb-true (range_count e.endpoint l) max_of_range g) l (all_true (λ e. leb (range_count e.endpoint l) max_of_range) l h)

told : (l : List Entry) → RangesKept l → ranges_kept l ≡ true
told l h =
    true-all (λ e. leb (range_count e.endpoint l) max_of_range) l
    (All-imp (λ e. range_count e.endpoint l ≤ max_of_range) (λ e. leb (range_count e.endpoint l) max_of_range ≡ true)
    (λ e g. le-leb (range_count e.endpoint l) max_of_range g) l h)

-- ---- one more at the head

count-cons : (a : Endpoint) (p : Entry) (l : List Entry) → range_count a (p ∷ l) ≡ range_count a (l ++ (p ∷ []))
unfolding range_count
count-cons a p l =
    by_test (same_range a p.endpoint)
    (λ t. simp (select-append, length-append, t) (omega arith))
    (λ t. simp (select-append, length-append, t) (omega arith))

count_more : (a : Endpoint) (p : Entry) (l : List Entry) → range_count a l ≤ range_count a (p ∷ l)
unfolding range_count
count_more a p l = by_test (same_range a p.endpoint) (λ t. rw t (omega arith)) (λ t. rw t (omega arith))

-- an entry is of its own range, where it has one
count_own : (p : Entry) (l : List Entry) → 0 < range_count p.endpoint l → range_count p.endpoint (p ∷ l) ≡ suc (range_count p.endpoint l)
unfolding range_count
count_own p l h =
    let a = p.endpoint in
    by_test (eqb a.len 4)
    (λ t.
    let own : same_range p.endpoint p.endpoint ≡ true = rw (t, same_refl (part a.address 0 3)) refl in
    rw own refl)
    (λ t.
    let none : length (select (λ e. same_range a e.endpoint) l) ≡ 0 =
    select-none (λ e. same_range a e.endpoint) l (All-every (λ e. same_range a e.endpoint ≡ false) (λ e. rw t refl) l) in
    absurd (omega arith))

pub too_many : (p : Entry) (l : List Entry) → max_of_range ≤ range_count p.endpoint l → ranges_kept (p ∷ l) ≡ false
too_many p l h =
    by_test (ranges_kept (p ∷ l))
    (λ t. absurd (omega (arith, (fact (p ∷ l) t).0, count_own p l (omega arith))))
    (λ t. t)

pub no_more : (p : Entry) (l : List Entry) → range_count p.endpoint l < max_of_range → ranges_kept (p ∷ l) ≡ ranges_kept l
no_more p l h =
    by_test (ranges_kept l)
    (λ t.
    let r : RangesKept (l ++ (p ∷ [])) = ranges_add l p (fact l t) h in
    told (p ∷ l)
    (All-every (λ e. range_count e.endpoint (p ∷ l) ≤ max_of_range)
    (λ e. omega (arith, count-cons e.endpoint p l, ranges_bounded (l ++ (p ∷ [])) r e.endpoint)) (p ∷ l))
    ∙ sym t)
    (λ f.
    by_test (ranges_kept (p ∷ l))
    (λ t.
    let r : RangesKept l =
    All-imp (λ e. range_count e.endpoint (p ∷ l) ≤ max_of_range) (λ e. range_count e.endpoint l ≤ max_of_range)
    (λ e g. omega (arith, count_more e.endpoint p l)) l (fact (p ∷ l) t).1 in
    never (sym (told l r) ∙ f))
    (λ t. t ∙ sym f))
