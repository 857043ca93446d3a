-- Ranges (document 02, C-16): how many entries of a list are of a range, and who may take an entry beside them.
use Prim.Native.Nat.{ℕ, suc, ◌+◌, ◌<◌, ◌≤◌}
use mathlib.Core.Path.{◌≡◌, refl, ap, sym, ◌∙◌}
use mathlib.Core.Bool.{Bool, true, false, cond, not, ◌&&◌}
use mathlib.Core.List.{List, [], ◌∷◌, ◌++◌, map, append-nil, append_assoc}
use native.Mathlib.Omega.{arith}
use borrow.Author.Tests.{ltb-true, ltb-false, le-ltb, lt-ltb, leb-false, le-leb, lt-leb, eqb-true, not-true, not-false}
use lib.Dec.{eqb, leb, ltb}
use lib.ListN.{length, length-append, length-map}
use Rattle.octets.specs.Octets.{Bytes, part, same_bytes}
use Rattle.octets.proofs.Laws.{same_eq, same_refl}
use Rattle.lists.specs.Lists.{select, any, All}
use Rattle.lists.proofs.Laws.{by_test, never, and_left, and_right, or_elim, select-append, select-comm, length-select, length-split, All-select, All-append, All-map, All-imp, passing}
use Rattle.node.specs.declared.Endpoint.{Endpoint}
use Rattle.entry.specs.declared.Entry.{Entry}
pub use Rattle.bucket_model.specs.Facts.{RangesKept}
use Rattle.bucket_model.specs.Facts.{SeatFor}
use Rattle.bucket_model.specs.Rules.{max_entries, max_of_range, is_of, of_key, without, update, to_tail, is_proved, same_range, range_count, range_full, may_take, is_promoted, promoted}

-- ---- who may take an entry

pub take_room : (t : List Entry) (a : Endpoint) → may_take t a ≡ true → length t < max_entries
unfolding may_take
take_room t a h = ltb-true (length t) max_entries (and_left (ltb (length t) max_entries) (not (range_full t a)) h)

pub take_range : (t : List Entry) (a : Endpoint) → may_take t a ≡ true → range_count a t < max_of_range
unfolding may_take
take_range t a h = leb-false max_of_range (range_count a t) (not-true (range_full t a) (and_right (ltb (length t) max_entries) (not (range_full t a)) h))

pub may-take : (t : List Entry) (a : Endpoint) → length t < max_entries → range_count a t < max_of_range → may_take t a ≡ true
unfolding may_take
may-take t a room few = rw (lt-ltb (length t) max_entries room, lt-leb max_of_range (range_count a t) few)

count-append : (a : Endpoint) (t m : List Entry) → range_count a (t ++ m) ≡ range_count a t + range_count a m
unfolding range_count
count-append a t m = simp (select-append, length-append)

-- with fewer entries it may too
earlier : (t m : List Entry) (a : Endpoint) → may_take (t ++ m) a ≡ true → may_take t a ≡ true
earlier t m a h =
    let room = take_room (t ++ m) a h in
    let range = take_range (t ++ m) a h in
    may-take t a (omega (arith, length-append t m)) (omega (arith, count-append a t m))

pub not_later : (t m : List Entry) (p : Entry) → is_promoted t p ≡ false → is_promoted (t ++ m) p ≡ false
not_later t m p h =
    by_test (is_promoted (t ++ m) p)
    (λ g.
    let proved = and_left (is_proved p.proof) (may_take (t ++ m) p.endpoint) g in
    let may = earlier t m p.endpoint (and_right (is_proved p.proof) (may_take (t ++ m) p.endpoint) g) in
    never (sym (rw (proved, may)) ∙ h))
    (λ g. g)

-- ---- a test that a change leaves

module _ (q : Entry → Bool) (f : Entry → Entry) (qf : (p : Entry) → q (f p) ≡ q p) where
  select-map : (l : List Entry) → select q (map f l) ≡ map f (select q l)
  select-map [] = refl
  select-map (p ∷ l) = by_test (q p) (λ h. simp (qf p, h, select-map l)) (λ h. simp (qf p, h, select-map l))

  count-tail : (k : Bytes) (l : List Entry) → length (select q (to_tail k f l)) ≡ length (select q l)
  count-tail k l =
      simp (select-append, length-append, select-map (of_key k l), length-map)
      (omega (
        arith,
        ap length (select-comm q (λ e. not (is_of k e)) l),
        ap length (select-comm q (is_of k) l),
        length-split (is_of k) (select q l),
      ))

-- ---- the ranges of the entries

-- f leaves the endpoint as it is
abbrev pub KeepsEndpoint : (Entry → Entry) → Type 0
KeepsEndpoint f = (p : Entry) → (f p).endpoint ≡ p.endpoint

pub range_tail : (a : Endpoint) (f : Entry → Entry) → KeepsEndpoint f → (k : Bytes) (l : List Entry) → range_count a (to_tail k f l) ≡ range_count a l
unfolding range_count
range_tail a f kf k l = count-tail (λ e. same_range a e.endpoint) f (λ p. ap (same_range a) (kf p)) k l

pub range_map : (a : Endpoint) (f : Entry → Entry) → KeepsEndpoint f → (l : List Entry) → range_count a (map f l) ≡ range_count a l
unfolding range_count
range_map a f kf l =
    ap length (select-map (λ e. same_range a e.endpoint) f (λ p. ap (same_range a) (kf p)) l) ∙ simp length-map

range_select : (a : Endpoint) (r : Entry → Bool) (l : List Entry) → range_count a (select r l) ≤ range_count a l
unfolding range_count
range_select a r l =
    omega (arith, ap length (select-comm (λ e. same_range a e.endpoint) r l), length-select r (select (λ e. same_range a e.endpoint) l))

-- the same range is counted alike
same-range : (a b : Endpoint) → same_range a b ≡ true → (c : Endpoint) → same_range b c ≡ same_range a c
same-range a b h c =
    let four = and_left (eqb a.len 4) _ h in
    let rest = and_right (eqb a.len 4) (eqb b.len 4 && same_bytes (part a.address 0 3) (part b.address 0 3)) h in
    let four' = and_left (eqb b.len 4) (same_bytes (part a.address 0 3) (part b.address 0 3)) rest in
    let same = same_eq (part a.address 0 3) (part b.address 0 3) (and_right (eqb b.len 4) (same_bytes (part a.address 0 3) (part b.address 0 3)) rest) in
    rw (four, four', same) refl

count_same : (a b : Endpoint) → same_range a b ≡ true → (l : List Entry) → range_count b l ≡ range_count a l
unfolding range_count
count_same a b h [] = refl
count_same a b h (p ∷ l) =
    rw (same-range a b h p.endpoint)
    (by_test (same_range a p.endpoint) (λ g. rw g (ap suc (count_same a b h l))) (λ g. rw g (count_same a b h l)))

count_one : (a : Endpoint) (p : Entry) → range_count a (p ∷ []) ≤ 1
unfolding range_count
count_one a p = by_test (same_range a p.endpoint) (λ g. rw g (omega arith)) (λ g. rw g (omega arith))

count_none : (a : Endpoint) (p : Entry) → same_range a p.endpoint ≡ false → range_count a (p ∷ []) ≡ 0
unfolding range_count
count_none a p h = rw h refl

-- one more, where its range has fewer than two
pub ranges_add : (t : List Entry) (p : Entry) → RangesKept t → range_count p.endpoint t < max_of_range → RangesKept (t ++ (p ∷ []))
ranges_add t p r h =
    All-append (λ e. range_count e.endpoint (t ++ (p ∷ [])) ≤ max_of_range) t (p ∷ [])
    (All-imp (λ e. range_count e.endpoint t ≤ max_of_range) (λ e. range_count e.endpoint (t ++ (p ∷ [])) ≤ max_of_range)
    (λ e g.
    by_test (same_range e.endpoint p.endpoint)
    (λ f. omega (arith, count-append e.endpoint t (p ∷ []), count_one e.endpoint p, count_same e.endpoint p.endpoint f t))
    (λ f. omega (arith, count-append e.endpoint t (p ∷ []), count_none e.endpoint p f)))
    t r)
    (omega (arith, count-append p.endpoint t (p ∷ []), count_one p.endpoint p), tt)

pub ranges_select : (q : Entry → Bool) (l : List Entry) → RangesKept l → RangesKept (select q l)
ranges_select q l r =
    All-imp (λ e. range_count e.endpoint l ≤ max_of_range) (λ e. range_count e.endpoint (select q l) ≤ max_of_range)
    (λ e g. omega (arith, range_select e.endpoint q l)) (select q l)
    (All-select (λ e. range_count e.endpoint l ≤ max_of_range) q l r)

-- promoted entries keep the ranges
pub ranges_promoted : (t l : List Entry) → RangesKept t → RangesKept (t ++ promoted t l)
ranges_promoted t [] r = simp append-nil r
ranges_promoted t (p ∷ l) r =
    by_test (is_promoted t p)
    (λ g. rw g (rw append_assoc at (ranges_promoted (t ++ (p ∷ [])) l (ranges_add t p r (take_range t p.endpoint (and_right (is_proved p.proof) (may_take t p.endpoint) g))))))
    (λ g. rw g (ranges_promoted t l r))

-- a change that leaves endpoints, moved to the tail
pub ranges_tail : (f : Entry → Entry) → KeepsEndpoint f → (k : Bytes) (l : List Entry) → RangesKept l → RangesKept (to_tail k f l)
ranges_tail f kf k l r =
    All-imp (λ e. range_count e.endpoint l ≤ max_of_range) (λ e. range_count e.endpoint (to_tail k f l) ≤ max_of_range)
    (λ e g. rw (range_tail e.endpoint f kf k l) g) (to_tail k f l)
    (All-append (λ e. range_count e.endpoint l ≤ max_of_range) (without k l) (map f (of_key k l))
    (All-select (λ e. range_count e.endpoint l ≤ max_of_range) _ l r)
    (All-map (λ e. range_count e.endpoint l ≤ max_of_range) (λ e. range_count e.endpoint l ≤ max_of_range) f (λ e g. rw (kf e) g)
    (of_key k l) (All-select (λ e. range_count e.endpoint l ≤ max_of_range) (is_of k) l r)))

pub range_update : (a : Endpoint) (f : Entry → Entry) → KeepsEndpoint f → (k : Bytes) (l : List Entry) → range_count a (update k f l) ≡ range_count a l
range_update a f kf k l = range_map a (λ e. cond (is_of k e) (f e) e) (λ p. by_test (is_of k p) (λ h. rw h (kf p)) (λ h. rw h refl)) l

-- two lists with as many entries, and as many of each range
pub record Alike (t u : List Entry) : Type 0 where
  pub many : length t ≡ length u
  pub of_range : (a : Endpoint) → range_count a t ≡ range_count a u

-- beside them the same nodes may take an entry
pub may_alike : (t u : List Entry) → Alike t u → (a : Endpoint) → may_take t a ≡ may_take u a
unfolding may_take
may_alike t u h a = rw (h.many, h.of_range a) refl

pub alike_tail : (f : Entry → Entry) → KeepsEndpoint f → (k : Bytes) (l : List Entry) → Alike (to_tail k f l) l
alike_tail f kf k l =
    record {
      many = simp (length-append, length-map) (length-split (is_of k) l);
      of_range = λ a. range_tail a f kf k l;
    }

pub alike_update : (f : Entry → Entry) → KeepsEndpoint f → (k : Bytes) (l : List Entry) → Alike (update k f l) l
alike_update f kf k l = record { many = simp length-map; of_range = λ a. range_update a f kf k l }

pub ranges_update : (f : Entry → Entry) → KeepsEndpoint f → (k : Bytes) (l : List Entry) → RangesKept l → RangesKept (update k f l)
ranges_update f kf k l r =
    All-imp (λ e. range_count e.endpoint l ≤ max_of_range) (λ e. range_count e.endpoint (update k f l) ≤ max_of_range)
    (λ e g. rw (range_update e.endpoint f kf k l) g) (update k f l)
    (All-map (λ e. range_count e.endpoint l ≤ max_of_range) (λ e. range_count e.endpoint l ≤ max_of_range) (λ e. cond (is_of k e) (f e) e)
    (λ e g. by_test (is_of k e) (λ h. rw (h, kf e) g) (λ h. rw h g)) l r)

-- the one node that takes an entry
pub takes_seat : (X : Bytes) (t l : List Entry) → length (of_key X l) ≤ 1 → any (λ e. may_take t e.endpoint) (of_key X l) ≡ true → SeatFor X t l
takes_seat X t l few h = one (of_key X l) few h
  where
    one : (rs : List Entry) → length rs ≤ 1 → any (λ e. may_take t e.endpoint) rs ≡ true
        → (length t < max_entries) × All (λ p. range_count p.endpoint t < max_of_range) rs
    one [] few h = never (sym h)
    one (p ∷ []) few h =
        let may = or_elim (may_take t p.endpoint) false h (λ g. g) (λ g. never (sym g)) in
        (take_room t p.endpoint may, (take_range t p.endpoint may, tt))
    one (p ∷ q ∷ rs) few h = absurd (omega arith)

pub seat_takes : (X : Bytes) (t l : List Entry) → 0 < length (of_key X l) → SeatFor X t l → any (λ e. may_take t e.endpoint) (of_key X l) ≡ true
seat_takes X t l some seat = one (of_key X l) some seat.1
  where
    one : (rs : List Entry) → 0 < length rs → All (λ p. range_count p.endpoint t < max_of_range) rs → any (λ e. may_take t e.endpoint) rs ≡ true
    one [] some few = absurd (omega arith)
    one (p ∷ rs) some few = rw (may-take t p.endpoint seat.0 few.0)

pub takes_room : (t rs : List Entry) → any (λ e. may_take t e.endpoint) rs ≡ true → length t < max_entries
takes_room t [] h = never (sym h)
takes_room t (p ∷ rs) h = or_elim (may_take t p.endpoint) (any (λ e. may_take t e.endpoint) rs) h (λ g. take_room t p.endpoint g) (λ g. takes_room t rs g)

pub ranges_taken : (f : Entry → Entry) → KeepsEndpoint f → (t u rs : List Entry) → Alike u t → RangesKept u → length rs ≤ 1 → any (λ e. may_take t e.endpoint) rs ≡ true
    → RangesKept (u ++ map f rs)
ranges_taken f kf t u [] al r few h = simp append-nil r
ranges_taken f kf t u (p ∷ []) al r few h =
    ranges_add u (f p) r
    (rw (kf p, al.of_range p.endpoint) (take_range t p.endpoint (or_elim (may_take t p.endpoint) false h (λ g. g) (λ g. never (sym g)))))
ranges_taken f kf t u (p ∷ q ∷ rs) al r few h = absurd (omega arith)

-- no range has more than two
pub ranges_bounded : (l : List Entry) → RangesKept l → (a : Endpoint) → range_count a l ≤ max_of_range
unfolding range_count
ranges_bounded l r a =
    by_test (ltb 0 (range_count a l))
    (λ g.
    let one = passing (λ e. range_count e.endpoint l ≤ max_of_range) (λ e. same_range a e.endpoint) l r (ltb-true 0 (range_count a l) g) in
    omega (arith, count_same a one.0.endpoint one.2 l, one.1))
    (λ g. omega (arith, ltb-false 0 (range_count a l) g))
