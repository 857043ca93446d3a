-- The buckets in their order: sorting all is sorting bucket after bucket, and of the sixteen nearest none lies outside those taken.
-- Assumes nothing.
use Prim.Native.Nat.{ℕ, zero, suc, ◌+◌, ◌-◌, ◌*◌, ◌^◌, ◌/◌, ◌%◌, ◌≤◌, ◌<◌}
use mathlib.Core.Path.{◌≡◌, refl, sym, ap, ◌∙◌}
use mathlib.Core.Bool.{true, false, not}
use mathlib.Core.List.{List, [], ◌∷◌, ◌++◌, append_assoc, append-nil, flat_map}
use native.Mathlib.Nat.{pow-suc, div-eq_of_lt, div-eq_of_lt-le}
use native.Mathlib.Numerals.{add-one}
use native.Mathlib.Omega.{arith}
use borrow.Author.Tests.{leb-true, ltb-true, eqb-true, eqb-false, not-true}
use lib.Dec.{leb, ltb}
use lib.Pow.{pow_mono}
use lib.ListN.{length, take}
use lib.Seq.{take-append-le, take-append-add, append_snoc}
use Rattle.octets.specs.Octets.{Bytes, number}
use Rattle.lists.specs.Lists.{All, Rising}
use Rattle.lists.proofs.Laws.{and_left, and_right, All-append, All-imp, All-every, All-and}
use Rattle.distance.specs.Distance.{distance, in_bucket}
use Rattle.closest_nearest.specs.Sort.{insert_all, sort_by}
use Rattle.closest_nearest.proofs.Sort.{All-sort, insert-append, length-sort}
use Rattle.closest_order.specs.Taking.{is_set, rising, falling, taking_order, taken_from}
use Rattle.closest_order.proofs.Turns.{taken-cases, taken_none}
use Rattle.closest_order.proofs.Nearer.{nearer, farther}
use Rattle.closest_order.proofs.Blocks.{insert-between}
use Rattle.closest_order.proofs.Order.{set_ones, clear_ones, order_from, order_is, order-more, Within, within-set, within-clear, Rising-between, between-All}

flat_map_append : {A : Type 0} (g : ℕ → List A) (l m : List ℕ) → flat_map g (l ++ m) ≡ flat_map g l ++ flat_map g m
unfolding flat_map
flat_map_append g [] m = refl
flat_map_append g (i ∷ l) m = ap (λ r. g i ++ r) (flat_map_append g l m) ∙ sym (append_assoc (g i) (flat_map g l) (flat_map g m))

-- those before an element are before it
Rising_ahead : {A : Type 0} (R : A → A → Type 0) (a : A) (l m : List A) → Rising R (l ++ a ∷ m) → All (λ b. R b a) l
Rising_ahead R a [] m r = tt
Rising_ahead R a (b ∷ l) m r = ((between-All (R b) a l m r.0).0, Rising_ahead R a l m r.1)

All_swap : {A : Type 0} (R : A → A → Type 0) (l m : List A) → All (λ a. All (R a) m) l → All (λ b. All (λ a. R a b) l) m
All_swap R [] m h = All-every (λ b. Unit {0}) (λ b. tt) m
All_swap R (a ∷ l) m h = All-and (R a) (λ b. All (λ c. R c b) l) m h.0 (All_swap R l m h.1)

-- ---- what is taken

module _ (seated : ℕ → ℕ) where
  All-taken : (P : ℕ → Type 0) (n : ℕ) (is : List ℕ) → All P is → All P (taken_from seated n is)
  All-taken P n [] p = rw (taken_none seated n) tt
  All-taken P n (i ∷ is) p = taken-cases seated (All P) n i is (λ h. (p.0, tt)) (λ h. (p.0, All-taken P (n + seated i) is p.1))

  Rising-taken : (R : ℕ → ℕ → Type 0) (n : ℕ) (is : List ℕ) → Rising R is → Rising R (taken_from seated n is)
  Rising-taken R n [] r = rw (taken_none seated n) tt
  Rising-taken R n (i ∷ is) r =
      taken-cases seated (Rising R) n i is (λ h. (tt, tt)) (λ h. (All-taken (R i) (n + seated i) is r.0, Rising-taken R (n + seated i) is r.1))

  -- the first sixteen of the whole are those of the buckets taken
  front : {A : Type 0} (g : ℕ → List A) → ((i : ℕ) → length (g i) ≡ seated i) → (is : List ℕ) (n : ℕ)
      → take (16 - n) (flat_map g (taken_from seated n is)) ≡ take (16 - n) (flat_map g is)
  unfolding flat_map
  front g e [] n = rw (taken_none seated n) refl
  front g e (i ∷ is) n =
      taken-cases seated (λ l. take (16 - n) (flat_map g l) ≡ take (16 - n) (g i ++ flat_map g is)) n i is
      (λ h. let most : 16 - n ≤ length (g i) = omega (arith, e i) in
      ap (take (16 - n)) (append-nil (g i)) ∙ sym (take-append-le (16 - n) (g i) (flat_map g is) most))
      (λ h. let left : 16 - n ≡ length (g i) + (16 - (n + seated i)) = omega (arith, e i) in
      rw left (take-append-add (g i) (flat_map g (taken_from seated (n + seated i) is)) (16 - (n + seated i))
      ∙ ap (λ r. g i ++ r) (front g e is (n + seated i))
      ∙ sym (take-append-add (g i) (flat_map g is) (16 - (n + seated i)))))

-- ---- buckets of which each member of one is nearer than each of the next

module _ {A : Type 0} (f : A → ℕ) (members : ℕ → List A) where
  -- buckets put in one after the other
  unfoldable pub put_in : List ℕ → List A → List A
  put_in [] m = m
  put_in (i ∷ more) m = put_in more (insert_all f (members i) m)

  pub put-in-last : (is : List ℕ) (i : ℕ) (m : List A) → put_in (is ++ (i ∷ [])) m ≡ insert_all f (members i) (put_in is m)
  unfolding put_in
  put-in-last [] i m = refl
  put-in-last (j ∷ is) i m = put-in-last is i (insert_all f (members j) m)

  abbrev sorted_in : ℕ → List A
  sorted_in i = sort_by f (members i)

  abbrev Before : ℕ → ℕ → Type 0
  Before i j = All (λ a. All (λ b. f a < f b) (members j)) (members i)

  -- each member of the buckets, from each of l
  each_of : (R : A → A → Type 0) (l : List A) (is : List ℕ) → All (λ i. All (λ a. All (R a) (members i)) l) is → All (λ a. All (R a) (flat_map sorted_in is)) l
  unfolding flat_map
  each_of R l [] h = All-every (λ a. Unit {0}) (λ a. tt) l
  each_of R l (i ∷ is) h =
      All-imp (λ a. All (R a) (members i) × All (R a) (flat_map sorted_in is)) (λ a. All (R a) (sorted_in i ++ flat_map sorted_in is))
      (λ a p. All-append (R a) (sorted_in i) (flat_map sorted_in is) (All-sort f (R a) (members i) p.0) p.1)
      l (All-and (λ a. All (R a) (members i)) (λ a. All (R a) (flat_map sorted_in is)) l h.0 (each_of R l is h.1))

  ahead : (i : ℕ) (is : List ℕ) → All (Before i) is → All (λ a. All (λ b. f a < f b) (flat_map sorted_in is)) (members i)
  ahead i is h = each_of (λ a b. f a < f b) (members i) is h

  behind : (i : ℕ) (is : List ℕ) → All (λ j. Before j i) is → All (λ a. All (λ b. f b < f a) (flat_map sorted_in is)) (members i)
  behind i is h =
      each_of (λ a b. f b < f a) (members i) is
      (All-imp (λ j. Before j i) (λ j. All (λ a. All (λ b. f b < f a) (members j)) (members i)) (λ j. All_swap (λ a b. f a < f b) (members j) (members i)) is h)

  -- a bucket between others
  bucket-between : (i : ℕ) (is js : List ℕ) → All (λ j. Before j i) is → All (Before i) js
      → insert_all f (members i) (flat_map sorted_in (is ++ js)) ≡ flat_map sorted_in (is ++ i ∷ js)
  unfolding flat_map
  bucket-between i is js h k =
      ap (insert_all f (members i)) (flat_map_append sorted_in is js)
      ∙ insert-between f (members i) (flat_map sorted_in is) (flat_map sorted_in js) (behind i is h) (ahead i js k)
      ∙ sym (flat_map_append sorted_in is (i ∷ js))

  sort-rising : (is : List ℕ) → Rising Before is → sort_by f (flat_map members is) ≡ flat_map sorted_in is
  unfolding flat_map insert_all
  sort-rising [] r = refl
  sort-rising (i ∷ is) r =
      insert-append f (members i) (flat_map members is) []
      ∙ ap (insert_all f (members i)) (sort-rising is r.1)
      ∙ bucket-between i [] is tt r.0

  -- behind those put in already
  put-rising : (is done : List ℕ) → Rising Before (done ++ is) → put_in is (flat_map sorted_in done) ≡ flat_map sorted_in (done ++ is)
  unfolding put_in
  put-rising [] done r = ap (flat_map sorted_in) (sym (append-nil done))
  put-rising (i ∷ is) done r =
      let shift : done ++ (i ∷ []) ++ is ≡ done ++ i ∷ is = append_snoc done i is in
      let more : insert_all f (members i) (flat_map sorted_in done) ≡ flat_map sorted_in (done ++ (i ∷ [])) =
      ap (λ l. insert_all f (members i) (flat_map sorted_in l)) (sym (append-nil done)) ∙ bucket-between i done [] (Rising_ahead Before i done is r) tt in
      ap (put_in is) more ∙ put-rising is (done ++ (i ∷ [])) (rw shift r) ∙ ap (flat_map sorted_in) shift

  -- ---- the order over the numbers from lowest to 255, by the digits of x

  module _ (x lowest : ℕ)
      (set_first : (k j : ℕ) → lowest ≤ j → j < k → k < 256 → is_set k x ≡ true → Before k j)
      (clear-last : (k j : ℕ) → lowest ≤ j → j < k → k < 256 → is_set k x ≡ false → Before j k) where
    ahead_of : (i n : ℕ) → lowest ≤ i → suc i + n ≤ 256 → All (λ k. Before k i) (set_ones x (suc i) n)
    ahead_of i n h most =
        All-imp (λ k. (is_set k x ≡ true) × Within (suc i) n k) (λ k. Before k i) (λ k w. set_first k i h (omega arith) (omega arith) w.0)
        (set_ones x (suc i) n) (within-set x (suc i) n)

    behind-of : (i n : ℕ) → lowest ≤ i → suc i + n ≤ 256 → All (Before i) (clear_ones x (suc i) n)
    behind-of i n h most =
        All-imp (λ k. (not (is_set k x) ≡ true) × Within (suc i) n k) (Before i) (λ k w. clear-last k i h (omega arith) (omega arith) (not-true (is_set k x) w.0))
        (clear_ones x (suc i) n) (within-clear x (suc i) n)

    order-rising : (n i : ℕ) → lowest ≤ i → i + n ≤ 256 → Rising Before (order_from x i n)
    unfolding rising falling
    order-rising zero i h most = tt
    order-rising (suc n) i h most =
        rw (order-more x i n)
        (Rising-between Before i (set_ones x (suc i) n) (clear_ones x (suc i) n) (ahead_of i n h (omega arith)) (behind-of i n h (omega arith))
        (order-rising n (suc i) (omega arith) (omega arith)))

    order-sorted : (n i : ℕ) → lowest ≤ i → i + n ≤ 256 → sort_by f (flat_map members (rising i n)) ≡ flat_map sorted_in (order_from x i n)
    unfolding rising falling flat_map insert_all
    order-sorted zero i h most = refl
    order-sorted (suc n) i h most =
        insert-append f (members i) (flat_map members (rising (suc i) n)) []
        ∙ ap (insert_all f (members i)) (order-sorted n (suc i) (omega arith) (omega arith))
        ∙ bucket-between i (set_ones x (suc i) n) (clear_ones x (suc i) n) (ahead_of i n h (omega arith)) (behind-of i n h (omega arith))
        ∙ ap (flat_map sorted_in) (sym (order-more x i n))

-- ---- distances

-- f is the distance to the target of a hash that is at home in bucket i
abbrev pub AtHome : (own target : Bytes) → {A : Type 0} → (f : A → ℕ) → ℕ → A → Type 0
AtHome own target f i a = (hash : Bytes) × ((f a ≡ distance target hash) × (in_bucket i (distance own hash) ≡ true))

bucket_one : (k d : ℕ) → in_bucket k d ≡ true → d / 2 ^ k ≡ 1
unfolding in_bucket
bucket_one k d h =
    let least : 2 ^ k ≤ d = leb-true (2 ^ k) d (and_left (leb (2 ^ k) d) (ltb d (2 ^ (k + 1))) h) in
    let less : d < 2 ^ (k + 1) = ltb-true d (2 ^ (k + 1)) (and_right (leb (2 ^ k) d) (ltb d (2 ^ (k + 1))) h) in
    let twice : 2 ^ (k + 1) ≡ 2 ^ k * 2 = rw add-one (pow-suc 2 k) in
    div-eq_of_lt-le (2 ^ k) (omega arith) (omega arith)

bucket_none : (k j d : ℕ) → j < k → in_bucket j d ≡ true → d / 2 ^ k ≡ 0
unfolding in_bucket
bucket_none k j d g h =
    let less : d < 2 ^ (j + 1) = ltb-true d (2 ^ (j + 1)) (and_right (leb (2 ^ j) d) (ltb d (2 ^ (j + 1))) h) in
    let most : 2 ^ (j + 1) ≤ 2 ^ k = pow_mono (omega arith) in
    div-eq_of_lt (omega arith)

module _ (own target : Bytes) {A : Type 0} (f : A → ℕ) (k j : ℕ) (lower : j < k) where
  home-nearer : (a b : A) → AtHome own target f k a → AtHome own target f j b → is_set k (distance own target) ≡ true → f a < f b
  unfolding distance is_set
  home-nearer a b p q s =
      let less : distance target p.0 < distance target q.0 =
      nearer (number own) (number target) (number p.0) (number q.0) k (bucket_one k (distance own p.0) p.1.1)
      (bucket_none k j (distance own q.0) lower q.1.1) (eqb-true (distance own target / 2 ^ k % 2) 1 s) in
      rw (p.1.0, q.1.0) less

  home-farther : (a b : A) → AtHome own target f k a → AtHome own target f j b → is_set k (distance own target) ≡ false → f b < f a
  unfolding distance is_set
  home-farther a b p q s =
      let clear : distance own target / 2 ^ k % 2 ≡ 0 = omega (arith, eqb-false (distance own target / 2 ^ k % 2) 1 s) in
      let less : distance target q.0 < distance target p.0 =
      farther (number own) (number target) (number p.0) (number q.0) k (bucket_one k (distance own p.0) p.1.1)
      (bucket_none k j (distance own q.0) lower q.1.1) clear in
      rw (p.1.0, q.1.0) less

All_pairs : {A : Type 0} (P Q : A → Type 0) (R : A → A → Type 0) → ((a b : A) → P a → Q b → R a b) → (l m : List A) → All P l → All Q m → All (λ a. All (R a) m) l
All_pairs P Q R h l m p q = All-imp P (λ a. All (R a) m) (λ a u. All-imp Q (R a) (λ b v. h a b u v) m q) l p

module _ (own target : Bytes) (count : ℕ) (few : count ≤ 256) {A : Type 0} (f : A → ℕ) (members : ℕ → List A)
    (homes : (i : ℕ) → 256 - count ≤ i → i < 256 → All (AtHome own target f i) (members i)) where
  abbrev x : ℕ
  x = distance own target

  abbrev taken : List ℕ
  taken = taken_from (λ i. length (members i)) 0 (taking_order x count)

  set_first : (k j : ℕ) → 256 - count ≤ j → j < k → k < 256 → is_set k x ≡ true → Before f members k j
  set_first k j h g m s =
      All_pairs (AtHome own target f k) (AtHome own target f j) (λ a b. f a < f b) (λ a b p q. home-nearer own target f k j g a b p q s)
      (members k) (members j) (homes k (omega arith) m) (homes j h (omega arith))

  clear-last : (k j : ℕ) → 256 - count ≤ j → j < k → k < 256 → is_set k x ≡ false → Before f members j k
  clear-last k j h g m s =
      All_pairs (AtHome own target f j) (AtHome own target f k) (λ a b. f a < f b) (λ a b p q. home-farther own target f k j g b a q p s)
      (members j) (members k) (homes j h (omega arith)) (homes k (omega arith) m)

  taken-rising : Rising (Before f members) taken
  taken-rising =
      Rising-taken (λ i. length (members i)) (Before f members) 0 (taking_order x count)
      (rw (order_is x count) (order-rising f members x (256 - count) set_first clear-last count (256 - count) (omega arith) (omega arith)))

  -- the first sixteen of the buckets taken, one sorted after the other
  taken-front : take 16 (flat_map (sorted_in f members) taken) ≡ take 16 (sort_by f (flat_map members (rising (256 - count) count)))
  taken-front =
      front (λ i. length (members i)) (sorted_in f members) (λ i. length-sort f (members i)) (taking_order x count) 0
      ∙ ap (λ l. take 16 (flat_map (sorted_in f members) l)) (order_is x count)
      ∙ ap (take 16) (sym (order-sorted f members x (256 - count) set_first clear-last count (256 - count) (omega arith) (omega arith)))

  -- what a call holds that puts the buckets in one after the other
  pub chosen-in-order : take 16 (put_in f members (taken_from (λ i. length (members i)) 0 (taking_order (distance own target) count)) [])
      ≡ take 16 (sort_by f (flat_map members (rising (256 - count) count)))
  unfolding flat_map
  chosen-in-order = ap (take 16) (put-rising f members taken [] taken-rising) ∙ taken-front

  pub sorted-taken : take 16 (sort_by f (flat_map members (taken_from (λ i. length (members i)) 0 (taking_order (distance own target) count))))
      ≡ take 16 (sort_by f (flat_map members (rising (256 - count) count)))
  sorted-taken = ap (take 16) (sort-rising f members taken taken-rising) ∙ taken-front
