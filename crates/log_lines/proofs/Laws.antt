-- Laws of the lines still to come: what a step and the log's end tell of them. Assumes nothing.
use Prim.Native.Nat.{ℕ, suc, ◌+◌, ◌-◌, ◌≤◌, ◌<◌}
use mathlib.Core.Path.{◌≡◌, refl, sym, ap, ◌∙◌}
use mathlib.Core.Bool.{true, false, not}
use mathlib.Core.List.{List, [], ◌∷◌, ◌++◌, map, append_assoc, append-nil}
use native.Mathlib.Omega.{arith}
use borrow.Author.Tests.{lt-ltb, le-ltb, ltb-true, leb-true, leb-false, eqb-true, eqb-false}
use lib.Dec.{ltb, leb, eqb}
use lib.ListN.{length, take, drop, length-append, length-drop}
use lib.Seq.{append_snoc, length-take-le, take_at, drop-append-add, drop-drop}
use Rattle.octets.specs.Octets.{Bytes, store}
use Rattle.octets.proofs.Laws.{store-eq, length-store}
use Rattle.lists.specs.Lists.{empty}
use Rattle.lists.proofs.Laws.{by_test, and_right}
use Rattle.text.specs.Lines.{lines_from}
use Rattle.log_lines.specs.declared.Begun.{Begun}
use Rattle.log_lines.specs.Lines.{limit, Held, whole, too_long, held, longer, nothing, to_come}
use Rattle.log_lines.specs.Steps.{piece, fits, grown, added, step_of, buffer_after, last_of}
use Rattle.log_lines.specs.Feeding.{held_in, Room, told, told_last}
use Rattle.log_lines.proofs.Pieces.{Ends, here, newline, ends}

-- ---- what is still to come, of the whole log

longer-held : (p : Bytes) (b : ℕ) → longer (held p) b ≡ held (p ++ (b ∷ []))
unfolding held
longer-held p b =
    by_test (ltb limit (length p))
    (λ e. rw (e, lt-ltb limit (length (p ++ (b ∷ []))) (omega (arith, ltb-true limit (length p) e, length-append p (b ∷ [])))))
    (λ e. rw e)

nothing-held : (p : Bytes) → nothing (held p) ≡ empty p
unfolding held
nothing-held [] = refl
nothing-held (b ∷ p) = by_test (ltb limit (suc (length p))) (λ e. rw e) (λ e. rw e)

-- the lines of the whole log, each as it is held
pub all_to_come : (p s : Bytes) → to_come (held p) s ≡ map held (lines_from p s)
unfolding held
all_to_come p [] = rw (nothing-held p) (by_test (empty p) (λ e. rw e) (λ e. rw e))
all_to_come p (b ∷ s) =
    by_test (eqb b 10)
    (λ e. rw e (ap (λ (l : List Held). held p ∷ l) (all_to_come [] s)))
    (λ e. rw (e, longer-held p b) (all_to_come (p ++ (b ∷ [])) s))

-- ---- a piece of a line

abbrev grow : Held → Bytes → Held
grow l [] = l
grow l (b ∷ p) = grow (longer l b) p

-- a piece is passed
passes : (l : Held) (s t : Bytes) → to_come l (piece s ++ t) ≡ to_come (grow l (piece s)) t
unfolding piece
passes l [] t = refl
passes l (b ∷ s) t = by_test (eqb b 10) (λ e. rw e) (λ e. rw (e, e) (passes (longer l b) s t))

grow_too_long : (p : Bytes) → grow too_long p ≡ too_long
grow_too_long [] = refl
grow_too_long (b ∷ p) = grow_too_long p

grow_held : (q p : Bytes) → grow (held q) p ≡ held (q ++ p)
grow_held q [] = rw append-nil
grow_held q (b ∷ p) = rw (longer-held q b) (grow_held (q ++ (b ∷ [])) p ∙ ap held (append_snoc q b p))

held_short : (p : Bytes) → length p ≤ limit → held p ≡ whole p
unfolding held
held_short p h = rw (le-ltb limit (length p) h)

held-long : (p : Bytes) → limit < length p → held p ≡ too_long
unfolding held
held-long p h = rw (lt-ltb limit (length p) h)

-- the line begun grows by a piece as it is held
held-added : (buffer : Bytes) (b : Begun) (p : Bytes) → Room buffer b → grow (held_in buffer b) p ≡ held_in (added buffer b p) (grown b (length p))
unfolding held_in added grown
held-added buffer b p room =
    by_test b.over
    (λ o. rw o (grow_too_long p))
    (λ o.
    let q : Bytes = take b.len buffer in
    let size : length q ≡ b.len = length-take-le b.len buffer (omega (arith, room.buffer_size, room.line_size)) in
    let longer : grow (whole q) p ≡ held (q ++ p) = rw (held_short q (omega (arith, room.line_size))) at (grow_held q p) in
    by_test (leb (length p) (limit - b.len))
    (λ f.
    let h : length p ≤ limit - b.len = leb-true (length p) (limit - b.len) f in
    let kept : take (b.len + length p) (store buffer b.len p) ≡ q ++ p =
    ap (take (b.len + length p)) (store-eq p buffer b.len (omega (arith, room.buffer_size, room.line_size)))
    ∙ take_at (q ++ p) (drop (b.len + length p) buffer) (b.len + length p) (omega (arith, length-append q p)) in
    rw (o, f) (longer ∙ held_short (q ++ p) (omega (arith, length-append q p, room.line_size)) ∙ ap whole (sym kept)))
    (λ f.
    let h : limit - b.len < length p = leb-false (length p) (limit - b.len) f in
    rw (o, f) (longer ∙ held-long (q ++ p) (omega (arith, length-append q p, room.line_size)))))

over_held : (buffer : Bytes) (b : Begun) → b.over ≡ true → held_in buffer b ≡ too_long
unfolding held_in
over_held buffer b o = rw o

whole-held : (buffer : Bytes) (b : Begun) → b.over ≡ false → held_in buffer b ≡ whole (take b.len buffer)
unfolding held_in
whole-held buffer b o = rw o

-- ---- a step

-- what a step tells is what is to come first, and what it leaves is what is to come after it
pub step_told : (buffer : Bytes) (b : Begun) (chunk : Bytes) (at : ℕ) (rest : Bytes) → Room buffer b
    → to_come (held_in buffer b) (drop at chunk ++ rest) ≡ told (buffer_after buffer b chunk at) (step_of b chunk at) chunk rest
unfolding told step_of buffer_after
step_told buffer b chunk at rest room = by_end (ends (drop at chunk))
  where
    p : Bytes
    p = piece (drop at chunk)

    more : Begun
    more = grown b (length p)

    after : Bytes
    after = added buffer b p

    begins : (u : Bytes) → to_come (held_in buffer b) (p ++ u) ≡ to_come (held_in after more) u
    begins u = passes (held_in buffer b) (drop at chunk) u ∙ ap (λ (l : Held). to_come l u) (held-added buffer b p room)

    by_end : Ends (drop at chunk) → to_come (held_in buffer b) (drop at chunk ++ rest) ≡ told (added buffer b (piece (drop at chunk))) (step_of b chunk at) chunk rest
    by_end (here e) =
        let all : length chunk ≤ at + length p = omega (arith, length-drop at chunk, ap length e) in
        rw (le-ltb (at + length p) (length chunk) all) (ap (λ (s : Bytes). to_come (held_in buffer b) (s ++ rest)) e ∙ begins rest)
    by_end (newline t e) =
        let less : at + length p < length chunk = omega (arith, length-drop at chunk, ap length e, length-append p (10 ∷ t)) in
        let k : at + length p + 1 ≡ at + (length p + 1) = omega arith in
        let next : drop (at + length p + 1) chunk ≡ t =
        ap (λ (n : ℕ). drop n chunk) k ∙ sym (drop-drop (length p + 1) at chunk) ∙ ap (drop (length p + 1)) e ∙ drop-append-add p (10 ∷ t) 1 in
        let told-first : to_come (held_in buffer b) (drop at chunk ++ rest) ≡ held_in after more ∷ to_come (whole []) (t ++ rest) =
        ap (λ (s : Bytes). to_come (held_in buffer b) (s ++ rest)) e ∙ ap (to_come (held_in buffer b)) (append_assoc p (10 ∷ t) rest) ∙ begins (10 ∷ t ++ rest) in
        by_test more.over
        (λ o. rw (lt-ltb (at + length p) (length chunk) less, o, next) (told-first ∙ ap (λ (l : Held). l ∷ to_come (whole []) (t ++ rest)) (over_held after more o)))
        (λ o. rw (lt-ltb (at + length p) (length chunk) less, o, next) (told-first ∙ ap (λ (l : Held). l ∷ to_come (whole []) (t ++ rest)) (whole-held after more o)))

-- what the log's end tells is what is to come after the last chunk
pub last_told : (buffer : Bytes) (b : Begun) → Room buffer b → to_come (held_in buffer b) [] ≡ told_last buffer (last_of b)
unfolding held_in told_last last_of
last_told buffer b room =
    by_test b.over
    (λ o. rw o)
    (λ o.
    by_test (eqb b.len 0)
    (λ z. let e : b.len ≡ 0 = eqb-true b.len 0 z in rw (o, z, e))
    (λ z. rw (o, z) (some (take b.len buffer) (let ne : b.len ≡ 0 → ⊥ = eqb-false b.len 0 z in omega (arith, length-take-le b.len buffer (omega (arith, room.buffer_size, room.line_size)), room.line_size))))
    )
  where
    some : (p : Bytes) → 0 < length p → to_come (whole p) [] ≡ whole p ∷ []
    some [] h = absurd (omega arith)
    some (x ∷ p) h = refl

-- a step keeps the room
pub length-added : (buffer : Bytes) (b : Begun) (p : Bytes) → length (added buffer b p) ≡ length buffer
unfolding added
length-added buffer b p = by_test (fits b (length p)) (λ f. rw f (length-store p buffer b.len)) (λ f. rw f)

pub grown_size : (b : Begun) (n : ℕ) → b.len ≤ limit → (grown b n).len ≤ limit
unfolding grown
grown_size b n h =
    by_test (fits b n)
    (λ f. rw f (omega (arith, leb-true n (limit - b.len) (and_right (not b.over) (leb n (limit - b.len)) f))))
    (λ f. rw f (omega arith))
