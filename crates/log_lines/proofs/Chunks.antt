-- The lines of a log do not depend on how it is cut into chunks. Assumes nothing.
use Prim.Native.Nat.{ℕ, zero, suc, ◌+◌, ◌-◌, ◌<◌}
use mathlib.Core.Path.{◌≡◌, sym, ap, ◌∙◌}
use mathlib.Core.List.{List, [], ◌∷◌, ◌++◌}
use native.Mathlib.Omega.{arith}
use borrow.Author.Tests.{ltb-true}
use lib.Dec.{ltb}
use lib.ListN.{length, take, drop}
use Rattle.octets.specs.Octets.{Bytes}
use Rattle.lists.proofs.Laws.{by_test}
use Rattle.log_lines.specs.declared.Begun.{Begun}
use Rattle.log_lines.specs.declared.Step.TheVariants.{Line, TooLong, More}
use Rattle.log_lines.specs.Lines.{Held, whole, too_long, held, to_come}
use Rattle.log_lines.specs.Steps.{piece, grown, fresh, ended, step_of, buffer_after}
use Rattle.log_lines.specs.Feeding.{held_in, Room, told, Feeds, line, long, on, end, join}
use Rattle.log_lines.specs.Claims.{FeedsLines, FeedsEnds}
use Rattle.log_lines.proofs.Laws.{all_to_come, step_told, last_told, length-added, grown_size}

-- the bytes of the chunk that a step takes, but for 0A
abbrev size : Bytes → ℕ → ℕ
size chunk at = length (piece (drop at chunk))

-- a step finds 0A, or uses up the chunk
data Found (b : Begun) (chunk : Bytes) (at : ℕ) : Type 0 where
  newline : at + size chunk at < length chunk → step_of b chunk at ≡ ended (grown b (size chunk at)) (at + size chunk at + 1) → Found b chunk at
  used : step_of b chunk at ≡ More (grown b (size chunk at)) → Found b chunk at

found : (b : Begun) (chunk : Bytes) (at : ℕ) → Found b chunk at
unfolding step_of
found b chunk at =
    by_test (ltb (at + size chunk at) (length chunk))
    (λ t. newline (ltb-true _ _ t) (rw t))
    (λ t. used (rw t))

-- a step that finds 0A does not leave a line begun
ended_more : {P : Type 0} {b' : Begun} (g : Begun) (next : ℕ) → ended g next ≡ More b' → P
ended_more g next h =
    by_test g.over
    (λ o. absurd (let w : TooLong next ≡ More _ = rw o at h in let z : ◌≡◌ {A = ℕ} 0 1 = cc in omega arith))
    (λ o. absurd (let w : Line g.len next ≡ More _ = rw o at h in let z : ◌≡◌ {A = ℕ} 0 1 = cc in omega arith))

-- what a step leaves keeps the room
room_fresh : (buffer : Bytes) (b : Begun) (chunk : Bytes) (at : ℕ) → Room buffer b → Room (buffer_after buffer b chunk at) fresh
unfolding buffer_after
room_fresh buffer b chunk at room = record { buffer_size = omega (arith, length-added buffer b (piece (drop at chunk)), room.buffer_size); line_size = omega arith }

room_more : (buffer : Bytes) (b : Begun) (chunk : Bytes) (at : ℕ) (b' : Begun) → Room buffer b → step_of b chunk at ≡ More b' → Room (buffer_after buffer b chunk at) b'
unfolding buffer_after
room_more buffer b chunk at b' room e = by-found (found b chunk at)
  where
    grows : b' ≡ grown b (size chunk at) → Room (buffer_after buffer b chunk at) b'
    grows g = record {
      buffer_size = omega (arith, length-added buffer b (piece (drop at chunk)), room.buffer_size);
      line_size = rw g (grown_size b (size chunk at) room.line_size);
    }

    by-found : Found b chunk at → Room (buffer_after buffer b chunk at) b'
    by-found (used f) = grows (let same : More (grown b (size chunk at)) ≡ More b' = sym f ∙ e in cc)
    by-found (newline l f) = ended_more (grown b (size chunk at)) _ (sym f ∙ e)

-- whoever is told the lines from here on is told those still to come
feeds_to_come : {buffer chunk : Bytes} {b : Begun} {at : ℕ} {more : List Bytes} {lines : List Held} → Room buffer b → Feeds buffer b chunk at more lines
    → to_come (held_in buffer b) (drop at chunk ++ join more) ≡ lines
unfolding held_in told
feeds_to_come {buffer} {chunk} {b} {at} {more} room (line len next e f) = step_told buffer b chunk at (join more) room ∙ rw e (ap (λ (l : List Held). whole (take len (buffer_after buffer b chunk at)) ∷ l) (feeds_to_come (room_fresh buffer b chunk at room) f))
feeds_to_come {buffer} {chunk} {b} {at} {more} room (long next e f) = step_told buffer b chunk at (join more) room ∙ rw e (ap (λ (l : List Held). too_long ∷ l) (feeds_to_come (room_fresh buffer b chunk at room) f))
feeds_to_come {buffer} {chunk} {b} {at} room (on {c = c} {more = more} b' e f) = step_told buffer b chunk at (c ++ join more) room ∙ rw e (feeds_to_come (room_more buffer b chunk at b' room e) f)
feeds_to_come {buffer} {chunk} {b} {at} room (end b' e) = step_told buffer b chunk at [] room ∙ rw e (last_told (buffer_after buffer b chunk at) b' (room_more buffer b chunk at b' room e))

pub feeds_lines : FeedsLines
unfolding held held_in
feeds_lines buffer chunk more lines h f = sym (feeds_to_come (record { buffer_size = h; line_size = omega arith }) f) ∙ all_to_come [] (chunk ++ join more)

-- ---- and such a caller comes to the end

abbrev weight : List Bytes → ℕ
weight [] = 0
weight (c ∷ more) = suc (length c) + weight more

-- the rest is told after a line that ended
after_line : (buffer : Bytes) (b : Begun) (chunk : Bytes) (at : ℕ) (more : List Bytes) (g : Begun) (next : ℕ) → step_of b chunk at ≡ ended g next
    → (lines : List Held) × Feeds (buffer_after buffer b chunk at) fresh chunk next more lines
    → (lines : List Held) × Feeds buffer b chunk at more lines
after_line buffer b chunk at more g next e rest =
    by_test g.over
    (λ o. (too_long ∷ rest.0, long next (e ∙ rw o) rest.1))
    (λ o. (whole (take g.len (buffer_after buffer b chunk at)) ∷ rest.0, line g.len next (e ∙ rw o) rest.1))

ends_in : (k : ℕ) (buffer : Bytes) (b : Begun) (chunk : Bytes) (at : ℕ) (more : List Bytes) → (length chunk - at) + weight more < k → (lines : List Held) × Feeds buffer b chunk at more lines
ends_in zero buffer b chunk at more h = absurd (omega arith)
ends_in (suc k) buffer b chunk at [] h = elim (found b chunk at) [
  | newline l e ↦ after_line buffer b chunk at [] (grown b (size chunk at)) _ e (ends_in k (buffer_after buffer b chunk at) fresh chunk (at + size chunk at + 1) [] (omega arith))
  | used e ↦ (_, end (grown b (size chunk at)) e)
]
ends_in (suc k) buffer b chunk at (c ∷ more) h = elim (found b chunk at) [
  | newline l e ↦ after_line buffer b chunk at (c ∷ more) (grown b (size chunk at)) _ e (ends_in k (buffer_after buffer b chunk at) fresh chunk (at + size chunk at + 1) (c ∷ more) (omega arith))
  | used e ↦ let rest = ends_in k (buffer_after buffer b chunk at) (grown b (size chunk at)) c 0 more (omega arith) in (rest.0, on (grown b (size chunk at)) e rest.1)
]

pub feeds_ends : FeedsEnds
feeds_ends buffer chunk more = ends_in (suc (length chunk + weight more)) buffer fresh chunk 0 more (omega arith)
