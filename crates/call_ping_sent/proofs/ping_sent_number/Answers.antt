-- `call_ping_sent::ping_sent_number` meets its contract. Assumes nothing.
use mathlib.Core.Path.{◌≡◌, refl, sym, ap, ◌∙◌}
use mathlib.Core.Bool.{Bool, ◌&&◌}
use mathlib.Core.List.{List}
use Prim.Native.Nat.{ℕ, ◌≤◌}
use lib.Dec.{leb}
use lib.ListN.{length}
use native.Mathlib.Omega.{arith}
use borrow.Author.Rules.{rules}
use Rattle.octets.specs.Octets.{Bytes}
use Rattle.lists.specs.Lists.{empty}
use Rattle.lists.proofs.First.{here, later}
use Rattle.entry.specs.declared.Entry.{Entry}
use Rattle.bucket_model.specs.Rules.{no_room}
use Rattle.bucket.specs.declared.Bucket.{Bucket}
use Rattle.bucket_lookup.specs.declared.Lookup.{Lookup}
use Rattle.bucket.specs.Steps.{contents}
use Rattle.bucket.proofs.Laws.{length_mapped, length-listed}
use Rattle.bucket_lookup.specs.Steps.{found, LooksUp}
use Rattle.call_ping_sent.proofs.ping_sent_number.Goals as goal

-- the test of the code is the rule's
full : (b : Bucket) (l : Lookup) (key : Bytes) {r : Bool} → length b.replacements.items ≡ 16 → b.replacements.len ≤ 16 → LooksUp key (contents b) l
    → r ≡ (empty (found l) && leb 4 b.replacements.len) → r ≡ no_room key (contents b)
full b l key size bound h e =
    e ∙ ap (λ (n : ℕ). empty (found l) && leb 4 n) (sym (length-listed b.replacements size bound))
    ∙ ap (λ (es : List Entry). empty es && leb 4 (length (contents b).replacements)) h.held

pub returns-then-held_elsewhere : goal.returns-then-held_elsewhere
returns-then-held_elsewhere c = λ key h. here 16 (rw h.held at c.held_elsewhere.ensures) _ c.if-held_elsewhere.true

pub returns-then-ping_out : goal.returns-then-ping_out
returns-then-ping_out c = λ key h.
    later 16 (rw h.held at c.held_elsewhere.ensures) c.if-held_elsewhere.false
    (here 17 (rw h.held at c.ping_out.ensures) _ c.if-ping_out.true)

pub returns-then-no_room : goal.returns-then-no_room
returns-then-no_room c =
    λ key h.
    later 16 (rw h.held at c.held_elsewhere.ensures) c.if-held_elsewhere.false
    (later 17 (rw h.held at c.ping_out.ensures) c.if-ping_out.false
    (here 18 (full c.args.b c.args.l key (search (rules, length_mapped)) (omega (arith, c.requires.replacements)) h c.no_room.ensures) _ c.if-no_room.true))

pub returns : goal.returns
returns c =
    λ key h.
    later 16 (rw h.held at c.held_elsewhere.ensures) c.if-held_elsewhere.false
    (later 17 (rw h.held at c.ping_out.ensures) c.if-ping_out.false
    (later 18 (full c.args.b c.args.l key (search (rules, length_mapped)) (omega (arith, c.requires.replacements)) h c.no_room.ensures) c.if-no_room.false refl))
