-- `enode::is_keyed` meets its contract. Assumes nothing.
use mathlib.Core.Path.{◌≡◌, refl, sym, ◌∙◌}
use mathlib.Core.Bool.{Bool, true, false, ◌&&◌}
use borrow.Author.Tests.{le-leb, lt-leb}
use lib.Dec.{leb, eqb}
use lib.ListN.{length, get_or}
use Rattle.octets.specs.Octets.{part, same_bytes}
use Rattle.lists.specs.Lists.{all}
use Rattle.lists.proofs.Laws.{never}
use Rattle.text.specs.Hex.{is_any_hex_digit}
use Rattle.enode.specs.Text.{scheme}
use Rattle.enode.proofs.Reading.{begun_is}
use Rattle.enode.proofs.is_keyed.Goals as goal
use Rattle.enode.proofs.is_keyed.Goals.{then-line-ge137, else-line-ge137, then-starts_with, else-starts_with}

passed : {v : Bool} (a b d e : Bool) → v ≡ (a && b && d) → v ≡ true → e ≡ (a && (b && (d && e)))
passed true true true e h t = refl
passed true true false e h t = never (sym t ∙ h)
passed true false d e h t = never (sym t ∙ h)
passed false b d e h t = never (sym t ∙ h)

failed : {v : Bool} (a b d e : Bool) → v ≡ (a && b && d) → v ≡ false → v ≡ (a && (b && (d && e)))
failed true true true e h t = never (sym h ∙ t)
failed true true false e h t = h
failed true false d e h t = h
failed false b d e h t = h

pub returns-then-are_hex_digits : goal.returns-then-are_hex_digits
unfolding part
returns-then-are_hex_digits c = let l = c.args.line.now in
    let first : c.if-line-ge137.value ≡ (leb 137 (length l) && same_bytes (part l 0 8) scheme) =
    elim c.if-line-ge137.branch [
      | then-line-ge137 w ↦ w.value-is ∙ w.starts_with.ensures.value ∙ begun_is scheme (part l 0 8) ∙ sym (rw (le-leb 137 (length l) w.if-line-ge137.true))
      | else-line-ge137 w ↦ w.value-is ∙ sym (rw (lt-leb 137 (length l) w.if-line-ge137.false))
    ] in
    let second : c.if-starts_with.value ≡ (leb 137 (length l) && same_bytes (part l 0 8) scheme && all is_any_hex_digit (part l 8 128)) =
    elim c.if-starts_with.branch [
      | then-starts_with w ↦ w.value-is ∙ w.are_hex_digits.ensures ∙ sym (rw (sym first ∙ w.if-starts_with.true))
      | else-starts_with w ↦ w.value-is ∙ w.if-starts_with.false ∙ sym (rw (sym first ∙ w.if-starts_with.false))
    ] in
    passed (leb 137 (length l)) (same_bytes (part l 0 8) scheme) (all is_any_hex_digit (part l 8 128)) (eqb (get_or l 136 0) 64) second c.if-are_hex_digits.true

pub returns-else-are_hex_digits : goal.returns-else-are_hex_digits
unfolding part
returns-else-are_hex_digits c = let l = c.args.line.now in
    let first : c.if-line-ge137.value ≡ (leb 137 (length l) && same_bytes (part l 0 8) scheme) =
    elim c.if-line-ge137.branch [
      | then-line-ge137 w ↦ w.value-is ∙ w.starts_with.ensures.value ∙ begun_is scheme (part l 0 8) ∙ sym (rw (le-leb 137 (length l) w.if-line-ge137.true))
      | else-line-ge137 w ↦ w.value-is ∙ sym (rw (lt-leb 137 (length l) w.if-line-ge137.false))
    ] in
    let second : c.if-starts_with.value ≡ (leb 137 (length l) && same_bytes (part l 0 8) scheme && all is_any_hex_digit (part l 8 128)) =
    elim c.if-starts_with.branch [
      | then-starts_with w ↦ w.value-is ∙ w.are_hex_digits.ensures ∙ sym (rw (sym first ∙ w.if-starts_with.true))
      | else-starts_with w ↦ w.value-is ∙ w.if-starts_with.false ∙ sym (rw (sym first ∙ w.if-starts_with.false))
    ] in
    failed (leb 137 (length l)) (same_bytes (part l 0 8) scheme) (all is_any_hex_digit (part l 8 128)) (eqb (get_or l 136 0) 64) second c.if-are_hex_digits.false
