-- `bucket_sound::stamp_form` meets its contract. Assumes nothing.
use mathlib.Core.Path.{refl, sym, ◌∙◌}
use borrow.Author.Tests.{eq-eqb, ne_eqb}
use Rattle.bucket_sound.proofs.stamp_form.Goals as goal

pub returns-then-s-eq1 : goal.returns-then-s-eq1
returns-then-s-eq1 c = sym (rw (eq-eqb _ _ c.if-s-eq1.true) refl)

pub returns : goal.returns
returns c = c.both.ensures ∙ sym (rw (ne_eqb _ _ c.if-s-eq1.false) refl)
