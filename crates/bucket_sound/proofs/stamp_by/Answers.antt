-- `bucket_sound::stamp_by` meets its contract. Assumes nothing.
use mathlib.Core.Path.{refl, sym}
use borrow.Author.Tests.{eq-eqb, ne_eqb}
use Rattle.bucket_sound.proofs.stamp_by.Goals as goal

pub returns-then-s-eq0 : goal.returns-then-s-eq0
returns-then-s-eq0 c = sym (rw (eq-eqb _ _ c.if-s-eq0.true) refl)

pub returns : goal.returns
returns c = sym (rw (ne_eqb _ _ c.if-s-eq0.false) refl)
