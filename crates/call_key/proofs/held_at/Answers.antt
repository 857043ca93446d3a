-- `call_key::held_at` meets its contract. Assumes nothing.
use mathlib.Core.Path.{refl}
use native.Mathlib.Omega.{arith}
use Rattle.call_key.proofs.held_at.Goals as goal

pub overflow_add-result : goal.overflow_add-result
overflow_add-result c = let few = rw c.in-InEntries.is at c.requires in omega (arith, few)

pub overflow_add-result-in-InReplacements : goal.overflow_add-result-in-InReplacements
overflow_add-result-in-InReplacements c = let few = rw c.in-InReplacements.is at c.requires in omega (arith, few)

pub returns-in-InEntries : goal.returns-in-InEntries
returns-in-InEntries c = rw c.in-InEntries.is refl

pub returns-in-InReplacements : goal.returns-in-InReplacements
returns-in-InReplacements c = rw c.in-InReplacements.is refl
