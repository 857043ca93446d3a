-- `text::hex_value` meets its contract. Assumes nothing.
use mathlib.Core.Path.{sym}
use borrow.Author.Tests.{lt-ltb, le-ltb}
use Rattle.text.specs.Hex.{hex_value}
use native.Mathlib.Omega.{arith}
use Rattle.text.proofs.hex_value.Goals as goal

pub returns-then-b-le57 : goal.returns-then-b-le57
unfolding hex_value
returns-then-b-le57 c = record { value = sym (rw (lt-ltb c.args.b 58 (omega arith))); upper_bound = omega arith }

pub returns-else-b-le57 : goal.returns-else-b-le57
unfolding hex_value
returns-else-b-le57 c = record { value = sym (rw (le-ltb c.args.b 58 (omega arith))); upper_bound = omega arith }
