-- `packet_bodies::last_size` meets its contract. Assumes nothing.
use mathlib.Core.Path.{ap}
use mathlib.Core.List.{[], ◌∷◌}
use native.Mathlib.Omega.{arith}
use lib.ListN.{length}
use Rattle.packet_model.specs.Items.{uint}
use Rattle.packet_bodies.proofs.Sizes.{total_size, uint-width, last_absent, last_present}
use borrow.Author.Rules.{rules}
use Rattle.packet_bodies.proofs.last_size.Goals as goal

pub overflow_add-result : goal.overflow_add-result
overflow_add-result c = let a = c.args in
    omega (arith, c.uint_size.ensures, c.uint_size-size.ensures, uint-width 8 a.expiration (omega arith) (search rules), uint-width 8 c.in-Some.n (omega arith) (search rules))

pub returns-in-None : goal.returns-in-None
returns-in-None c = let x = c.args.expiration in
    let s = c.uint_size-size.ensures in
    let b = uint-width 8 x (omega arith) (search rules) in
    (omega (arith, ap length (last_absent x c.in-None.is), total_size (uint x ∷ []), s), omega (arith, s, b))

pub returns-in-Some : goal.returns-in-Some
returns-in-Some c = let x = c.args.expiration in
    let s = c.uint_size-size.ensures in
    let b = uint-width 8 x (omega arith) (search rules) in
    let k = uint-width 8 c.in-Some.n (omega arith) (search rules) in
    (omega (arith, ap length (last_present x c.in-Some.is), total_size (uint x ∷ uint c.in-Some.n ∷ []), s, c.uint_size.ensures), omega (arith, s, c.uint_size.ensures, b, k))
