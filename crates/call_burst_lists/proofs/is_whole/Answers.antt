-- `call_burst_lists::is_whole` meets its contract. Assumes nothing.
use mathlib.Core.Path.{sym, ◌∙◌}
use native.Mathlib.Omega.{arith}
use Rattle.call_burst_lists.proofs.Whole.{sized-sum, not-whole}
use Rattle.call_burst_lists.proofs.is_whole.Goals as goal

pub returns-then-n-gt32 : goal.returns-then-n-gt32
returns-then-n-gt32 c = sym (not-whole _ c.args.room (λ z. omega (arith, z.count)))

pub returns-then-signers-n : goal.returns-then-signers-n
returns-then-signers-n c = sym (not-whole _ c.args.room (λ z. omega (arith, z.signers)))

pub returns-then-addresses-n : goal.returns-then-addresses-n
returns-then-addresses-n c = sym (not-whole _ c.args.room (λ z. omega (arith, z.addresses)))

pub returns-then-ports-n : goal.returns-then-ports-n
returns-then-ports-n c = sym (not-whole _ c.args.room (λ z. omega (arith, z.ports)))

pub returns-then-times_of-n : goal.returns-then-times_of-n
returns-then-times_of-n c = sym (not-whole _ c.args.room (λ z. omega (arith, z.millis, c.times_of.ensures)))

pub returns-then-unix-n : goal.returns-then-unix-n
returns-then-unix-n c = sym (not-whole _ c.args.room (λ z. omega (arith, z.unix)))

pub returns-then-room-n : goal.returns-then-room-n
returns-then-room-n c = sym (not-whole _ c.args.room (λ z. omega (arith, z.list)))

pub returns : goal.returns
returns c =
    c.adds_up.ensures
    ∙ sym (sized-sum _ c.args.room (record {
      count = omega arith;
      signers = omega arith;
      addresses = omega arith;
      ports = omega arith;
      millis = omega (arith, c.times_of.ensures);
      unix = omega arith;
      list = omega arith;
    }))
