use Rattle.std.proofs.Common.{arith, rules, ◌∙◌}
use Rattle.clock32.proofs.Steps.{stepped, too_far, beyond, in_reach}
use Rattle.clock32.proofs.widen.Goals as goal

pub returns-then-step-ge2147483648 : goal.returns-then-step-ge2147483648
returns-then-step-ge2147483648 c = too_far _ _ _ (stepped c.args.clock.0 c.args.reading.0 (search rules)) (omega arith)

pub returns-in_err-wide : goal.returns-in_err-wide
returns-in_err-wide c =
    c.from_residual.ensures ∙ beyond _ _ _ (stepped c.args.clock.0 c.args.reading.0 (search rules)) (omega arith) (omega (arith, c.in_err-wide.ensures, c.from.ensures))

pub returns : goal.returns
returns c =
    rw (c.in_ok-wide.ensures.1, c.from.ensures) (in_reach _ _ _ (stepped c.args.clock.0 c.args.reading.0 (search rules)) (omega arith) (omega (arith, c.in_ok-wide.ensures.0, c.from.ensures)))
