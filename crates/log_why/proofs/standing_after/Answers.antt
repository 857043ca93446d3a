-- `log_why::standing_after` meets its contract. Assumes nothing.
use mathlib.Core.Path.{sym, ◌∙◌}
use Rattle.log_why.proofs.Trails.{by-seat, by-joining, by-staying, by-ping, by-proof}
use Rattle.log_why.proofs.standing_after.Goals as goal

pub returns-then-seats : goal.returns-then-seats
returns-then-seats c = let a = c.args in
    by-seat a.trail a.acted a.before a.after (sym c.seats.ensures ∙ c.if-seats.true)

pub returns-then-joins : goal.returns-then-joins
returns-then-joins c = let a = c.args in
    by-joining a.trail a.acted a.before a.after (sym c.seats.ensures ∙ c.if-seats.false) (sym c.joins.ensures ∙ c.if-joins.true)

pub returns-then-not-removes : goal.returns-then-not-removes
returns-then-not-removes c = let a = c.args in
    by-staying a.trail a.acted a.before a.after (sym c.seats.ensures ∙ c.if-seats.false) (sym c.joins.ensures ∙ c.if-joins.false)
    (sym c.removes.ensures ∙ c.if-not-removes.true)

pub returns-then-acted : goal.returns-then-acted
returns-then-acted c = let a = c.args in
    by-ping a.trail a.acted a.before a.after (sym c.seats.ensures ∙ c.if-seats.false) (sym c.joins.ensures ∙ c.if-joins.false)
    (sym c.removes.ensures ∙ c.if-not-removes.false) c.if-acted.true

pub returns : goal.returns
returns c = let a = c.args in
    by-proof a.trail a.acted a.before a.after (sym c.seats.ensures ∙ c.if-seats.false) (sym c.joins.ensures ∙ c.if-joins.false)
    (sym c.removes.ensures ∙ c.if-not-removes.false) c.if-acted.false
