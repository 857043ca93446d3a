-- `log_line::read_line` meets its contract. Assumes nothing.
use mathlib.Core.Path.{sym, ◌∙◌}
use Rattle.log_line.specs.Fields.{fields}
use Rattle.log_line.proofs.Reading.{own_same, rx-same, sent-same, sweep-same}
use Rattle.log_line.proofs.Found.{found_within, found-field, outcome, line_long, line-own, line-rx, line-sent, line-sweep, line-none}
use native.Mathlib.Omega.{arith}
use Rattle.log_line.proofs.read_line.Goals as goal

pub returns-then-line-gt-LIMIT : goal.returns-then-line-gt-LIMIT
returns-then-line-gt-LIMIT c = sym (line_long c.args.line.now (omega arith))

pub own-requires : goal.own-requires
own-requires c = found_within c.args.line.now c.split-found.result c.split-found.ensures

pub returns-then-of_form : goal.returns-then-of_form
returns-then-of_form c = let line = c.args.line.now in
    let found = c.split-found in
    c.own.ensures ∙ own_same line found.result.spans (fields line) (found-field line found.result found.ensures) ∙ sym (line-own line (omega arith) (outcome c.of_form.ensures c.if-of_form.true))

pub rx-requires : goal.rx-requires
rx-requires c = found_within c.args.line.now c.split-found.result c.split-found.ensures

pub returns-then-of_form-2 : goal.returns-then-of_form-2
returns-then-of_form-2 c = let line = c.args.line.now in
    let found = c.split-found in
    c.rx.ensures ∙ rx-same line found.result.spans (fields line) (found-field line found.result found.ensures) ∙ sym (line-rx line (omega arith) (outcome c.of_form.ensures c.if-of_form.false) (outcome c.of_form-2.ensures c.if-of_form-2.true))

pub sent-requires : goal.sent-requires
sent-requires c = found_within c.args.line.now c.split-found.result c.split-found.ensures

pub returns-then-of_form-3 : goal.returns-then-of_form-3
returns-then-of_form-3 c = let line = c.args.line.now in
    let found = c.split-found in
    c.sent.ensures ∙ sent-same line found.result.spans (fields line) (found-field line found.result found.ensures) ∙ sym (line-sent line (omega arith) (outcome c.of_form.ensures c.if-of_form.false) (outcome c.of_form-2.ensures c.if-of_form-2.false) (outcome c.of_form-3.ensures c.if-of_form-3.true))

pub sweep-requires : goal.sweep-requires
sweep-requires c = found_within c.args.line.now c.split-found.result c.split-found.ensures

pub returns-then-of_form-4 : goal.returns-then-of_form-4
returns-then-of_form-4 c = let line = c.args.line.now in
    let found = c.split-found in
    c.sweep.ensures ∙ sweep-same line found.result.spans (fields line) (found-field line found.result found.ensures) ∙ sym (line-sweep line (omega arith) (outcome c.of_form.ensures c.if-of_form.false) (outcome c.of_form-2.ensures c.if-of_form-2.false) (outcome c.of_form-3.ensures c.if-of_form-3.false) (outcome c.of_form-4.ensures c.if-of_form-4.true))

pub returns : goal.returns
returns c = let line = c.args.line.now in
    sym (line-none line (omega arith) (outcome c.of_form.ensures c.if-of_form.false) (outcome c.of_form-2.ensures c.if-of_form-2.false) (outcome c.of_form-3.ensures c.if-of_form-3.false) (outcome c.of_form-4.ensures c.if-of_form-4.false))
