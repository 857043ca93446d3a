-- `log_line::of_form` meets its contract. Assumes nothing.
use mathlib.Core.Path.{sym, ap, ◌∙◌}
use Rattle.octets.specs.Octets.{Bytes, same_bytes}
use Rattle.log_line.proofs.Found.{found_within, form-none, form-other, form-is, rest-size, rest-within, outcome}
use Rattle.log_line.proofs.of_form.Goals as goal

pub returns-then-found-kinds : goal.returns-then-found-kinds
returns-then-found-kinds c = let a = c.args in sym (form-none a.line.now a.found c.requires.1 a.word.now a.kinds.now c.if-found-kinds.true)

pub text_of-requires : goal.text_of-requires
text_of-requires c = let a = c.args in found_within a.line.now a.found c.requires.1 0

pub each-requires : goal.each-requires
each-requires c = let a = c.args in
    (rest-size a.line.now a.found c.requires.1 a.word.now a.kinds.now c.requires.0 c.if-found-kinds.false, rest-within a.line.now a.found c.requires.1 a.word.now a.kinds.now c.requires.0 c.if-found-kinds.false)

pub returns-then-same_bytes : goal.returns-then-same_bytes
returns-then-same_bytes c = let a = c.args in
    let w = outcome (c.same_bytes.ensures ∙ ap (λ (t : Bytes). same_bytes t a.word.now) c.text_of.ensures) (c.if-same_bytes.true) in
    c.each.ensures ∙ form-is a.line.now a.found c.requires.1 a.word.now a.kinds.now c.requires.0 c.if-found-kinds.false w

pub returns-else-same_bytes : goal.returns-else-same_bytes
returns-else-same_bytes c = let a = c.args in
    let w = outcome (c.same_bytes.ensures ∙ ap (λ (t : Bytes). same_bytes t a.word.now) c.text_of.ensures) (c.if-same_bytes.false) in
    c.if-same_bytes.false ∙ sym (form-other a.line.now a.found c.requires.1 a.word.now a.kinds.now w)
