-- `log_line::signer` meets its contract. Assumes nothing.
use mathlib.Core.Path.{sym, ap, ◌∙◌}
use Rattle.octets.specs.Octets.{Bytes, same_bytes}
use Rattle.log_line.specs.Forms.{dash, signer}
use Rattle.log_line.proofs.signer.Goals as goal

pub returns-then-same_bytes : goal.returns-then-same_bytes
unfolding signer
returns-then-same_bytes c = let e = ap (λ (t : Bytes). same_bytes t dash) (sym c.text_of.ensures) ∙ sym c.same_bytes.ensures ∙ c.if-same_bytes.true in sym (rw e)

pub returns : goal.returns
unfolding signer
returns c = let e = ap (λ (t : Bytes). same_bytes t dash) (sym c.text_of.ensures) ∙ sym c.same_bytes.ensures ∙ c.if-same_bytes.false in sym (rw e)
