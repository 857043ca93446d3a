-- `call_burst_lists::signer_at` meets its contract. Assumes nothing.
use mathlib.Core.Path.{sym, ◌∙◌}
use Prim.Native.Nat.{◌*◌}
use Rattle.call_burst_lists.proofs.Parts.{signer-none, signer-key}
use Rattle.call_burst_lists.proofs.signer_at.Goals as goal

pub returns-then-same_bytes : goal.returns-then-same_bytes
returns-then-same_bytes c = let args = c.args in
    signer-none args.signers.now (64 * args.i) (sym c.same_bytes.ensures ∙ c.if-same_bytes.true)

pub returns : goal.returns
returns c = let args = c.args in
    signer-key args.signers.now (64 * args.i) (sym c.same_bytes.ensures ∙ c.if-same_bytes.false)
