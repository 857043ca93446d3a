-- `table::header_sound` meets its contract. Assumes nothing.
use mathlib.Core.Path.{sym, ◌∙◌}
use native.Mathlib.Omega.{arith}
use Rattle.octets.specs.Octets.{part}
use Rattle.table_model.proofs.Header.{header_unsound, header_zeros}
use Rattle.table.proofs.header_sound.Goals as goal

pub returns-then-size-lt-HEADER_SIZE : goal.returns-then-size-lt-HEADER_SIZE
returns-then-size-lt-HEADER_SIZE c = sym (header_unsound c.args.bytes.now (λ h. omega (arith, h.one, h.size)))

pub returns-then-count-lt1 : goal.returns-then-count-lt1
returns-then-count-lt1 c = sym (header_unsound c.args.bytes.now (λ h. omega (arith, h.one)))

pub returns-then-count-gt256 : goal.returns-then-count-gt256
returns-then-count-gt256 c = sym (header_unsound c.args.bytes.now (λ h. omega (arith, h.most)))

pub returns-then-size-count : goal.returns-then-size-count
returns-then-size-count c = sym (header_unsound c.args.bytes.now (λ h. omega (arith, h.size)))

pub returns : goal.returns
unfolding part
returns c = let bytes = c.args.bytes.now in
    c.same_bytes.ensures ∙ sym (header_zeros bytes (omega arith) (omega arith) (omega arith))
