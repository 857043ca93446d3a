-- `log_own::make` meets its contract. Assumes nothing.
use mathlib.Core.Path.{refl}
use Rattle.numbers.specs.Numbers.{answer_number}
use Rattle.log_own.proofs.OwnLine.{too_few, too_many, made}
use native.Mathlib.Omega.{arith}
use Rattle.log_own.proofs.make.Goals as goal
use Rattle.log_own.proofs.make.Goals.{then-buckets-lt1-via-then-buckets-lt1, then-buckets-lt1-via-else-buckets-lt1+then-buckets-gt16}

pub returns-then-buckets-lt1 : goal.returns-then-buckets-lt1
returns-then-buckets-lt1 c = let a = c.args in
    elim c.then-buckets-lt1.branch [
      | then-buckets-lt1-via-then-buckets-lt1 w ↦ record { number = too_few a.buckets a.key.now w.if-buckets-lt1.true; bytes = refl }
      | then-buckets-lt1-via-else-buckets-lt1+then-buckets-gt16 w ↦ record { number = too_many a.buckets a.key.now w.if-buckets-gt16.true; bytes = refl }
    ]

pub returns : goal.returns
returns c = let a = c.args in
    let i = c.init in
    let whole = made a.buckets a.key.now (omega arith) (omega arith) a.memory.now i.new.table (answer_number i.result) c.requires i.ensures.value i.ensures.table_after i.auto.table in
    record { number = whole.0; bytes = whole.1 }
