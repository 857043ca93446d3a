-- A 32-bit reading, widened by the table's clock (document 02, C-20).
use Rattle.std.specs.Prelude.{ℕ, ◌+◌, ◌-◌, ◌%◌, ◌^◌, ◌&&◌, cond, nat_lt, Option, Some, None}
use Rattle.node.specs.declared.MonotonicMillis.{MonotonicMillis}

-- "the difference of the reading and the clock's low 32 bits, taken round the rollover"
unfoldable pub step_of : ℕ → ℕ → ℕ
step_of clock reading = (reading + (2 ^ 32 - clock % 2 ^ 32)) % 2 ^ 32

-- it "is added if below 2^31. Otherwise the reading counts as going back .., as does a sum past 64 bits"
unfoldable pub widened : ℕ → ℕ → Option MonotonicMillis
widened clock reading =
    cond (nat_lt (step_of clock reading) (2 ^ 31) && nat_lt (clock + step_of clock reading) (2 ^ 64)) (Some (record { 0 = clock + step_of clock reading })) None
