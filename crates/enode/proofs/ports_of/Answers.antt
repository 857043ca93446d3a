-- `enode::ports_of` meets its contract. Assumes nothing.
use Prim.Native.Nat.{ℕ, ◌+◌, ◌-◌}
use mathlib.Core.Path.{◌≡◌, sym, ap, ◌∙◌}
use lib.ListN.{length, take, drop}
use Rattle.std.specs.Prelude.{Option}
use Rattle.octets.specs.Octets.{Bytes}
use Rattle.text.specs.Decimals.{decimal_of}
use Rattle.text.specs.Marks.{until}
use Rattle.text.proofs.Decimals.{decimal-sound}
use Rattle.text.proofs.Marks.{take-until}
use Rattle.enode.specs.Reading.{max_port, udp_from}
use Rattle.enode.proofs.Reading.{ports_by}
use Rattle.enode.proofs.ports_of.Goals as goal

-- the decimal that was read up to `?`
read : (s : Bytes) (at : ℕ) {end : ℕ} {r : Option ℕ} → end ≡ at + length (until 63 at s) → r ≡ decimal_of max_port (take (end - at) (drop at s)) → {d : Option ℕ} → r ≡ d → decimal_of max_port (until 63 at s) ≡ d
read s at h e t = ap (decimal_of max_port) (sym (take-until 63 s at _ h)) ∙ sym e ∙ t

pub returns-in_err-tcp : goal.returns-in_err-tcp
returns-in_err-tcp c =
    let a = c.args in c.from_residual.ensures ∙ sym (ports_by a.s.now a.at (read a.s.now a.at c.find-end.ensures.end c.read_decimal.ensures c.in_err-tcp.was))

pub udp_from-requires : goal.udp_from-requires
udp_from-requires c =
    let a = c.args in
    (c.find-end.ensures.within, (decimal-sound max_port _ _ (read a.s.now a.at c.find-end.ensures.end c.read_decimal.ensures c.in_ok-tcp.was)).1)

pub returns : goal.returns
returns c =
    let a = c.args in
    c.udp_from.ensures
    ∙ ap (λ (k : ℕ). udp_from a.s.now k c.in_ok-tcp.tcp) c.find-end.ensures.end
    ∙ sym (ports_by a.s.now a.at (read a.s.now a.at c.find-end.ensures.end c.read_decimal.ensures c.in_ok-tcp.was))
