-- `enode::udp_from` meets its contract. Assumes nothing.
use Prim.Native.Nat.{ℕ, ◌-◌}
use mathlib.Core.Path.{◌≡◌, sym, ap, ◌∙◌}
use mathlib.Core.Bool.{Bool, true}
use lib.Dec.{eqb}
use lib.ListN.{length, take, drop, length-drop}
use lib.Seq.{take_all, drop-drop}
use borrow.Author.Tests.{eq-eqb, ne_eqb}
use Rattle.std.specs.Prelude.{Option}
use Rattle.std.specs.Cmp.Lexicographic.{pointwise}
use Rattle.octets.specs.Octets.{Bytes, part, same_bytes}
use Rattle.text.specs.Decimals.{decimal_of}
use Rattle.text.proofs.Decimals.{decimal-sound}
use Rattle.enode.specs.Text.{discport}
use Rattle.enode.specs.Reading.{max_port, differing, udp_from}
use Rattle.enode.proofs.Reading.{same_is, udp-end, udp-off, udp-by}
use native.Mathlib.Omega.{arith}
use Rattle.enode.proofs.udp_from.Goals as goal

-- the slice from index at
rest : (s : Bytes) (at : ℕ) → take (length s - at) (drop at s) ≡ drop at s
rest s at = take_all (length s - at) (drop at s) (omega (arith, length-drop at s))

-- the word that was compared
word : (s : Bytes) (at : ℕ) {b : Bool} → pointwise eqb (take 10 (take (length s - at) (drop at s))) discport ≡ b → same_bytes (part s at 10) discport ≡ b
unfolding part
word s at e = sym (same_is (take 10 (drop at s)) discport) ∙ rw (rest s at) at e

-- the word is there, and then this is read
read : (s : Bytes) (at tcp : ℕ) → (at ≡ length s → ⊥) → pointwise eqb (take 10 (take (length s - at) (drop at s))) discport ≡ true
    → {digits : Bytes} → digits ≡ drop 10 (take (length s - at) (drop at s)) → {r d : Option ℕ} → r ≡ decimal_of max_port digits → r ≡ d → udp_from s at tcp ≡ differing tcp d
read s at tcp ne w t e is =
    udp-by s at tcp ne (word s at w) (ap (decimal_of max_port) (sym (drop-drop 10 at s) ∙ ap (drop 10) (sym (rest s at)) ∙ sym t) ∙ sym e ∙ is)

pub returns-then-at-s : goal.returns-then-at-s
returns-then-at-s c = let a = c.args in sym (udp-end a.s.now a.at a.tcp c.if-at-s.true)

pub returns-in_err-digits : goal.returns-in_err-digits
returns-in_err-digits c = let a = c.args in
    c.from_residual.ensures ∙ sym (udp-off a.s.now a.at a.tcp c.if-at-s.false (word a.s.now a.at c.in_err-digits.ensures.cases))

pub returns-in_err-udp : goal.returns-in_err-udp
returns-in_err-udp c = let a = c.args in
    let w = c.in_ok-digits.ensures.cases in
    c.from_residual-in_err-udp.ensures ∙ sym (read a.s.now a.at a.tcp c.if-at-s.false w.0 w.1 c.read_decimal.ensures c.in_err-udp.was)

pub returns-then-udp-tcp : goal.returns-then-udp-tcp
returns-then-udp-tcp c = let a = c.args in
    let w = c.in_ok-digits.ensures.cases in
    sym (read a.s.now a.at a.tcp c.if-at-s.false w.0 w.1 c.read_decimal.ensures c.in_ok-udp.was ∙ rw (eq-eqb c.in_ok-udp.udp a.tcp c.if-udp-tcp.true))

pub overflow_cast-result-2 : goal.overflow_cast-result-2
overflow_cast-result-2 c = let d = c.read_decimal in
    record { fits = omega (arith, (decimal-sound max_port _ _ (sym d.ensures ∙ c.in_ok-udp.was)).1) }

pub returns : goal.returns
returns c = let a = c.args in
    let w = c.in_ok-digits.ensures.cases in
    sym (read a.s.now a.at a.tcp c.if-at-s.false w.0 w.1 c.read_decimal.ensures c.in_ok-udp.was ∙ rw (ne_eqb c.in_ok-udp.udp a.tcp c.if-udp-tcp.false))
