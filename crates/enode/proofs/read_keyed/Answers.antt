-- `enode::read_keyed` meets its contract. The invariant: the octets before this one are read, and zeros follow them. Assumes nothing.
use Prim.Native.Nat.{ℕ, ◌+◌, ◌-◌, ◌<◌}
use mathlib.Core.Path.{◌≡◌, sym, ap, ◌∙◌}
use native.Mathlib.Omega.{arith}
use mathlib.Core.List.{List, [], ◌∷◌, ◌++◌}
use lib.ListN.{length, take, drop, replicate, length-drop, length-replicate, take-append-drop}
use lib.Seq.{drop-drop}
use Rattle.std.proofs.lemmas.List.{drop-set-lt, drop-replicate}
use Rattle.octets.specs.Octets.{Bytes, part}
use Rattle.text.specs.Hex.{unhex}
use Rattle.enode.proofs.Reading.{field-sound, at-octet-on, at-octet-off, then-ports}
use Rattle.enode.proofs.read_keyed.Goals as goal

abbrev marks : List ℕ
marks = 46 ∷ 46 ∷ 46 ∷ 58 ∷ []

pub field_at-requires : goal.field_at-requires
field_at-requires c = c.loop-i.invariant.read.within

pub returns-in_err-octet : goal.returns-in_err-octet
returns-in_err-octet c = let l = c.args.line.now in
    c.from_residual.ensures ∙ sym (at-octet-off (unhex (part l 8 128)) marks c.loop-i.address (omega arith) c.loop-i.invariant.read (sym c.field_at.ensures ∙ c.in_err-octet.was))

pub overflow_cast-address : goal.overflow_cast-address
overflow_cast-address c = record { fits = omega (arith, (field-sound _ 255 _ _ _ _ (sym c.field_at.ensures ∙ c.in_ok-octet.was)).most) }

pub loop-i-preserved : goal.loop-i-preserved
loop-i-preserved c = let l = c.args.line.now in
    let i = c.loop-i in
    let size : i.i < length i.address = omega (arith, ap length i.invariant.zeros, length-drop i.i i.address, length-replicate {A = ℕ} (16 - i.i) 0) in
    let more : drop (i.i + 1) i.address ≡ replicate (16 - (i.i + 1)) 0 =
    sym (drop-drop 1 i.i i.address) ∙ ap (drop 1) i.invariant.zeros ∙ drop-replicate 1 (16 - i.i) 0 ∙ ap (λ (k : ℕ). replicate k 0) (omega arith) in
    record {
      read = at-octet-on (unhex (part l 8 128)) marks i.address (omega arith) i.invariant.read size (sym c.field_at.ensures ∙ c.in_ok-octet.was);
      zeros = drop-set-lt (i.i + 1) i.address i.i _ (omega arith) ∙ more;
    }

pub ports_of-requires : goal.ports_of-requires
ports_of-requires c = c.loop-i.invariant.read.within

pub returns-in_err-udp : goal.returns-in_err-udp
returns-in_err-udp c = let l = c.args.line.now in
    let i = c.loop-i in
    let end : i.i ≡ 4 = omega arith in
    c.from_residual-in_err-udp.ensures ∙ sym (then-ports (unhex (part l 8 128)) (rw end at i.invariant.read) (sym c.ports_of.ensures ∙ c.in_err-udp.was))

pub returns : goal.returns
returns c = let l = c.args.line.now in
    let i = c.loop-i in
    let end : i.i ≡ 4 = omega arith in
    let whole : take 4 i.address ++ replicate 12 0 ≡ i.address = ap (λ (z : Bytes). take 4 i.address ++ z) (sym (rw end at i.invariant.zeros)) ∙ take-append-drop 4 i.address in
    rw (c.key_of-key.ensures, sym whole) (sym (then-ports (unhex (part l 8 128)) (rw end at i.invariant.read) (sym c.ports_of.ensures ∙ c.in_ok-udp.was)))
