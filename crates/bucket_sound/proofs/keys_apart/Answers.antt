-- `bucket_sound::keys_apart` meets its contract. The invariant: the answer is that of the records from i on. Assumes nothing.
use mathlib.Core.Path.{◌≡◌, sym, ◌∙◌}
use mathlib.Core.Bool.{Bool, not, ◌&&◌}
use Prim.Native.Nat.{ℕ, ◌+◌, ◌*◌, ◌-◌}
use native.Mathlib.Omega.{arith}
use borrow.Author.Rules.{rules}
use Rattle.octets.specs.Octets.{Bytes, part}
use Rattle.lists.specs.Lists.{any}
use Rattle.bucket_model.specs.Contents.{entries_at}
use Rattle.bucket_model.specs.Rules.{is_of}
use Rattle.bucket_sound.specs.Steps.{keys_apart}
use Rattle.bucket_sound.proofs.Steps.{apart-left, goes_on, stops, from_start, at_end, no_keys}
use Rattle.bucket_sound.proofs.keys_apart.Goals as goal

pub loop-i-init : goal.loop-i-init
loop-i-init c = let args = c.args in (omega arith, from_start (λ x k. keys_apart args.bytes.now x k args.other args.m) args.at args.n)

pub absent-requires : goal.absent-requires
absent-requires c = (omega arith, (omega arith, omega arith))

pub absent-requires-then-absent : goal.absent-requires-then-absent
absent-requires-then-absent c = (omega arith, (omega arith, omega arith))

-- the key of record i is none of those behind it, and none of the others
abbrev one_apart : Bytes → ℕ → ℕ → ℕ → ℕ → ℕ → Bool
one_apart s at n i other m =
    not (any (is_of (part s (at + i * 143) 64)) (entries_at s (at + i * 143 + 143) (n - i - 1))) && not (any (is_of (part s (at + i * 143) 64)) (entries_at s other m))

pub returns-then-not-absent : goal.returns-then-not-absent
returns-then-not-absent c =
    let args = c.args in
    let s = args.bytes.now in
    let i = c.loop-i.i in
    let is : c.if-absent.value ≡ one_apart s args.at args.n i args.other args.m = search rules in
    stops (keys_apart s (args.at + (i + 1) * 143) (args.n - (i + 1)) args.other args.m) c.loop-i.invariant.1
    (apart-left s args.at args.n i (omega arith) args.other args.m) is c.if-not-absent.true

pub loop-i-preserved : goal.loop-i-preserved
loop-i-preserved c =
    let args = c.args in
    let is : c.if-absent.value ≡ one_apart args.bytes.now args.at args.n c.loop-i.i args.other args.m = search rules in (
      omega arith,
      goes_on c.loop-i.invariant.1 (apart-left args.bytes.now args.at args.n c.loop-i.i (omega arith) args.other args.m) is c.if-not-absent.false,
    )

pub returns : goal.returns
returns c = let at_loop = c in
    let args = at_loop.args in
    let s = args.bytes.now in
    let from = args.at + at_loop.loop-i.i * 143 in
    sym (at_loop.loop-i.invariant.1 ∙ at_end (λ x k. keys_apart s x k args.other args.m) from args.n at_loop.loop-i.i (omega arith) ∙ no_keys s from args.other args.m)
