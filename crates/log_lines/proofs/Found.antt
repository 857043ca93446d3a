-- What a step of the splitter finds lies in the chunk and in the buffer. Assumes nothing.
use Prim.Native.Nat.{ℕ, ◌+◌, ◌≤◌, ◌<◌}
use mathlib.Core.Path.{◌≡◌, ap}
use native.Mathlib.Omega.{arith}
use borrow.Author.Tests.{ltb-true}
use lib.Dec.{ltb, eqb}
use lib.ListN.{length, drop}
use Rattle.octets.specs.Octets.{Bytes}
use Rattle.lists.proofs.Laws.{by_test}
use Rattle.log_lines.specs.declared.Begun.{Begun}
use Rattle.log_lines.specs.declared.Step.TheVariants as step
use Rattle.log_lines.specs.declared.Last.TheVariants as last
use Rattle.log_lines.specs.Steps.{piece, grown, step_of, last_of, fresh}
use Rattle.log_lines.proofs.Laws.{grown_size}

-- ---- a step

abbrev size : Bytes → ℕ → ℕ
size chunk at = length (piece (drop at chunk))

module _ (b : Begun) (chunk : Bytes) (at : ℕ) where
  pub line_step : (len next : ℕ) → b.len ≤ 3000 → step_of b chunk at ≡ step.Line len next → (len ≤ 3000) × ((at < next) × (next ≤ length chunk))
  unfolding step_of
  line_step len next small =
      by_test (ltb (at + size chunk at) (length chunk))
      (λ t.
      by_test (grown b (size chunk at)).over
      (λ o. rw (t, o) (λ (e : step.TooLong (at + size chunk at + 1) ≡ step.Line len next). absurd (let z : ◌≡◌ {A = ℕ} 0 1 = cc in omega arith)))
      (λ o. rw (t, o) (λ (e : step.Line (grown b (size chunk at)).len (at + size chunk at + 1) ≡ step.Line len next).
      let el : (grown b (size chunk at)).len ≡ len = cc in
      let en : at + size chunk at + 1 ≡ next = cc in
      let less : at + size chunk at < length chunk = ltb-true _ _ t in
      (omega (arith, el, grown_size b (size chunk at) small), (omega (arith, en), omega (arith, en, less))))))
      (λ t. rw t (λ (e : step.More (grown b (size chunk at)) ≡ step.Line len next). absurd (let z : ◌≡◌ {A = ℕ} 0 1 = cc in omega arith)))

  pub long-step : (next : ℕ) → step_of b chunk at ≡ step.TooLong next → (at < next) × (next ≤ length chunk)
  unfolding step_of
  long-step next =
      by_test (ltb (at + size chunk at) (length chunk))
      (λ t.
      by_test (grown b (size chunk at)).over
      (λ o. rw (t, o) (λ (e : step.TooLong (at + size chunk at + 1) ≡ step.TooLong next).
      let en : at + size chunk at + 1 ≡ next = cc in
      let less : at + size chunk at < length chunk = ltb-true _ _ t in
      (omega (arith, en), omega (arith, en, less))))
      (λ o. rw (t, o) (λ (e : step.Line (grown b (size chunk at)).len (at + size chunk at + 1) ≡ step.TooLong next). absurd (let z : ◌≡◌ {A = ℕ} 0 1 = cc in omega arith))))
      (λ t. rw t (λ (e : step.More (grown b (size chunk at)) ≡ step.TooLong next). absurd (let z : ◌≡◌ {A = ℕ} 0 1 = cc in omega arith)))

  pub more-step : (b' : Begun) → b.len ≤ 3000 → step_of b chunk at ≡ step.More b' → b'.len ≤ 3000
  unfolding step_of
  more-step b' small =
      by_test (ltb (at + size chunk at) (length chunk))
      (λ t.
      by_test (grown b (size chunk at)).over
      (λ o. rw (t, o) (λ (e : step.TooLong (at + size chunk at + 1) ≡ step.More b'). absurd (let z : ◌≡◌ {A = ℕ} 0 1 = cc in omega arith)))
      (λ o. rw (t, o) (λ (e : step.Line (grown b (size chunk at)).len (at + size chunk at + 1) ≡ step.More b'). absurd (let z : ◌≡◌ {A = ℕ} 0 1 = cc in omega arith))))
      (λ t. rw t (λ (e : step.More (grown b (size chunk at)) ≡ step.More b').
      let eb : grown b (size chunk at) ≡ b' = cc in
      let el : (grown b (size chunk at)).len ≡ b'.len = ap (λ (x : Begun). x.len) eb in
      omega (arith, el, grown_size b (size chunk at) small)))

-- ---- the log's end

pub last_step : (b : Begun) (len : ℕ) → b.len ≤ 3000 → last_of b ≡ last.Line len → len ≤ 3000
unfolding last_of
last_step b len small =
    by_test b.over
    (λ o. rw o (λ (e : last.TooLong ≡ last.Line len). absurd (let z : ◌≡◌ {A = ℕ} 0 1 = cc in omega arith)))
    (λ o.
    by_test (eqb b.len 0)
    (λ t. rw (o, t) (λ (e : last.Nothing ≡ last.Line len). absurd (let z : ◌≡◌ {A = ℕ} 0 1 = cc in omega arith)))
    (λ t. rw (o, t) (λ (e : last.Line b.len ≡ last.Line len). let el : b.len ≡ len = cc in omega (arith, el))))

-- ---- no line is begun

pub fresh_size : (b : Begun) → b ≡ fresh → b.len ≤ 3000
fresh_size b e = let n : b.len ≡ 0 = ap (λ (x : Begun). x.len) e in omega arith
