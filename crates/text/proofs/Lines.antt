-- Laws of the lines of a text: the first of them, and lines that are written one after the other.
--     line-at         the line from an index, and those after its 0A
--     lines_none      nothing is left
--     lines-joined    lines without 0A, written with a 0A after each, are these lines
-- Assumes nothing.
use Prim.Native.Nat.{ℕ, suc, ◌+◌, ◌≤◌, ◌<◌}
use mathlib.Core.Path.{◌≡◌, refl, ap, ◌∙◌}
use mathlib.Core.Bool.{false}
use mathlib.Core.List.{List, [], ◌∷◌, ◌++◌, append-nil, map, flat_map}
use native.Mathlib.Omega.{arith}
use lib.Dec.{eqb}
use lib.ListN.{length, drop, length-append, length-drop, drop_of_length-le}
use lib.Seq.{append_snoc, drop-drop}
use Rattle.octets.specs.Octets.{Bytes}
use Rattle.lists.specs.Lists.{All, before}
use Rattle.lists.proofs.Laws.{by_test}
use Rattle.text.specs.Lines.{lines_from, lines_of}
use Rattle.text.specs.Marks.{until}

-- the bytes before the next 0A
abbrev piece : Bytes → Bytes
piece s = before (λ b. eqb b 0x0a) s

first_line : (p s : Bytes) → 0 < length p + length s → lines_from p s ≡ (p ++ piece s) ∷ lines_of (drop (suc (length (piece s))) s)
first_line [] [] h = absurd (omega arith)
first_line (a ∷ p) [] h = rw append-nil
first_line p (b ∷ s) h =
    by_test (eqb b 10)
    (λ e. rw (e, append-nil))
    (λ e. rw e (first_line (p ++ (b ∷ [])) s (omega (arith, length-append p (b ∷ []))) ∙ ap (λ (l : Bytes). l ∷ lines_of (drop (suc (length (piece s))) s)) (append_snoc p b (piece s))))

pub line-at : (s : Bytes) (at : ℕ) → at < length s → lines_of (drop at s) ≡ until 0x0a at s ∷ lines_of (drop (at + length (until 0x0a at s) + 1) s)
unfolding until
line-at s at h =
    let n : ℕ = length (piece (drop at s)) in
    let k : at + suc n ≡ at + n + 1 = omega arith in
    first_line [] (drop at s) (omega (arith, length-drop at s))
    ∙ ap (λ (t : Bytes). piece (drop at s) ∷ lines_of t) (drop-drop (suc n) at s ∙ ap (λ (i : ℕ). drop i s) k)

pub lines_none : (s : Bytes) (at : ℕ) → length s ≤ at → lines_of (drop at s) ≡ []
lines_none s at h = rw (drop_of_length-le s h)

-- no byte is 0A
abbrev pub OneLine : Bytes → Type 0
OneLine l = All (λ b. eqb b 0x0a ≡ false) l

line_joined : (p l s : Bytes) → OneLine l → lines_from p (l ++ 0x0a ∷ s) ≡ (p ++ l) ∷ lines_of s
line_joined p [] s h = rw append-nil
line_joined p (b ∷ l) s h = rw h.0 (line_joined (p ++ (b ∷ [])) l s h.1 ∙ ap (λ (t : Bytes). t ∷ lines_of s) (append_snoc p b l))

module _ {A : Type 0} (f : A → Bytes) where
  pub lines-joined : (xs : List A) → All (λ a. OneLine (f a)) xs → lines_of (flat_map (λ a. f a ++ (0x0a ∷ [])) xs) ≡ map f xs
  unfolding flat_map
  lines-joined [] h = refl
  lines-joined (a ∷ xs) h =
      ap lines_of (append_snoc (f a) 0x0a (flat_map (λ a. f a ++ (0x0a ∷ [])) xs))
      ∙ line_joined [] (f a) (flat_map (λ a. f a ++ (0x0a ∷ [])) xs) h.0
      ∙ ap (λ (ls : List Bytes). f a ∷ ls) (lines-joined xs h.1)
