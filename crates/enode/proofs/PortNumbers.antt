-- The ports of a line: their text is read, and what is read is their text. Assumes nothing.
use Prim.Native.Nat.{ℕ, ◌+◌, ◌≤◌}
use mathlib.Core.Path.{◌≡◌, refl, sym, ap, ◌∙◌}
use mathlib.Core.Bool.{true, false, cond}
use mathlib.Core.List.{[], ◌++◌, append-nil}
use native.Mathlib.Omega.{arith}
use borrow.Author.Tests.{eq-eqb, eqb-true}
use lib.Dec.{eqb}
use lib.ListN.{length, take, drop, length-drop, length-append, drop_of_length-le, take-append-drop}
use lib.Seq.{drop-drop, drop_at}
use Rattle.octets.specs.Octets.{Bytes, part, same_bytes}
use Rattle.octets.proofs.Laws.{same_eq, same_refl}
use Rattle.lists.proofs.Laws.{by_test}
use Rattle.std.specs.Prelude.{Option, Some, None}
use Rattle.text.specs.Decimals.{decimal, decimal_of}
use Rattle.text.specs.Marks.{until}
use Rattle.text.proofs.Decimals.{decimal_read, decimal-sound, no_mark}
use Rattle.text.proofs.Marks.{cut-until, until-within, until_end, until_mark}
use Rattle.enode.specs.Text.{discport, ports_text}
use Rattle.enode.specs.Reading.{max_port, both, differing, udp_from, with_tcp, ports_of}
use Rattle.enode.specs.declared.Ports.{Ports}
use Rattle.enode.proofs.Reading.{udp-end, udp-by, ports_by}

-- what follows the TCP port
abbrev pub udp_text : ℕ → ℕ → Bytes
udp_text udp tcp = cond (eqb udp tcp) [] (discport ++ decimal udp)

-- ---- what is read

unfit_both : {P : Type 0} {udp tcp : ℕ} → None ≡ both udp tcp → P
unfit_both h = absurd (let z : ◌≡◌ {A = ℕ} 0 1 = cc in omega arith)

both_same : {u v t w : ℕ} → both u t ≡ both v w → (u ≡ v) × (t ≡ w)
both_same {u} {v} {t} {w} h =
    let a : Ports = record { udp = u; tcp = t } in
    let b : Ports = record { udp = v; tcp = w } in
    let e : a ≡ b = cc in
    (ap (λ (p : Ports). p.udp) e, ap (λ (p : Ports). p.tcp) e)

-- what is known of a UDP port that was read
record Udp (s : Bytes) (at tcp udp t : ℕ) : Type 0 where
  same : tcp ≡ t
  text : drop at s ≡ udp_text udp tcp
  most : udp ≤ max_port

word_then : (s : Bytes) (at : ℕ) → part s at 10 ≡ discport → drop at s ≡ discport ++ drop (at + 10) s
unfolding part
word_then s at e =
    sym (take-append-drop 10 (drop at s))
    ∙ ap (λ (l : Bytes). take 10 (drop at s) ++ l) (drop-drop 10 at s)
    ∙ ap (λ (w : Bytes). w ++ drop (at + 10) s) e

differing-sound : (s : Bytes) (at tcp udp t : ℕ) (d : Option ℕ) → part s at 10 ≡ discport → decimal_of max_port (drop (at + 10) s) ≡ d
    → differing tcp d ≡ both udp t → Udp s at tcp udp t
differing-sound s at tcp udp t (Some u) w e r =
    by_test (eqb u tcp)
    (λ x. unfit_both (rw x at r))
    (λ x.
    let pair : both u tcp ≡ both udp t = rw x at r in
    let same : u ≡ udp = (both_same pair).0 in
    let sound : (drop (at + 10) s ≡ decimal u) × (u ≤ max_port) = decimal-sound max_port (drop (at + 10) s) u e in
    let off : eqb udp tcp ≡ false = rw same at x in
    record {
      same = (both_same pair).1;
      text = word_then s at w ∙ rw off (ap (λ (l : Bytes). discport ++ l) (sound.0 ∙ ap decimal same));
      most = omega (arith, sound.1);
    })
differing-sound s at tcp udp t None w e r = unfit_both r

udp_sound : (s : Bytes) (at tcp udp t : ℕ) → tcp ≤ max_port → udp_from s at tcp ≡ both udp t → Udp s at tcp udp t
unfolding udp_from
udp_sound s at tcp udp t h r =
    by_test (eqb at (length s))
    (λ x.
    let pair : both tcp tcp ≡ both udp t = rw x at r in
    let same : tcp ≡ udp = (both_same pair).0 in
    record {
      same = (both_same pair).1;
      text = drop_of_length-le s {i = at} (omega (arith, eqb-true at (length s) x)) ∙ sym (rw (eq-eqb udp tcp (sym same)));
      most = omega arith;
    })
    (λ x.
    by_test (same_bytes (part s at 10) discport)
    (λ w. differing-sound s at tcp udp t (decimal_of max_port (drop (at + 10) s)) (same_eq (part s at 10) discport w) refl (rw (x, w) at r))
    (λ w. unfit_both (rw (x, w) at r)))

-- what is known of ports that were read
pub record Said (s : Bytes) (at udp tcp : ℕ) : Type 0 where
  pub text : drop at s ≡ ports_text udp tcp
  pub udp_most : udp ≤ max_port
  pub tcp_most : tcp ≤ max_port

tcp_sound : (s : Bytes) (at udp tcp : ℕ) (d : Option ℕ) → decimal_of max_port (until 63 at s) ≡ d
    → with_tcp d (udp_from s (at + length (until 63 at s))) ≡ both udp tcp → Said s at udp tcp
unfolding ports_text
tcp_sound s at udp tcp (Some t) e r =
    let sound : (until 63 at s ≡ decimal t) × (t ≤ max_port) = decimal-sound max_port (until 63 at s) t e in
    let u : Udp s (at + length (until 63 at s)) t udp tcp = udp_sound s (at + length (until 63 at s)) t udp tcp sound.1 r in
    record {
      text =
          cut-until 63 s at
          ∙ ap (λ (l : Bytes). l ++ drop (at + length (until 63 at s)) s) sound.0
          ∙ ap (λ (l : Bytes). decimal t ++ l) u.text
          ∙ ap (λ (x : ℕ). decimal x ++ udp_text udp x) u.same;
      udp_most = u.most;
      tcp_most = omega (arith, sound.1, u.same);
    }
tcp_sound s at udp tcp None e r = unfit_both r

pub ports_sound : (s : Bytes) (at udp tcp : ℕ) → ports_of s at ≡ both udp tcp → Said s at udp tcp
unfolding ports_of
ports_sound s at udp tcp r = tcp_sound s at udp tcp (decimal_of max_port (until 63 at s)) refl r

-- ---- what is written

udp_read : (s : Bytes) (at udp tcp : ℕ) → at ≤ length s → udp ≤ max_port → drop at s ≡ udp_text udp tcp → udp_from s at tcp ≡ both udp tcp
unfolding part
udp_read s at udp tcp h l e =
    by_test (eqb udp tcp)
    (λ x.
    let none : drop at s ≡ [] = rw x at e in
    udp-end s at tcp (omega (arith, length-drop at s, ap length none)) ∙ ap (λ (u : ℕ). both u tcp) (sym (eqb-true udp tcp x)))
    (λ x.
    let some : drop at s ≡ discport ++ decimal udp = rw x at e in
    let long : 10 ≤ length (drop at s) = omega (arith, ap length some, length-append discport (decimal udp)) in
    let word : part s at 10 ≡ discport = ap (take 10) some in
    let rest : drop (at + 10) s ≡ decimal udp = sym (drop-drop 10 at s) ∙ ap (drop 10) some in
    let same : same_bytes (part s at 10) discport ≡ true = rw word (same_refl discport) in
    udp-by s at tcp (λ z. omega (arith, length-drop at s)) same (ap (decimal_of max_port) rest ∙ decimal_read max_port udp l) ∙ rw x)

until_tcp : (s : Bytes) (at udp tcp : ℕ) → drop at s ≡ decimal tcp ++ udp_text udp tcp → until 63 at s ≡ decimal tcp
until_tcp s at udp tcp e =
    by_test (eqb udp tcp)
    (λ x. until_end 63 s at (decimal tcp) (no_mark 63 tcp refl) (rw x at e ∙ append-nil (decimal tcp)))
    (λ x. until_mark 63 s at (decimal tcp) _ (no_mark 63 tcp refl) (rw x at e))

pub ports_read : (s : Bytes) (at udp tcp : ℕ) → at ≤ length s → Said s at udp tcp → ports_of s at ≡ both udp tcp
unfolding ports_text
ports_read s at udp tcp h p =
    let u : until 63 at s ≡ decimal tcp = until_tcp s at udp tcp p.text in
    let rest : drop (at + length (until 63 at s)) s ≡ udp_text udp tcp =
    sym (drop-drop (length (until 63 at s)) at s) ∙ ap (drop (length (until 63 at s))) p.text ∙ drop_at (decimal tcp) (udp_text udp tcp) _ (sym (ap length u)) in
    ports_by s at (ap (decimal_of max_port) u ∙ decimal_read max_port tcp p.tcp_most)
    ∙ udp_read s (at + length (until 63 at s)) udp tcp (until-within 63 s at h) p.udp_most rest
