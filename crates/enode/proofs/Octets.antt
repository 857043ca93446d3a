-- The octets and ports of a line: their text is read, and what is read is their text. Assumes nothing.
use Prim.Native.Nat.{ℕ, suc, ◌+◌, ◌≤◌, ◌<◌}
use mathlib.Core.Path.{◌≡◌, refl, sym, ap, ◌∙◌}
use mathlib.Core.Bool.{false}
use mathlib.Core.List.{List, [], ◌∷◌, ◌++◌, append-nil, append_assoc}
use native.Mathlib.Omega.{arith}
use lib.ListN.{length, drop, length-drop, length-append}
use lib.Seq.{append_snoc, drop-drop, drop-append-add}
use Rattle.octets.specs.Octets.{Bytes}
use Rattle.lists.specs.Lists.{All}
use Rattle.text.specs.Decimals.{decimal, decimal_of, is_digit}
use Rattle.text.specs.Marks.{until}
use Rattle.text.proofs.Decimals.{decimal_read, no_mark}
use Rattle.text.proofs.Marks.{until_mark}
use Rattle.enode.specs.Text.{dotted, ports_text}
use Rattle.enode.specs.Reading.{number, max_port, both, field_at, ports_of, node_of, with_ports, on_field, octets_from}
use Rattle.node.specs.declared.Node.{Node}
use Rattle.enode.specs.declared.Field.{Field}
use Rattle.enode.specs.declared.Ports.{Ports}
use Rattle.std.specs.Prelude.{Option, Some, None}
use Rattle.enode.proofs.Reading.{field-by, Fielded, field-sound}
use Rattle.enode.proofs.PortNumbers.{Said, ports_sound, ports_read}

-- numbers with a mark after each, and then the text t
abbrev pub marked : Bytes → List ℕ → Bytes → Bytes
marked [] marks t = t
marked (b ∷ bs) [] t = t
marked (b ∷ bs) (m ∷ marks) t = decimal b ++ m ∷ marked bs marks t

pub not_fit : {P : Type 0} {n : Node} → None ≡ Some n → P
not_fit h = absurd (let z : ◌≡◌ {A = ℕ} 0 1 = cc in omega arith)

-- ---- what is read

-- what is known of a line that was read from index at, where these octets were read before and these marks were to come
pub record Told (key address : Bytes) (marks : List ℕ) (s : Bytes) (at : ℕ) (n : Node) : Type 0 where
  pub octets : Bytes
  pub udp : ℕ
  pub tcp : ℕ
  pub node : node_of key (address ++ octets) udp tcp ≡ n
  pub size : length octets ≡ length marks
  pub small : All (λ (b : ℕ). b < 256) octets
  pub text : drop at s ≡ marked octets marks (ports_text udp tcp)
  pub udp_most : udp ≤ max_port
  pub tcp_most : tcp ≤ max_port

module _ (key : Bytes) (s : Bytes) (n : Node) where
  ports-told : (address : Bytes) (at : ℕ) (p : Option Ports) → ports_of s at ≡ p → with_ports key address p ≡ Some n → Told key address [] s at n
  ports-told address at (Some q) e r =
      let p : Said s at q.udp q.tcp = ports_sound s at q.udp q.tcp e in
      record {
        octets = [];
        udp = q.udp;
        tcp = q.tcp;
        node = ap (λ (a : Bytes). node_of key a q.udp q.tcp) (append-nil address) ∙ cc;
        size = refl;
        small = tt;
        text = p.text;
        udp_most = p.udp_most;
        tcp_most = p.tcp_most;
      }
  ports-told address at None e r = not_fit r

  octet-told : (address : Bytes) (mark : ℕ) (marks : List ℕ) (at : ℕ) (f : Option Field) → field_at mark 255 s at ≡ f
      → on_field f (λ b next. octets_from key (address ++ (b ∷ [])) marks s next) ≡ Some n
      → ((b next : ℕ) → octets_from key (address ++ (b ∷ [])) marks s next ≡ Some n → Told key (address ++ (b ∷ [])) marks s next n)
      → Told key address (mark ∷ marks) s at n
  octet-told address mark marks at (Some x) e r more =
      let b : ℕ = x.value in
      let next : ℕ = x.next in
      let f : Fielded mark 255 s at b next = field-sound mark 255 s at b next e in
      let t : Told key (address ++ (b ∷ [])) marks s next n = more b next r in
      record {
        octets = b ∷ t.octets;
        udp = t.udp;
        tcp = t.tcp;
        node = ap (λ (a : Bytes). node_of key a t.udp t.tcp) (sym (append_snoc address b t.octets)) ∙ t.node;
        size = ap suc t.size;
        small = (omega (arith, f.most), t.small);
        text = f.text ∙ ap (λ (l : Bytes). decimal b ++ mark ∷ l) t.text;
        udp_most = t.udp_most;
        tcp_most = t.tcp_most;
      }
  octet-told address mark marks at None e r more = not_fit r

  pub octets-told : (marks : List ℕ) (address : Bytes) (at : ℕ) → octets_from key address marks s at ≡ Some n → Told key address marks s at n
  unfolding octets_from
  octets-told [] address at r = ports-told address at (ports_of s at) refl r
  octets-told (mark ∷ marks) address at r =
      octet-told address mark marks at (field_at mark 255 s at) refl r (λ b next q. octets-told marks (address ++ (b ∷ [])) next q)

-- ---- what is written

-- a number and its mark are read, and what follows is where reading goes on
module _ (mark limit : ℕ) (s : Bytes) (at n : ℕ) (t : Bytes) (e : drop at s ≡ decimal n ++ mark ∷ t) where
  field-read : is_digit mark ≡ false → n ≤ limit → field_at mark limit s at ≡ number n (at + length (decimal n) + 1)
  field-read h l =
      let u : until mark at s ≡ decimal n = until_mark mark s at (decimal n) t (no_mark mark n h) e in
      let there : at + length (until mark at s) < length s = omega (arith, ap length u, ap length e, length-append (decimal n) (mark ∷ t), length-drop at s) in
      field-by mark limit s at there (ap (decimal_of limit) u ∙ decimal_read limit n l) ∙ ap (λ (k : ℕ). number n (at + k + 1)) (ap length u)

  field-after : drop (at + length (decimal n) + 1) s ≡ t
  field-after =
      let k : at + length (decimal n) + 1 ≡ at + (length (decimal n) + 1) = omega arith in
      ap (λ (i : ℕ). drop i s) k
      ∙ sym (drop-drop (length (decimal n) + 1) at s)
      ∙ ap (drop (length (decimal n) + 1)) e
      ∙ drop-append-add (decimal n) (mark ∷ t) 1

  field-within : at + length (decimal n) + 1 ≤ length s
  field-within = omega (arith, ap length e, length-append (decimal n) (mark ∷ t), length-drop at s)

module _ (key : Bytes) (s : Bytes) (udp tcp : ℕ) (u : udp ≤ max_port) (v : tcp ≤ max_port) where
  pub octets-read : (marks : List ℕ) (octets address : Bytes) (at : ℕ) → at ≤ length s → All (λ (m : ℕ). is_digit m ≡ false) marks
      → length octets ≡ length marks → All (λ (b : ℕ). b < 256) octets → drop at s ≡ marked octets marks (ports_text udp tcp)
      → octets_from key address marks s at ≡ Some (node_of key (address ++ octets) udp tcp)
  unfolding octets_from
  octets-read [] [] address at h m k l e =
      let p : ports_of s at ≡ both udp tcp = ports_read s at udp tcp h (record { text = e; udp_most = u; tcp_most = v }) in
      rw (p, append-nil address)
  octets-read [] (b ∷ octets) address at h m k l e = absurd (omega arith)
  octets-read (mark ∷ marks) [] address at h m k l e = absurd (omega arith)
  octets-read (mark ∷ marks) (b ∷ octets) address at h m k l e =
      let t : Bytes = marked octets marks (ports_text udp tcp) in
      let f : field_at mark 255 s at ≡ number b (at + length (decimal b) + 1) = field-read mark 255 s at b t e m.0 (omega (arith, l.0)) in
      rw f (octets-read marks octets (address ++ (b ∷ [])) (at + length (decimal b) + 1) (field-within mark 255 s at b t e) m.1 (omega arith) l.1 (field-after mark 255 s at b t e)
      ∙ ap (λ (a : Bytes). Some (node_of key a udp tcp)) (append_snoc address b octets))

-- ---- four octets

pub dotted_marked : (octets t : Bytes) → length octets ≡ 4 → marked octets (46 ∷ 46 ∷ 46 ∷ 58 ∷ []) t ≡ dotted octets ++ 58 ∷ t
dotted_marked [] t h = absurd (omega arith)
dotted_marked (a ∷ []) t h = absurd (omega arith)
dotted_marked (a ∷ b ∷ []) t h = absurd (omega arith)
dotted_marked (a ∷ b ∷ c ∷ []) t h = absurd (omega arith)
dotted_marked (a ∷ b ∷ c ∷ d ∷ []) t h =
    sym (append_assoc (decimal a) (46 ∷ decimal b ++ (46 ∷ decimal c ++ (46 ∷ decimal d))) (58 ∷ t)
    ∙ ap (λ (l : Bytes). decimal a ++ 46 ∷ l) (append_assoc (decimal b) (46 ∷ decimal c ++ (46 ∷ decimal d)) (58 ∷ t)
    ∙ ap (λ (l : Bytes). decimal b ++ 46 ∷ l) (append_assoc (decimal c) (46 ∷ decimal d) (58 ∷ t))))
dotted_marked (a ∷ b ∷ c ∷ d ∷ x ∷ octets) t h = absurd (omega arith)
