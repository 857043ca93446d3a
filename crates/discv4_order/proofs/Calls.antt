-- Two calls of different buckets, as the public calls make them; and lists of public calls as lists of their calls. Assumes nothing.
use Prim.Native.Nat.{ℕ, ◌≤◌}
use mathlib.Core.Path.{◌≡◌, refl, sym, ap, ap₂, ◌∙◌}
use mathlib.Core.Bool.{Bool, true, false, cond}
use mathlib.Core.List.{List, [], ◌∷◌, map}
use Rattle.octets.specs.Octets.{Bytes}
use Rattle.lists.proofs.Laws.{never}
use Rattle.call_history.specs.Model.{Env, Call, datagram, ping_sent, sweep, closest, unclocked}
use Rattle.call_history.specs.Keccak.{with_keccak}
use Rattle.call_history.specs.Chain.{IsCall, answers_on, bytes_after_all}
use Rattle.call_model.specs.Calls.{bytes_after}
use Rattle.call_model.specs.Reading.{reading}
use Rattle.call_order.specs.Order.{has_bucket, Apart, InStretch, after, answered, EitherWay}
use Rattle.call_order.proofs.Lists.{Commutes}
use Rattle.call_order.proofs.Bytes.{SameAnswer, IsForm, form-left, bytes-either, answer-either}
use Rattle.counters.specs.declared.Counters.{Counters}
use Rattle.counters.specs.Counters.{raised}
use Rattle.counters.specs.History.{counted}
use Rattle.counters.proofs.Order.{raised_comm}
use Rattle.discv4.specs.Library.{answer_number, table_after, is_counted, counted_answers, PublicCall, all_made}
use Rattle.discv4.proofs.Demand3.{bytes_same, all_left, counters_counted}
use Rattle.discv4_order.specs.Order.{Told, number_in, State, told_back, told, left, left_all}

-- ---- lists of public calls are lists of their calls

number_back : (c : Call) (n : ℕ) → number_in (told_back c n) ≡ n
number_back (datagram now unix address udp key bytes) n = refl
number_back (ping_sent now key address udp tcp hash) n = refl
number_back (sweep now) n = refl
number_back (closest target room) n = refl
number_back (unclocked c) n = number_back c n

number_is : (x : State) (c : Call) → number_in (told x c) ≡ answer_number x.table c
number_is x (datagram now unix address udp key bytes) = refl
number_is x (ping_sent now key address udp tcp hash) = refl
number_is x (sweep now) = refl
number_is x (closest target room) = refl
number_is x (unclocked c) = number_back c (answer_number x.table (unclocked c))

pub numbers_in : (x : State) (cs : List Call) → map (λ v. number_in v.1) (answered told left x cs) ≡ answers_on answer_number table_after x.table cs
numbers_in x [] = refl
numbers_in x (c ∷ cs) = ap₂ (λ n ns. n ∷ ns) (number_is x c) (numbers_in (left x c) cs)

counted_one : (b : Bool) (k : Counters) (n : ℕ) (ns : List ℕ) → counted (cond b (raised k n) k) ns ≡ counted k (cond b (n ∷ ns) ns)
counted_one true k n ns = refl
counted_one false k n ns = refl

after_is : (x : State) (cs : List Call)
    → after told left x cs ≡ record { table = bytes_after_all answer_number table_after x.table cs; counters = counted x.counters (counted_answers x.table cs) }
after_is x [] = refl
after_is x (c ∷ cs) =
    let s = table_after x.table c in
    after_is (left x c) cs
    ∙ ap (λ k. record { table = bytes_after_all answer_number table_after s cs; counters = k })
    (counted_one (is_counted c) x.counters (answer_number x.table c) (counted_answers s cs))

pub left-all : (x : State) (ps : List PublicCall) → left_all x ps ≡ after told left x (all_made x.table ps)
left-all x ps =
    ap₂ (λ s k. record { table = s; counters = k }) (all_left x.table ps) (counters_counted x.counters x.table ps)
    ∙ sym (after_is x (all_made x.table ps))

-- ---- two calls

tables_are : (s : Bytes) (c d : Call) → table_after (table_after s c) d ≡ bytes_after reading (bytes_after reading s c) d
tables_are s c d = bytes_same (table_after s c) d ∙ ap (λ z. bytes_after reading z d) (bytes_same s c)

-- a call with a bucket is counted
pub is-counted : (e : Env) (c : Call) → has_bucket e c ≡ true → is_counted c ≡ true
is-counted e (datagram now unix address udp key bytes) h = refl
is-counted e (ping_sent now key address udp tcp hash) h = refl
is-counted e (sweep now) h = never (sym h)
is-counted e (closest target room) h = never (sym h)
is-counted e (unclocked c) h = never (sym h)

-- what it is told is its answer on the table
same_told : (e : Env) (x y : State) (c : Call) → has_bucket e c ≡ true → SameAnswer x.table y.table c → told y c ≡ told x c
same_told e x y (datagram now unix address udp key bytes) has h = ap Told.packet h
same_told e x y (ping_sent now key address udp tcp hash) has h = ap Told.number h
same_told e x y (sweep now) has h = never (sym has)
same_told e x y (closest target room) has h = never (sym has)
same_told e x y (unclocked c) has h = never (sym has)

module _ (own : Bytes) (count : ℕ) (one : 1 ≤ count) (most : count ≤ 256) where
  abbrev pub e : Env
  e = with_keccak reading own count

  abbrev pub Ok : State → Type 0
  Ok x = IsForm own count one most x.table

  pub ok-left : (x : State) (c : Call) → IsCall c → Ok x → Ok (left x c)
  ok-left x c is ok = rw (bytes_same x.table c) (form-left own count one most x.table c is ok)

  module _ (x : State) (ok : Ok x) (t : ℕ) where
    told-either : (c d : Call) → IsCall c → IsCall d → InStretch e t c → InStretch e t d → Apart e c d → told (left x d) c ≡ told x c
    told-either c d is_c is-d in_c in-d apart =
        same_told e x (left x d) c in_c.1
        (rw (bytes_same x.table d) (answer-either own count one most x.table ok t c d is_c is-d in_c in-d apart))

    pub either : (c d : Call) → IsCall c → IsCall d → InStretch e t c → InStretch e t d → Apart e c d → EitherWay told left x c d
    either c d is_c is-d in_c in-d apart =
        let s = x.table in
        let k = x.counters in
        let first = told-either c d is_c is-d in_c in-d apart in
        let second = told-either d c is-d is_c in-d in_c (λ i h g. apart i g h) in
        let number_c : answer_number (table_after s d) c ≡ answer_number s c = sym (number_is (left x d) c) ∙ ap number_in first ∙ number_is x c in
        let number_d : answer_number (table_after s c) d ≡ answer_number s d = sym (number_is (left x c) d) ∙ ap number_in second ∙ number_is x d in
        record {
          state =
              ap₂ (λ a b. record { table = a; counters = b })
              (tables_are s c d ∙ bytes-either own count one most s ok t c d is_c is-d in_c in-d apart ∙ sym (tables_are s d c))
              (rw (is-counted e c in_c.1, is-counted e d in-d.1, number_c, number_d) (raised_comm k (answer_number s c) (answer_number s d)));
          first = first;
          second = second;
        }

  pub commutes : Commutes told left e Ok IsCall
  commutes = record { kept = ok-left; either = λ x ok t c d is_c is-d in_c in-d apart. either x ok t c d is_c is-d in_c in-d apart }
