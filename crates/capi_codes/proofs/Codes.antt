-- The answer number in a datagram's code is the call's. Assumes nothing.
use mathlib.Core.Path.{◌≡◌, refl, ◌∙◌}
use mathlib.Core.Bool.{Bool}
use mathlib.Core.List.{List, [], ◌∷◌}
use Prim.Native.Nat.{ℕ, ◌<◌}
use native.Mathlib.Omega.{arith}
use Rattle.octets.specs.Octets.{Bytes}
use Rattle.lists.specs.Lists.{first, All}
use Rattle.lists.proofs.Laws.{by_test}
use Rattle.bucket_model.specs.Contents.{Contents}
use Rattle.call_history.specs.Model.{Env, Reading, refused, ping, pong, other, packet_refusals, datagram_refusals, datagram}
use Rattle.call_model.specs.Calls.{answer_on, refusals_on, env_of, bucket_for}
use Rattle.call_model.specs.Reading.{reading}
use Rattle.call_answer.specs.Answer.{outcome_number}
use Rattle.call_datagram.specs.Received.{received}
use Rattle.call_answer.specs.declared.Outcome.{Outcome}
use Rattle.call_answer.specs.declared.Outcome.TheVariants.{Refused, Ping, Pong, FindNode, Neighbors, EnrRequest, EnrResponse}
use Rattle.call_datagram.proofs.Answered.{answer-number}
use Rattle.capi_codes.specs.Codes.{number_in, outcome_code}
use Rattle.capi_codes.specs.Claims.{CodeNumber}

-- a code's number is the number that it was made of
outcome-number : (o : Outcome) → outcome_number o < 256 → number_in (outcome_code o) ≡ outcome_number o
outcome-number (Refused n) h = omega arith
outcome-number (Ping p due) h = omega arith
outcome-number (Pong p s) h = omega arith
outcome-number (FindNode p) h = refl
outcome-number (Neighbors p) h = refl
outcome-number (EnrRequest p) h = refl
outcome-number (EnrResponse p) h = refl

-- every number of the tests is a byte's
abbrev Small : List (Bool × ℕ) → Type 0
Small l = All (λ t. t.1 < 256) l

first_small : (l : List (Bool × ℕ)) → Small l → first l < 256
first_small [] h = omega arith
first_small (t ∷ l) h = by_test t.0 (λ e. rw e h.0) (λ e. rw e (first_small l h.1))

packet_small : (e : Env) (now : ℕ) (address : Bytes) (udp : ℕ) (key : Bytes) (r : Reading) (b : Contents) → Small (packet_refusals e now address udp key r b)
packet_small e now address udp key (refused fault) b = tt
packet_small e now address udp key ping b = tt
packet_small e now address udp key (pong hash) b = (omega arith, (omega arith, tt))
packet_small e now address udp key other b = (omega arith, tt)

answer_small : (s : Bytes) (now unix : ℕ) (address : Bytes) (udp : ℕ) (key g : Bytes) → answer_on reading s (datagram now unix address udp key g) < 256
unfolding answer_on datagram_refusals
answer_small s now unix address udp key g =
    let few = packet_small (env_of reading s) now address udp key (reading g unix) (bucket_for reading s key) in
    first_small (refusals_on reading s (datagram now unix address udp key g))
    (omega arith, (omega arith, (omega arith, (omega arith, (omega arith, (omega arith, (omega arith, (omega arith, (omega arith, (omega arith, (omega arith, (omega arith, few))))))))))))

pub code-number : CodeNumber
code-number s now unix address udp key g =
    let e = answer-number s now (record { 0 = unix }) address udp key g in
    outcome-number (received s now unix address udp key g).outcome (rw e (answer_small s now unix address udp key g)) ∙ e
