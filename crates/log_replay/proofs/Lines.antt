-- Before an `own` is accepted every call line gets 1 and changes nothing. Assumes nothing.
use Prim.Native.Nat.{ℕ}
use mathlib.Core.Path.{◌≡◌, refl, sym, ap, ◌∙◌}
use mathlib.Core.Bool.{Bool, true, false}
use mathlib.Core.List.{[]}
use native.Mathlib.Omega.{arith}
use Rattle.octets.specs.Octets.{Bytes}
use Rattle.lists.proofs.Laws.{never}
use Rattle.log_line.specs.declared.Line.{Line}
use Rattle.log_line.specs.declared.Line.TheVariants.{Own, Rx, Sent, Sweep, Unreadable}
use Rattle.log_line.specs.Fields.{said}
use Rattle.log_line.specs.Forms.{line_of}
use Rattle.call_history.specs.Model.{Call, datagram, ping_sent, sweep, closest, unclocked}
use Rattle.call_model.specs.Calls.{answer_on, bytes_after}
use Rattle.call_model.specs.Reading.{reading}
use Rattle.call_model.specs.AnyBytes.{SoundFor}
use Rattle.call_model.proofs.AnyBytes.{on-any-bytes}
use Rattle.call_model.proofs.IfAny.{no_head, none_unsound}
use Rattle.call_datagram.specs.Received.{received}
use Rattle.log_answer.specs.AnswerRows.{number_row}
use Rattle.log_received.specs.AnswerLine.{received_row}
use Rattle.log_replay.specs.Replay.{with_table, line_answer, line_after, answer, after}
use Rattle.log_replay.specs.Claims.{is_call_line, without_table, NoTable}

not_sound : (c : Call) → SoundFor reading [] c → ⊥
not_sound (datagram now unix address udp key bytes) h = never (sym h.0 ∙ no_head [] refl)
not_sound (ping_sent now key address udp tcp hash) h = never (sym h.0 ∙ no_head [] refl)
not_sound (sweep now) h = never (sym h ∙ none_unsound [] refl)
not_sound (closest target room) h = never (sym h ∙ none_unsound [] refl)
not_sound (unclocked c) h = not_sound c h

pub no_table_number : (c : Call) → answer_on reading [] c ≡ 1
no_table_number c = ((on-any-bytes reading).one-exactly [] c).1 (not_sound c)

pub no_table_bytes : (c : Call) → bytes_after reading [] c ≡ []
no_table_bytes c = (on-any-bytes reading).refused_unchanged [] c (λ z. absurd (omega (arith, no_table_number c)))

no_table_received : (now unix : ℕ) (address : Bytes) (udp : ℕ) (key g : Bytes) → received_row (received [] now unix address udp key g) ≡ number_row 1
unfolding received received_row
no_table_received now unix address udp key g = rw (no_table_number (datagram now unix address udp key g)) refl

by_kind : (owned : Bool) (line : Bytes) (l : Line) → is_call_line l ≡ true
    → (line_answer (without_table owned) line l ≡ number_row 1) × (line_after (without_table owned) line l ≡ without_table owned)
unfolding line_answer line_after
by_kind owned line (Own buckets key) h = never (sym h)
by_kind owned line (Rx now unix address port signer bytes) h = (
  no_table_received now unix (said line address) port (said line signer) (said line bytes),
  ap (with_table (without_table owned)) (no_table_bytes (datagram now unix (said line address) port (said line signer) (said line bytes))),
)
by_kind owned line (Sent now key address udp tcp hash) h =
    let c : Call = ping_sent now (said line key) (said line address) udp tcp (said line hash) in
    (ap number_row (no_table_number c), ap (with_table (without_table owned)) (no_table_bytes c))
by_kind owned line (Sweep now) h =
    (ap number_row (no_table_number (sweep now)), ap (with_table (without_table owned)) (no_table_bytes (sweep now)))
by_kind owned line Unreadable h = never (sym h)

pub no_table : NoTable
unfolding answer after
no_table owned line h = by_kind owned line (line_of line) h
