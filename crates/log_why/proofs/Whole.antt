-- The reason over a whole log. Assumes nothing.
use Prim.Native.Nat.{ℕ, ◌+◌, ◌^◌, ◌≤◌, ◌<◌}
use mathlib.Core.Path.{◌≡◌, refl, sym, ap, ◌∙◌}
use mathlib.Core.List.{List, [], ◌∷◌, map}
use native.Mathlib.Omega.{arith}
use borrow.Author.Tests.{ltb-true}
use lib.Dec.{ltb}
use lib.ListN.{length, drop}
use Rattle.octets.specs.Octets.{Bytes}
use Rattle.lists.proofs.Laws.{by_test}
use Rattle.text.specs.Marks.{until}
use Rattle.text.specs.Lines.{lines_of}
use Rattle.text.proofs.Lines.{line-at, lines_none}
use Rattle.bucket_lookup.specs.Steps.{only_at, in_entries}
use Rattle.log_lines.specs.Lines.{limit, Held, whole, held}
use Rattle.log_lines.specs.Feeding.{join}
use Rattle.log_lines.proofs.Chunks.{feeds_lines}
use Rattle.log_line.proofs.Found.{line_long}
use Rattle.log_state.specs.State.{state_of}
use Rattle.log_history.specs.Past.{Asked, asked, Past, nothing_read, read_one, read_all, past_of}
use Rattle.log_history.specs.Why.{told, why}
use Rattle.log_history.specs.Trail.{trail_of, reason_of}
use Rattle.log_history.proofs.Tells.{trail_tells}
use Rattle.log_replay.specs.Replay.{Reached, start as reached-start, line as reached-line}
use Rattle.log_replay.specs.Steps.{start_replay}
use Rattle.log_replay.proofs.Replayed.{start-state}
use Rattle.log_run.specs.Run.{start}
use Rattle.log_why.specs.declared.Tracked.{Tracked}
use Rattle.log_why.specs.Tracking.{Tracks, Starts, Ready, NotedLine, Notes, done, next}
use Rattle.log_why.specs.Claims.{WhyOfLog}

-- ---- lines

-- a line over the limit asks for nothing, whether it is held whole or not
asked-held : (l : Bytes) → asked (held l) ≡ asked (whole l)
unfolding held asked
asked-held l =
    by_test (ltb limit (length l))
    (λ t. rw (t, line_long l (ltb-true limit (length l) t)) refl)
    (λ t. rw t refl)

abbrev pub asks : List Bytes → List Asked
asks = map (λ l. asked (held l))

asks-held : (ls : List Bytes) → map asked (map held ls) ≡ asks ls
asks-held [] = refl
asks-held (l ∷ ls) = ap (λ m. asked (held l) ∷ m) (asks-held ls)

-- ---- before the first line

starts_reached : (at : Tracked) (memory : Bytes) → Starts at → state_of at.replay memory ≡ state_of start_replay memory
starts_reached at memory s = ap (λ r. state_of r memory) s.replay

pub starts_tracks : (X : Bytes) (at : Tracked) (memory : Bytes) → Starts at → Tracks X at memory nothing_read
unfolding trail_of
starts_tracks X at memory s =
    record {
      state = rw (starts_reached at memory s ∙ start-state memory) start;
      place = record { seated = ap in_entries s.place; held = ap (λ p. only_at p at.place.entry) s.place };
      trail = s.trail;
    }

-- ---- the loop: what is carried fits the lines before index at, and the rest of them leads to the log's past

pub record Followed (log X memory : Bytes) (tracked : Tracked) (at : ℕ) : Type 0 where
  pub big : 46304 ≤ length memory
  pub count : tracked.replay.count ≤ 16
  pub reached : Reached (state_of tracked.replay memory)
  pub lines : tracked.trail.lines ≤ at
  pub within : at ≤ length log + 1
  pub past : Past
  pub tracks : Tracks X tracked memory past
  pub rest : read_all past (asks (lines_of (drop at log))) ≡ past_of log

pub begins : (log X memory : Bytes) (tracked : Tracked) → 46304 ≤ length memory → Starts tracked → Followed log X memory tracked 0
begins log X memory tracked big s =
    record {
      big = big;
      count = rw s.replay (omega arith);
      reached = rw (starts_reached tracked memory s ∙ start-state memory) reached-start;
      lines = rw s.trail (omega arith);
      within = omega arith;
      past = nothing_read;
      tracks = starts_tracks X tracked memory s;
      rest = refl;
    }

module _ (log X memory : Bytes) (tracked : Tracked) (at : ℕ) (f : Followed log X memory tracked at) where
  pub ready : length log < 2 ^ 63 → at < length log → Ready tracked memory
  ready few more = record { big = f.big; count = f.count; reached = f.reached; lines = omega (arith, f.lines) }

  pub goes_on : at < length log → {end : ℕ} → end ≡ at + length (until 0x0a at log) → (line : Bytes) → line ≡ until 0x0a at log
      → (r : Tracked) (m' : Bytes) → length m' ≡ length memory → NotedLine X tracked (whole line) memory r m'
      → end + 1 ≤ length log + 1 → Followed log X m' r (end + 1)
  goes_on more {end} ee line el r m' size n within =
      record {
        big = omega (arith, f.big);
        count = n.count;
        reached = rw n.state (reached-line f.reached (whole line));
        lines = omega (arith, n.lines, f.lines);
        within = within;
        past = read_one f.past (asked (whole line));
        tracks = n.tracks f.past f.tracks;
        rest =
            ap (λ k. read_all (read_one f.past (asked (whole line))) (asks (lines_of (drop (k + 1) log)))) ee
            ∙ ap (λ a. read_all (read_one f.past a) (asks (lines_of (drop (at + length (until 0x0a at log) + 1) log)))) (ap (λ l. asked (whole l)) el ∙ sym (asked-held (until 0x0a at log)))
            ∙ ap (λ ls. read_all f.past (asks ls)) (sym (line-at log at more))
            ∙ f.rest;
      }

  pub told-by : length log ≤ at → reason_of tracked.trail ≡ why X log
  told-by all =
      let whole_past : f.past ≡ past_of log = ap (λ ls. read_all f.past (asks ls)) (sym (lines_none log at all)) ∙ f.rest in
      ap reason_of f.tracks.trail ∙ trail_tells X f.past ∙ ap (told X) whole_past

-- ---- in chunks

notes_track : (X : Bytes) {at end : Tracked} {memory last : Bytes} {ls : List Held} → Notes X at memory ls end last → (p : Past) → Tracks X at memory p
    → Tracks X end last (read_all p (map asked ls))
notes_track X done p t = t
notes_track X (next {l = l} n rest) p t = notes_track X rest (read_one p (asked l)) (n.tracks p t)

pub why_of_log : WhyOfLog
why_of_log X buffer memory chunk more lines begin end last h f s n =
    let t = notes_track X n nothing_read (starts_tracks X begin memory s) in
    let past : read_all nothing_read (map asked lines) ≡ past_of (join (chunk ∷ more)) =
    ap (λ ls. read_all nothing_read (map asked ls)) (feeds_lines buffer chunk more lines h f) ∙ ap (read_all nothing_read) (asks-held (lines_of (join (chunk ∷ more)))) in
    ap reason_of t.trail ∙ trail_tells X (read_all nothing_read (map asked lines)) ∙ ap (told X) past
