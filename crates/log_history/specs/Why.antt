-- Why a node is or isn't in the table at a log's end (C-17), from the log's run: what each line did to it.
use Rattle.std.specs.Prelude.{ℕ, suc, ◌+◌, ◌<◌, ◌≤◌, ◌≡◌, Bool, true, false, cond, not, ◌&&◌, ◌||◌, List, [], ◌∷◌, ◌++◌, eqb, length}
use Rattle.octets.specs.Octets.{Bytes, same_bytes}
use Rattle.lists.specs.Lists.{any, empty, All}
use Rattle.entry.specs.declared.Entry.{Entry}
use Rattle.bucket_model.specs.Rules.{ping_timeout, is_verified, is_overdue, proof_expired}
use Rattle.call_history.specs.Model.{Env, Call, datagram, ping_sent, sweep, closest, unclocked, Table, answer}
use Rattle.call_history.specs.Words as Words
use Rattle.call_history.specs.Words.{is_pong, entry_of, replacement_of, pong_from}
use Rattle.log_history.specs.declared.Reason.{Reason}
use Rattle.log_history.specs.declared.Reason.TheVariants.{Seated, Waiting, Ping, Proof, Never, Unnamed}
use Rattle.log_history.specs.Past.{Asked, own, call, unreadable, Stage, before, running, number_at, Moment, leaves, Past, past_of}

-- ---- where the node with the key X stands

abbrev pub seat_in : Bytes → Stage → List Entry
seat_in X (before owned) = []
seat_in X (running e s) = entry_of e X s

abbrev pub place_in : Bytes → Stage → List Entry
place_in X (before owned) = []
place_in X (running e s) = replacement_of e X s

abbrev pub held_in : Bytes → Stage → List Entry
held_in X st = seat_in X st ++ place_in X st

-- ---- what a line does to X

-- it is seated, or joins a line, or is removed
abbrev pub seats : Bytes → Moment → Bool
seats X v = empty (seat_in X v.given) && not (empty (seat_in X (leaves v)))

abbrev pub joins : Bytes → Moment → Bool
joins X v = empty (held_in X v.given) && not (empty (place_in X (leaves v)))

abbrev pub removes : Bytes → Moment → Bool
removes X v = not (empty (held_in X v.given)) && empty (held_in X (leaves v))

-- an accepted packet of it, if seated, puts it at the tail: a pong, or any other from where it is verified
abbrev pub moves_by : Bytes → Env → Table → Call → Bool
moves_by X e s (datagram now unix address udp key bytes) =
    same_bytes X key
    && (eqb (answer e s (datagram now unix address udp key bytes)) 0
    && (not (empty (entry_of e X s)) && (is_pong (e.read bytes unix) || any (is_verified now address udp) (entry_of e X s))))
moves_by X e s (ping_sent now key address udp tcp hash) = false
moves_by X e s (sweep now) = false
moves_by X e s (closest target room) = false
moves_by X e s (unclocked c) = false

abbrev pub moves : Bytes → Stage → Asked → Bool
moves X (running e s) (call c) = moves_by X e s c
moves X (running e s) (own buckets key) = false
moves X (running e s) unreadable = false
moves X (before owned) a = false

-- "put at the tail": by its seating, or later
abbrev pub tails : Bytes → Moment → Bool
tails X v = seats X v || moves X v.given v.asks

-- a call has it as signer or ping target
abbrev pub is_of : Bytes → Call → Bool
is_of X (datagram now unix address udp key bytes) = same_bytes X key
is_of X (ping_sent now key address udp tcp hash) = same_bytes X key
is_of X (sweep now) = false
is_of X (closest target room) = false
is_of X (unclocked c) = is_of X c

-- a "well-formed line has it as signer or ping target"
abbrev pub named_in : Bytes → Asked → Bool
named_in X (own buckets key) = false
named_in X (call c) = is_of X c
named_in X unreadable = false

abbrev pub names : Bytes → Moment → Bool
names X v = named_in X v.asks

-- a ping to it is recorded
abbrev pub is_ping_to : Bytes → Asked → Bool
is_ping_to X (call (ping_sent now key address udp tcp hash)) = same_bytes X key
is_ping_to X (call (datagram now unix address udp key bytes)) = false
is_ping_to X (call (sweep now)) = false
is_ping_to X (call (closest target room)) = false
is_ping_to X (call (unclocked c)) = false
is_ping_to X (own buckets key) = false
is_ping_to X unreadable = false

abbrev pub pings : Bytes → Moment → Bool
pings X v = is_ping_to X v.asks && eqb (number_at v.given v.asks) 0

-- its ping is overdue at the sweep that the line is
abbrev pub overdue_at : Bytes → Stage → Asked → Bool
overdue_at X st (call (sweep now)) = any (λ p. is_overdue now p.ping) (held_in X st)
overdue_at X st (call (datagram now unix address udp key bytes)) = false
overdue_at X st (call (ping_sent now key address udp tcp hash)) = false
overdue_at X st (call (closest target room)) = false
overdue_at X st (call (unclocked c)) = false
overdue_at X st (own buckets key) = false
overdue_at X st unreadable = false

-- ---- the reason

-- the number of the latest line that q holds of; 0 where there is none
abbrev pub last_line : (Moment → Bool) → List Moment → ℕ
last_line q [] = 0
last_line q (v ∷ log) = cond (q v) (suc (length log)) (last_line q log)

-- the answer number of the latest line that names X
abbrev pub last_number : Bytes → List Moment → ℕ
last_number X [] = 0
last_number X (v ∷ log) = cond (names X v) (number_at v.given v.asks) (last_number X log)

-- X was never held
abbrev pub not_held : Bytes → List Moment → Reason
not_held X log = cond (any (names X) log) (Never (last_number X log)) Unnamed

-- "an overdue ping comes before an old proof"
abbrev pub removed_at : Bytes → Moment → List Moment → Reason
removed_at X v log = cond (overdue_at X v.given v.asks) (Ping (suc (length log)) (last_line (pings X) log)) (Proof (suc (length log)))

-- "If several fit over the log, the latest is told": the latest line that seated X, put it in line or removed it. `all` is the whole log's
-- lines, `log` those of it not yet searched, both latest first.
unfoldable pub latest : Bytes → List Moment → List Moment → Reason
latest X all [] = not_held X all
latest X all (v ∷ log) =
    cond (seats X v)
    (Seated (suc (length log)) (last_line (tails X) all))
    (cond (joins X v) (Waiting (suc (length log))) (cond (removes X v) (removed_at X v log) (latest X all log)))

-- the reason that a log's run gives for X
abbrev pub told : Bytes → Past → Reason
told X p = latest X p.lines p.lines

abbrev pub why : Bytes → Bytes → Reason
why X log = told X (past_of log)

-- ---- what the reason says of the table at the end, and of the run

abbrev pub says_seated : Reason → Bool
says_seated (Seated n m) = true
says_seated (Waiting n) = false
says_seated (Ping n m) = false
says_seated (Proof n) = false
says_seated (Never a) = false
says_seated Unnamed = false

abbrev pub says_waiting : Reason → Bool
says_waiting (Seated n m) = false
says_waiting (Waiting n) = true
says_waiting (Ping n m) = false
says_waiting (Proof n) = false
says_waiting (Never a) = false
says_waiting Unnamed = false

abbrev pub says_removed : Reason → Bool
says_removed (Seated n m) = false
says_removed (Waiting n) = false
says_removed (Ping n m) = true
says_removed (Proof n) = true
says_removed (Never a) = false
says_removed Unnamed = false

-- X was held when some line came
abbrev pub was_held : Bytes → List Moment → Bool
was_held X log = any (λ v. not (empty (held_in X v.given))) log

-- the line is an accepted sweep at t, a ping recorded for X at t, an accepted pong from X
pub record SweepAt (t : ℕ) (v : Moment) : Type 0 where
  pub asks : v.asks ≡ call (sweep t)
  pub done : number_at v.given v.asks ≡ 0

pub record PingAt (X : Bytes) (t : ℕ) (v : Moment) : Type 0 where
  pub address : Bytes
  pub udp : ℕ
  pub tcp : ℕ
  pub hash : Bytes
  pub asks : v.asks ≡ call (ping_sent t X address udp tcp hash)
  pub done : number_at v.given v.asks ≡ 0

abbrev pub pong_in : Bytes → Stage → Asked → Bool
pong_in X (running e s) (call c) = pong_from e X s c
pong_in X (running e s) (own buckets key) = false
pong_in X (running e s) unreadable = false
pong_in X (before owned) a = false

-- "removed by the sweep at line n for the ping at line m": more than 500 ms (`ping_timeout`) after it, with no accepted pong from X between
pub record ForPing (X : Bytes) (lines : List Moment) (n m : ℕ) : Type 0 where
  pub later : List Moment
  pub between : List Moment
  pub earlier : List Moment
  pub sweeping : Moment
  pub pinging : Moment
  pub split : lines ≡ later ++ sweeping ∷ between ++ pinging ∷ earlier
  pub line_n : n ≡ suc (length (between ++ pinging ∷ earlier))
  pub line_m : m ≡ suc (length earlier)
  pub t₀ : ℕ
  pub t : ℕ
  pub swept : SweepAt t sweeping
  pub removed : removes X sweeping ≡ true
  pub not_since : All (λ v. empty (held_in X v.given) ≡ true) later
  pub pinged : PingAt X t₀ pinging
  pub overdue : t₀ + ping_timeout < t
  -- it is the last ping recorded for X before the sweep, and not answered
  pub no_ping : All (λ v. pings X v ≡ false) between
  pub no_pong : All (λ v. pong_in X v.given v.asks ≡ false) between

-- "removed from the line by the sweep at line n because its proof was too old"
pub record ForProof (X : Bytes) (lines : List Moment) (n : ℕ) : Type 0 where
  pub later : List Moment
  pub earlier : List Moment
  pub sweeping : Moment
  pub split : lines ≡ later ++ sweeping ∷ earlier
  pub line_n : n ≡ suc (length earlier)
  pub t : ℕ
  pub swept : SweepAt t sweeping
  pub removed : removes X sweeping ≡ true
  pub not_since : All (λ v. empty (held_in X v.given) ≡ true) later
  pub old : any (λ p. proof_expired t p.proof) (place_in X sweeping.given) ≡ true
  pub no_ping : overdue_at X sweeping.given sweeping.asks ≡ false

-- since line n, and at every line after it, X stands there; `place` is where: a seat, or a waiting place
pub record Since (place : Bytes → Stage → List Entry) (X : Bytes) (lines : List Moment) (n : ℕ) : Type 0 where
  pub later : List Moment
  pub earlier : List Moment
  pub there : Moment
  pub split : lines ≡ later ++ there ∷ earlier
  pub line_n : n ≡ suc (length earlier)
  pub not_before : empty (place X there.given) ≡ true
  pub ever_since : All (λ v. empty (place X v.given) ≡ false) later

-- the line puts X at the tail as demand 3 has it, by which the entries of a bucket are in order
abbrev pub tails_at : Bytes → Stage → Asked → Bool
tails_at X (running e s) (call c) = Words.tails e X s c
tails_at X (running e s) (own buckets key) = false
tails_at X (running e s) unreadable = false
tails_at X (before owned) a = false

-- m is the number of the last line that q holds of
pub record LastAt (q : Moment → Bool) (lines : List Moment) (m : ℕ) : Type 0 where
  pub later : List Moment
  pub earlier : List Moment
  pub there : Moment
  pub split : lines ≡ later ++ there ∷ earlier
  pub line_m : m ≡ suc (length earlier)
  pub holds : q there ≡ true
  pub none_later : All (λ v. q v ≡ false) later

-- "a the last answer number its lines got"
pub record LastAnswer (X : Bytes) (lines : List Moment) (a : ℕ) : Type 0 where
  pub line : ℕ
  pub last : LastAt (names X) lines line
  pub number : number_at last.there.given last.there.asks ≡ a

-- "never held": neither when a line came nor at the end
abbrev pub NeverHeld : Bytes → Past → Type 0
NeverHeld X p = (was_held X p.lines ≡ false) × (empty (held_in X p.stage) ≡ true)

pub record WhyHolds (X : Bytes) (p : Past) : Type 0 where
  -- seated, waiting or removed as the table at the end, which the printout shows, and the tables before it have it
  pub seated_says : says_seated (told X p) ≡ not (empty (seat_in X p.stage))
  pub waiting_says : says_waiting (told X p) ≡ not (empty (place_in X p.stage))
  pub removed_says : says_removed (told X p) ≡ (empty (held_in X p.stage) && was_held X p.lines)
  -- whoever was ever held is named
  pub held_named : any (names X) p.lines ≡ false → NeverHeld X p
  -- "seated at line n, last put at the tail at line m"
  pub for_seat : (n m : ℕ) → told X p ≡ Seated n m → Since seat_in X p.lines n × LastAt (tails X) p.lines m × (n ≤ m)
  pub tails_are : All (λ v. tails X v ≡ tails_at X v.given v.asks) p.lines
  -- "since line n", which recorded a ping to it
  pub for_place : (n : ℕ) → told X p ≡ Waiting n → (since : Since place_in X p.lines n) × ((t : ℕ) × PingAt X t since.there)
  pub for_ping : (n m : ℕ) → told X p ≡ Ping n m → ForPing X p.lines n m
  pub for_proof : (n : ℕ) → told X p ≡ Proof n → ForProof X p.lines n
  pub for_never : (a : ℕ) → told X p ≡ Never a → NeverHeld X p × LastAnswer X p.lines a
  pub for_unnamed : told X p ≡ Unnamed → any (names X) p.lines ≡ false
