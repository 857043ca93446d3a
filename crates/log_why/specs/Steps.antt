-- The trail of a node after a line, as the code finds it: by what the line did and by where the node stood before it and stands after it.
use Rattle.std.specs.Prelude.{suc, Bool, cond, not, ◌&&◌, ◌||◌}
use Rattle.lists.specs.Lists.{empty}
use Rattle.bucket_lookup.specs.declared.Lookup.{Lookup}
use Rattle.bucket_lookup.specs.Steps.{found, in_entries}
use Rattle.log_history.specs.declared.Standing.{Standing}
use Rattle.log_history.specs.declared.Standing.TheVariants.{SeatedAt, WaitingSince, PingLost, ProofLost}
use Rattle.log_history.specs.declared.Trail.{Trail}
use Rattle.log_acts.specs.declared.Acted.{Acted}

-- ---- where X stood at l before the line, and stands at l' after it

abbrev pub seats_by : Lookup → Lookup → Bool
seats_by l l' = not (in_entries l.position) && in_entries l'.position

abbrev pub joins_by : Lookup → Lookup → Bool
joins_by l l' = not (not (empty (found l))) && (not (empty (found l')) && not (in_entries l'.position))

abbrev pub removes_by : Lookup → Lookup → Bool
removes_by l l' = not (empty (found l)) && not (not (empty (found l')))

unfoldable pub standing_by : Trail → Acted → Lookup → Lookup → Standing
standing_by t a l l' =
    cond (seats_by l l')
    (SeatedAt (suc t.lines))
    (cond (joins_by l l')
    (WaitingSince (suc t.lines))
    (cond (removes_by l l') (cond a.overdue (PingLost (suc t.lines) t.pinged) (ProofLost (suc t.lines))) t.standing))

unfoldable pub trail_by : Trail → Acted → Lookup → Lookup → Trail
trail_by t a l l' =
    record {
      lines = suc t.lines;
      standing = standing_by t a l l';
      tail = cond (seats_by l l' || a.moves) (suc t.lines) t.tail;
      pinged = cond a.pings (suc t.lines) t.pinged;
      named = a.named || t.named;
      number = cond a.named a.number t.number;
    }
