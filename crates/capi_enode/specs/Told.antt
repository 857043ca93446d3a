-- What C is told of a boot list that was read or written, as numbers in fixed places.
use Rattle.std.specs.Prelude.{ℕ, List, [], ◌∷◌, Result, Ok, Err}
use Rattle.written.specs.declared.WriteError.{WriteError}
use Rattle.enode_list.specs.declared.End.{End}
use Rattle.enode_list.specs.declared.End.TheVariants.{Complete, Unfit, Full}
use Rattle.enode_list.specs.declared.Boot.{Boot}
use Rattle.enode_list.specs.List.{end_number}

-- the line that ended a reading, 0 where all lines are read
abbrev pub end_line : End → ℕ
end_line Complete = 0
end_line (Unfit line) = line
end_line (Full line) = line

-- of a reading: how many records the list received, the number of its end (0, 22 or 19), and the line
abbrev pub told_boot : Boot → List ℕ
told_boot b = b.count ∷ end_number b.end ∷ end_line b.end ∷ []

-- of a write: the bytes written; as it was where the write is refused
abbrev pub size_after : Result ℕ WriteError → List ℕ → List ℕ
size_after (Ok size) old = size ∷ []
size_after (Err e) old = old
