-- Steps of the rules by value: what a rule changes at the position where a node is held.
use Rattle.std.specs.Prelude.{cond, [], ◌∷◌, ◌++◌, set}
use Rattle.entry.specs.declared.Entry.{Entry}
use Rattle.bucket_model.specs.Contents.{Contents}
use Rattle.bucket_model.specs.Rules.{held, may_take}
use Rattle.bucket.specs.declared.Position.{Position}
use Rattle.bucket.specs.declared.Position.TheVariants.{Absent, InEntries, InReplacements}
use Rattle.bucket.specs.Steps.{remove_at}

-- e stands at the position
abbrev pub put_at : Position → Entry → Contents → Contents
put_at Absent e m = m
put_at (InEntries i) e m = record { entries = set m.entries i e; replacements = m.replacements }
put_at (InReplacements i) e m = record { entries = m.entries; replacements = set m.replacements i e }

-- e stands at the tail, if it was an entry, and else where it stood
abbrev pub tail_at : Position → Entry → Contents → Contents
tail_at Absent e m = m
tail_at (InEntries i) e m = record { entries = remove_at i m.entries ++ (e ∷ []); replacements = m.replacements }
tail_at (InReplacements i) e m = record { entries = m.entries; replacements = set m.replacements i e }

-- the same, and a replacement that may takes an entry at the tail
abbrev pub promote_at : Position → Entry → Contents → Contents
promote_at Absent e m = m
promote_at (InEntries i) e m = record { entries = remove_at i m.entries ++ (e ∷ []); replacements = m.replacements }
promote_at (InReplacements i) e m =
    cond (may_take m.entries e.endpoint)
    (record { entries = m.entries ++ (e ∷ []); replacements = remove_at i m.replacements })
    (record { entries = m.entries; replacements = set m.replacements i e })

-- e joins the end of the replacements
abbrev pub join_line : Entry → Contents → Contents
join_line e m = record { entries = m.entries; replacements = m.replacements ++ (e ∷ []) }
