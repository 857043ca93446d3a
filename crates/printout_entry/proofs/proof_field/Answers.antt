-- `printout_entry::proof_field` meets its contract, by the cases of what it writes. Assumes nothing.
use Rattle.printout_entry.specs.EntryRow.{proof_text}
use Rattle.printout_rows.proofs.Rows.{field_fits, field-wrote}
use Rattle.printout_entry.proofs.proof_field.Goals as goal

pub word_field-requires : goal.word_field-requires
word_field-requires c = field_fits proof_text c.in-Unproved.is c.args.at c.requires

pub decimal_field-requires : goal.decimal_field-requires
decimal_field-requires c = field_fits proof_text c.in-At.is c.args.at c.requires

pub returns-in-Unproved : goal.returns-in-Unproved
returns-in-Unproved c = let a = c.args in record { next = (field-wrote proof_text c.in-Unproved.is a.out.now a.at (c.word_field.ensures.next, c.word_field.ensures.bytes)).0; bytes = (field-wrote proof_text c.in-Unproved.is a.out.now a.at (c.word_field.ensures.next, c.word_field.ensures.bytes)).1 }

pub returns-in-At : goal.returns-in-At
returns-in-At c = let a = c.args in record { next = (field-wrote proof_text c.in-At.is a.out.now a.at (c.decimal_field.ensures.next, c.decimal_field.ensures.bytes)).0; bytes = (field-wrote proof_text c.in-At.is a.out.now a.at (c.decimal_field.ensures.next, c.decimal_field.ensures.bytes)).1 }
