-- `printout_rows::ping_field` meets its contract, by the cases of what it writes. Assumes nothing.
use Rattle.printout_rows.specs.Rows.{ping_text}
use Rattle.printout_rows.proofs.Rows.{field_fits, field-wrote}
use Rattle.printout_rows.proofs.ping_field.Goals as goal

pub word_field-requires : goal.word_field-requires
word_field-requires c = field_fits ping_text c.in-Quiet.is c.args.at c.requires

pub decimal_field-requires : goal.decimal_field-requires
decimal_field-requires c = field_fits ping_text c.in-Out.is c.args.at c.requires

pub returns-in-Quiet : goal.returns-in-Quiet
returns-in-Quiet c = let a = c.args in record { next = (field-wrote ping_text c.in-Quiet.is a.out.now a.at (c.word_field.ensures.next, c.word_field.ensures.bytes)).0; bytes = (field-wrote ping_text c.in-Quiet.is a.out.now a.at (c.word_field.ensures.next, c.word_field.ensures.bytes)).1 }

pub returns-in-Out : goal.returns-in-Out
returns-in-Out c = let a = c.args in record { next = (field-wrote ping_text c.in-Out.is a.out.now a.at (c.decimal_field.ensures.next, c.decimal_field.ensures.bytes)).0; bytes = (field-wrote ping_text c.in-Out.is a.out.now a.at (c.decimal_field.ensures.next, c.decimal_field.ensures.bytes)).1 }
