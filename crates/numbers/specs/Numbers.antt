-- The answer numbers (docs/NUMBERS.md has the table): 0 for a call that is accepted, else the number of why it is refused.
use Rattle.std.specs.Prelude.{ℕ, Result, Ok, Err}
use Rattle.numbers.specs.declared.Refusal.{Refusal}
use Rattle.numbers.specs.declared.Refusal.TheVariants.{Unsound, ClockBack, WrongLength, WrongHash, WrongKey, WrongAddress, OwnKey, UnknownType, BrokenData, WrongField, Expired, NotKept, NotVerified, NotAwaited, Late, HeldElsewhere, PingOut, LineFull, ShortRoom, NotWritable, Unreadable, NotEnode, NotWhole}

abbrev pub number_of : Refusal → ℕ
number_of Unsound = 1
number_of ClockBack = 2
number_of WrongLength = 3
number_of WrongHash = 4
number_of WrongKey = 5
number_of WrongAddress = 6
number_of OwnKey = 7
number_of UnknownType = 8
number_of BrokenData = 9
number_of WrongField = 10
number_of Expired = 11
number_of NotKept = 12
number_of NotVerified = 13
number_of NotAwaited = 14
number_of Late = 15
number_of HeldElsewhere = 16
number_of PingOut = 17
number_of LineFull = 18
number_of ShortRoom = 19
number_of NotWritable = 20
number_of Unreadable = 21
number_of NotEnode = 22
number_of NotWhole = 28

-- the number of an answer that gives nothing else
abbrev pub answer_number : Result (Unit {0}) Refusal → ℕ
answer_number (Ok done) = 0
answer_number (Err refusal) = number_of refusal
