-- `call_touched::key_number` meets its contract. Assumes nothing.
use mathlib.Core.Path.{refl, ap}
use mathlib.Core.Bool.{not}
use Rattle.lists.proofs.First.{here, later}
use Rattle.call_touched.proofs.key_number.Goals as goal

pub returns-then-is_wrong_key : goal.returns-then-is_wrong_key
returns-then-is_wrong_key c = here 5 c.is_wrong_key.ensures _ c.if-is_wrong_key.true

pub returns-then-not-is_address_size : goal.returns-then-not-is_address_size
returns-then-not-is_address_size c = later 5 c.is_wrong_key.ensures c.if-is_wrong_key.false
    (here 6 (ap not c.is_address_size.ensures) _ (ap not c.if-not-is_address_size.true))

pub returns-then-is_own_key : goal.returns-then-is_own_key
returns-then-is_own_key c = later 5 c.is_wrong_key.ensures c.if-is_wrong_key.false
    (later 6 (ap not c.is_address_size.ensures) (ap not c.if-not-is_address_size.false)
    (here 7 c.is_own_key.ensures _ c.if-is_own_key.true))

pub returns : goal.returns
returns c = later 5 c.is_wrong_key.ensures c.if-is_wrong_key.false
    (later 6 (ap not c.is_address_size.ensures) (ap not c.if-not-is_address_size.false)
    (later 7 c.is_own_key.ensures c.if-is_own_key.false refl))
