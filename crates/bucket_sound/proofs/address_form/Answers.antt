-- `bucket_sound::address_form` meets its contract. Assumes nothing.
use Rattle.bucket_sound.proofs.Steps.{long_address, short_address}
use Rattle.bucket_sound.proofs.address_form.Goals as goal

pub returns-then-len-eq16 : goal.returns-then-len-eq16
returns-then-len-eq16 c = long_address c.args.bytes.now c.args.at c.if-len-eq16.true

pub returns : goal.returns
returns c = short_address c.args.bytes.now c.args.at c.if-len-eq16.false c.zeros.ensures c.both.ensures
