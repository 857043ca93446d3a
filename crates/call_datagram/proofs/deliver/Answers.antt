-- `call_datagram::deliver` meets its contract. Assumes nothing.
use Rattle.bucket_model.specs.Contents.{Contents}
use Rattle.table_model.specs.Layout.{bucket_at}
use Rattle.call_model.specs.Calls.{env_of}
use Rattle.call_model.specs.Reading.{packet_reading, reading}
use Rattle.bucket.proofs.Laws.{of_shown}
use Rattle.call_touched.proofs.Slots.{fits, written}
use Rattle.call_packet.specs.Steps.{RepliesTo}
use Rattle.call_datagram.proofs.Delivery.{replied, not-delivered, is-delivered, bounded_datagram}
use Rattle.call_datagram.proofs.deliver.Goals as goal

pub returns-then-reply-ne0 : goal.returns-then-reply-ne0
returns-then-reply-ne0 c =
    let replies : let a = c.args in
    RepliesTo (env_of reading a.table.now) a.clock.0 a.address.now a.port a.signer.now a.datagram.now a.packet (bucket_at a.table.now a.slot) c.on_packet-reply.result = let a = c.args in
    let s = a.table.now in
    let b = c.bucket_in-b in
    of_shown (λ (m : Contents). RepliesTo (env_of reading s) a.clock.0 a.address.now a.port a.signer.now a.datagram.now a.packet m c.on_packet-reply.result)
    b.result (bucket_at s a.slot) b.ensures.0 (c.on_packet-reply.ensures (env_of reading s)) in
    let at = c in
    let a = at.args in record { value = replied a.table.now a.slot a.clock.0 a.address.now a.port a.signer.now a.datagram.now a.packet replies; table_after = not-delivered a.table.now a.slot a.clock.0 a.address.now a.port a.signer.now a.datagram.now a.packet replies c.if-reply-ne0.true }

pub put-requires : goal.put-requires
put-requires c =
    let replies : let a = c.args in
    RepliesTo (env_of reading a.table.now) a.clock.0 a.address.now a.port a.signer.now a.datagram.now a.packet (bucket_at a.table.now a.slot) c.on_packet-reply.result = let a = c.args in
    let s = a.table.now in
    let b = c.bucket_in-b in
    of_shown (λ (m : Contents). RepliesTo (env_of reading s) a.clock.0 a.address.now a.port a.signer.now a.datagram.now a.packet m c.on_packet-reply.result)
    b.result (bucket_at s a.slot) b.ensures.0 (c.on_packet-reply.ensures (env_of reading s)) in
    let at = c in
    let start = at in
    let a = start.args in (
      fits a.table.now a.slot start.requires.0,
      bounded_datagram a.table.now a.slot start.requires.0 (λ k. (at.slice_known-1.given k).fits)
          a.clock.0 a.address.now a.port a.signer.now (packet_reading a.datagram.now a.packet) start.requires.1 at.on_packet-reply.result.after (replies.after c.if-reply-ne0.false),
    )

pub returns : goal.returns
returns c =
    let replies : let a = c.args in
    RepliesTo (env_of reading a.table.now) a.clock.0 a.address.now a.port a.signer.now a.datagram.now a.packet (bucket_at a.table.now a.slot) c.on_packet-reply.result = let a = c.args in
    let s = a.table.now in
    let b = c.bucket_in-b in
    of_shown (λ (m : Contents). RepliesTo (env_of reading s) a.clock.0 a.address.now a.port a.signer.now a.datagram.now a.packet m c.on_packet-reply.result)
    b.result (bucket_at s a.slot) b.ensures.0 (c.on_packet-reply.ensures (env_of reading s)) in
    let at = c in
    let a = at.args in
    let s = a.table.now in
    let none = c.if-reply-ne0.false in record {
      value = replied s a.slot a.clock.0 a.address.now a.port a.signer.now a.datagram.now a.packet replies;
      table_after = is-delivered s a.slot a.clock.0 a.address.now a.port a.signer.now a.datagram.now a.packet replies none
          (written s a.slot a.clock.0 at.on_packet-reply.result.after _ (replies.after none) c.put.ensures);
    }
