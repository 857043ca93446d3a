use Rattle.std.proofs.Common.{◌≡◌, ◌+◌, true, length, drop}
use Rattle.octets.specs.Octets.{store}
use Rattle.enode.specs.Lists.{can_boot, boot_text}
use Rattle.enode_write_list.proofs.put_lines.Given as goal

abbrev pub invariant-loop-node : goal.invariant-loop-node
invariant-loop-node l =
    (can_boot (drop l.node-index l.nodes) ≡ true)
    × (l.at + length (boot_text (drop l.node-index l.nodes)) ≡ length (boot_text l.nodes))
    × (store l.buf l.at (boot_text (drop l.node-index l.nodes)) ≡ store l.initial.buf 0 (boot_text l.nodes))
