use Rattle.std.proofs.Common.{◌≡◌, ◌+◌, true, length, drop}
use Rattle.enode.specs.Lists.{can_boot, boot_text}
use Rattle.enode_write_list.proofs.lines_fit.Given as goal

abbrev pub invariant-loop-node : goal.invariant-loop-node
invariant-loop-node l =
    (can_boot (drop l.node-index l.nodes) ≡ true) × (length (boot_text l.nodes) + l.left ≡ length (boot_text (drop l.node-index l.nodes)) + l.room)
