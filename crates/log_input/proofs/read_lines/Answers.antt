use Rattle.log_lines.proofs.Found.{fresh_size}
use Rattle.log_input.proofs.read_lines.Goals as goal

pub loop-init : goal.loop-init
loop-init g c = (fresh_size c.new-begun.result c.new-begun.ensures, c.requires.begins)
