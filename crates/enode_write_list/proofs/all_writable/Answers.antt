-- `enode_write_list::all_writable` meets its contract. Assumes nothing.
use Rattle.std.proofs.Common.{rules, tests}
use Rattle.std.proofs.lemmas.Iterator.{YieldsList-from_slice}
use Rattle.std.proofs.lemmas.Iterator.Search.{all_from_yields_List}
use mathlib.Core.Path.{◌∙◌}
use Rattle.enode.specs.Text.{can_enode}
use Rattle.enode_write_list.proofs.Lines.{as_all}
use Rattle.enode_write_list.proofs.all_writable.Goals as goal

pub returns : goal.returns
returns c =
    let ns = c.args.nodes.now in
    all_from_yields_List can_enode _ _ c.all.result c.all.ensures.ran (YieldsList-from_slice ns (cc)) (λ x b q k. search (rules, tests)) ∙ as_all ns
