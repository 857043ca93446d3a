use mathlib.Core.Path.{◌≡◌}
use lib.ListN.{length}
use Rattle.std.specs.Iterator.Adapters.{zip_first, zip_second}
use Rattle.std.specs.Slice.Iter.{iter_rest}
use Rattle.log_line.specs.Fields.{Within}
use Rattle.log_line.specs.Forms.{each}
use Rattle.log_line.proofs.each.Given as goal

abbrev pub invariant-loop-kind : goal.invariant-loop-kind
invariant-loop-kind l = record {
  size : length (iter_rest (zip_second l.kind-iterator)) ≡ length (iter_rest (zip_first l.kind-iterator));
  within : Within l.line (iter_rest (zip_second l.kind-iterator));
  rest : each l.line (iter_rest (zip_first l.kind-iterator)) (iter_rest (zip_second l.kind-iterator)) ≡ each l.line l.kinds l.spans;
}
