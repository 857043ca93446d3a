-- `log_line::Fields::add` meets its contract. Assumes nothing.
use Prim.Native.Nat.{◌+◌}
use mathlib.Core.Path.{◌≡◌, sym, ap, ◌∙◌}
use mathlib.Core.List.{List}
use lib.ListN.{length}
use lib.Seq.{set_out}
use Rattle.packet_span.specs.declared.Span.{Span}
use Rattle.log_line.specs.declared.Fields.{Fields}
use Rattle.log_line.proofs.Spans.{length_mapped}
use borrow.Author.Rules.{rules}
use native.Mathlib.Omega.{arith}
use Rattle.log_line.proofs.Fields.add.Goals as goal
use Rattle.log_line.proofs.Fields.add.Goals.{then-self-lt7, else-self-lt7}

abbrev one_more : Fields → Fields
one_more r = record { count = r.count + 1; spans = r.spans }

pub returns : goal.returns
returns c = let a = c.args in
    let size : length a.self.spans ≡ 7 = search (rules, length_mapped) in
    elim c.if-self-lt7.branch [
      | then-self-lt7 w ↦ ap one_more w.self-is
      | else-self-lt7 w ↦ ap one_more w.self-is ∙ ap (λ (l : List Span). record { count = a.self.count + 1; spans = l }) (sym (set_out a.self.spans a.self.count _ (omega arith)))
    ]
