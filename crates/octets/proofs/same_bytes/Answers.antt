-- `octets::same_bytes` meets its contract: `==` on slices decides whether they are equal, and so does the definition. Assumes nothing.
use Rattle.std.specs.Bool.{one_answer}
use Rattle.std.proofs.lemmas.Bool.Decides.{Decides-eqb}
use Rattle.std.proofs.lemmas.Slice.Eq.{slice_eq-Decides}
use Rattle.octets.proofs.Laws.{same_decides}
use Rattle.octets.proofs.same_bytes.Goals as goal

pub returns : goal.returns
returns c =
    let a = c.args.a.now in
    let b = c.args.b.now in
    one_answer _ _ (slice_eq-Decides Decides-eqb a b _ c.eq.ensures) (same_decides a b)
