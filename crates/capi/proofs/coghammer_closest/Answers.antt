-- `capi::coghammer_closest` meets its contract. Assumes nothing.
use Rattle.std.proofs.Common.{◌≡◌, ◌<◌, ℕ, refl, sym, ap, length, arith}
use Rattle.octets.specs.Octets.{Bytes}
use Rattle.closest_choice.specs.Choice.{chosen}
use Rattle.closest_nodes.specs.declared.Listed.{Listed}
use Rattle.closest_nodes.specs.Listing.{listed}
use Rattle.closest_nodes.proofs.Chosen.{fits, few-distances, answers}
use Rattle.capi_codes.specs.Codes.{listed_code}
use Rattle.capi.proofs.coghammer_closest.Goals as goal

-- at most sixteen nodes are listed, and at most 31 distances are worked out
few : (s target : Bytes) (room : ℕ) (r : Listed) → r ≡ listed s target room → (r.count < 256) × (r.distances < 256)
few s target room r e =
    let choice = chosen s target room in
    let chosen-few = fits s target room choice refl in
    let count : (listed s target room).count ≡ choice.nearest.count = ap (λ (l : Listed). l.count) (sym (answers s target room choice refl)) in
    let distances = few-distances s target room in
    let same_count = ap (λ (l : Listed). l.count) e in
    let same_distances = ap (λ (l : Listed). l.distances) e in
    (omega arith, omega arith)

pub listed_code-requires : goal.listed_code-requires
listed_code-requires c = few c.args.table.now c.args.target.now (length c.args.list.now) c.closest-answer.result c.closest-answer.ensures.0
