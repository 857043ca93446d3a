-- A value made of a list holds that list. Assumes nothing.
use mathlib.Core.Path.{◌≡◌, sym, ap}
use mathlib.Core.List.{List}
use Prim.Native.Nat.{◌-◌, ◌≤◌}
use native.Mathlib.Omega.{arith}
use lib.ListN.{length, take, replicate, length-take}
use lib.Seq.{take-append_seam}
use Rattle.closest_nearest.specs.declared.Near.{Near}
use Rattle.closest_nearest.specs.Sort.{insert_all}
use Rattle.closest_nearest.specs.Nearest.{no_near, farness, holding, held, Ordered}
use Rattle.closest_nearest.proofs.Sort.{Sorted, sorted_all, Rising-take}

pub held-holding : (l : List Near) → held (holding l) ≡ l
held-holding l = take-append_seam l (replicate (16 - length l) no_near)

pub ordered_holding : (l : List Near) → length l ≤ 16 → Sorted farness l → Ordered (holding l)
ordered_holding l n r =
    record {
      few = n;
      form = ap holding (sym (held-holding l));
      rising = rw (held-holding l) r;
    }

-- the first sixteen, once more were put in
pub ordered_all : (l m : List Near) → Sorted farness m → Ordered (holding (take 16 (insert_all farness l m)))
ordered_all l m r =
    ordered_holding (take 16 (insert_all farness l m))
    (omega (arith, length-take 16 (insert_all farness l m)))
    (Rising-take (λ a b. farness a ≤ farness b) 16 (insert_all farness l m) (sorted_all farness l m r))
