-- The nearest to a target, of all that were put in.
use Rattle.std.specs.Prelude.{◌≡◌, ℕ, ◌-◌, ◌≤◌, List, ◌++◌, length, take, replicate}
use Rattle.octets.specs.Octets.{number}
use Rattle.lists.specs.Lists.{Rising}
use Rattle.closest_nearest.specs.declared.Near.{Near}
use Rattle.closest_nearest.specs.declared.Nearest.{Nearest}

abbrev pub no_near : Near
no_near = record { slot = 0; index = 0; far = replicate 32 0 }

-- how far from the target
abbrev pub farness : Near → ℕ
farness n = number n.far

-- the value that holds these, nearest first
abbrev pub holding : List Near → Nearest
holding l = record { count = length l; list = l ++ replicate (16 - length l) no_near }

abbrev pub held : Nearest → List Near
held n = take n.count n.list

-- a value that holds at most sixteen, nearest first
pub record Ordered (n : Nearest) : Type 0 where
  pub few : n.count ≤ 16
  pub form : n ≡ holding (held n)
  pub rising : Rising (λ a b. farness a ≤ farness b) (held n)
