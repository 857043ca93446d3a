-- Several `ensures` clauses of one function are their facts with `∗` between them. A walk takes them as one fact, a product, and gives them so.
--     joined       facts with `∗` between them make one fact
--     parted       one fact makes facts with `∗` between them
--     says_all     `Denote/Triple/Walked.antt`'s `says` of such facts
-- `says_all` takes `Logic`. The rest assumes nothing.
use mathlib.Core.List.{List}
use seplogic.Ra.Ura.{Ura}
use base.Logic.{SProp, ent, sep, emp, via, mono∗, mono_r, fst∗, snd∗, emp∗, id⊢}
use types.Logic.{Logic}
use types.Kit.{Item, prop, Step, step, ◌$◌, suffices}
use contract.Monad.{fact, fact_i, fact_use}
use denote.Triple.Walked.{says}

module _ {M : Type 1} (𝓤 : Ura M) {φ ψ : Type 0} {P Q : SProp 𝓤} where
  pub joined : ent 𝓤 P (fact 𝓤 φ) → ent 𝓤 Q (fact 𝓤 ψ) → ent 𝓤 (sep 𝓤 P Q) (fact 𝓤 (φ × ψ))
  joined p q =
      fact_use 𝓤 φ (via 𝓤 P (fst∗ 𝓤 P Q) p) (λ x. fact_use 𝓤 ψ (via 𝓤 Q (snd∗ 𝓤 P Q) q) (λ y. fact_i 𝓤 (φ × ψ) (sep 𝓤 P Q) (x, y)))

  pub parted : ent 𝓤 (fact 𝓤 φ) P → ent 𝓤 (fact 𝓤 ψ) Q → ent 𝓤 (fact 𝓤 (φ × ψ)) (sep 𝓤 P Q)
  parted p q =
      fact_use 𝓤 (φ × ψ) (id⊢ 𝓤 (fact 𝓤 (φ × ψ))) (λ x. via 𝓤 (sep 𝓤 (emp 𝓤) (fact 𝓤 (φ × ψ))) (emp∗ 𝓤 (fact 𝓤 (φ × ψ)))
      (mono∗ 𝓤 (via 𝓤 (fact 𝓤 φ) (fact_i 𝓤 φ (emp 𝓤) x.0) p) (via 𝓤 (fact 𝓤 ψ) (fact_i 𝓤 ψ (fact 𝓤 (φ × ψ)) x.1) q)))

pub says_all : {M : Type 1} {𝓤 : Ura M} {𝓛 : Logic 𝓤} {K : Type 0} {Γ : List (Item 𝓤)} → K → {φ : Type 0} {P Q : SProp 𝓤} → ent 𝓤 (fact 𝓤 φ) Q → φ
    → Step K 𝓛 Γ (prop P) Γ (prop (sep 𝓤 P Q))
says_all {𝓤 = 𝓤} t {φ} {P} {Q} all x = step (λ s. suffices t (sep 𝓤 P (fact 𝓤 φ)) (mono_r 𝓤 P all) $ says t x $ s)
