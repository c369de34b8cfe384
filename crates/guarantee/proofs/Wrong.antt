-- None of the wrong devices meets demand 3; the right device does, with the same hash function and verdicts (`meets`, `meets-nobody` in Toy).
use Rattle.std.proofs.Common.{[], replicate}
use Rattle.guarantee.specs.Demand3.{Demand3}
use Rattle.guarantee.proofs.Toy.{toy, any, nobody, fresh, flash, taking, is-fresh}
use Rattle.guarantee.proofs.WrongCalls.{closed, closed-caught, unaware, unaware-caught, hasty, hasty-caught, rash, rash-caught, scribbling, scribbling-caught, turning, turning-caught, rekeying, rekeying-caught, leaking, leaking-caught, spilling, spilling-caught, reordering, reordering-caught, demanding, demanding-caught, swapping, swapping-caught}
use Rattle.guarantee.proofs.WrongFirst.{careless, careless-caught, blind, blind-caught, keeping, keeping-caught, clinging, clinging-caught, stuck, stuck-caught, forgetting, forgetting-caught, idling, idling-caught, early, early-caught, lapsing, lapsing-caught, unwritten, unwritten-caught, untouched, untouched-caught, trusting, trusting-caught, doubling, doubling-caught, nearsighted, nearsighted-caught, taking-caught, smearing, smearing-caught, padding, padding-caught, shrinking, shrinking-caught}
use Rattle.guarantee.proofs.WrongSecond.{deaf, deaf-caught, still, still-caught, hoarding, hoarding-caught, skipping, skipping-caught, mislaying, mislaying-caught, garbling, garbling-caught}
use Rattle.guarantee.proofs.WrongBudget.{strict, strict-caught, partial, partial-caught, thrifty, thrifty-caught, lavish, lavish-caught, tardy, tardy-caught, eager, eager-caught, stingy, stingy-caught, undercounting, undercounting-caught, charging, charging-caught, settling, settling-caught, owning, owning-caught, inventing, inventing-caught}

pub none-meets : (Demand3 toy any careless → ⊥)
    × (Demand3 toy any blind → ⊥)
    × (Demand3 toy any keeping → ⊥)
    × (Demand3 toy any forgetting → ⊥)
    × (Demand3 toy any idling → ⊥)
    × (Demand3 toy any early → ⊥)
    × (Demand3 toy any lapsing → ⊥)
    × (Demand3 toy any unwritten → ⊥)
    × (Demand3 toy nobody taking → ⊥)
    × (Demand3 toy any deaf → ⊥)
    × (Demand3 toy any still → ⊥)
    × (Demand3 toy any hoarding → ⊥)
    × (Demand3 toy any skipping → ⊥)
    × (Demand3 toy any mislaying → ⊥)
    × (Demand3 toy any closed → ⊥)
    × (Demand3 toy any hasty → ⊥)
    × (Demand3 toy any scribbling → ⊥)
    × (Demand3 toy any smearing → ⊥)
    × (Demand3 toy any padding → ⊥)
    × (Demand3 toy any shrinking → ⊥)
    × (Demand3 toy any turning → ⊥)
    × (Demand3 toy any rekeying → ⊥)
    × (Demand3 toy any garbling → ⊥)
    × (Demand3 toy any leaking → ⊥)
    × (Demand3 toy any spilling → ⊥)
    × (Demand3 toy any reordering → ⊥)
    × (Demand3 toy any demanding → ⊥)
    × (Demand3 toy any unaware → ⊥)
    × (Demand3 toy any swapping → ⊥)
    × (Demand3 toy any rash → ⊥)
    × (Demand3 toy any clinging → ⊥)
    × (Demand3 toy any stuck → ⊥)
    × (Demand3 toy any untouched → ⊥)
    × (Demand3 toy any trusting → ⊥)
    × (Demand3 toy any doubling → ⊥)
    × (Demand3 toy any nearsighted → ⊥)
    × (Demand3 toy any strict → ⊥)
    × (Demand3 toy any partial → ⊥)
    × (Demand3 toy any thrifty → ⊥)
    × (Demand3 toy any lavish → ⊥)
    × (Demand3 toy any tardy → ⊥)
    × (Demand3 toy any eager → ⊥)
    × (Demand3 toy any stingy → ⊥)
    × (Demand3 toy any undercounting → ⊥)
    × (Demand3 toy any charging → ⊥)
    × (Demand3 toy any settling → ⊥)
    × (Demand3 toy any owning → ⊥)
    × (Demand3 toy any inventing → ⊥)
none-meets = (
  λ c. careless-caught (c fresh is-fresh flash _).first,
  λ c. blind-caught (c fresh is-fresh flash _).first,
  λ c. keeping-caught (c fresh is-fresh flash _).first,
  λ c. forgetting-caught (c fresh is-fresh flash _).first,
  λ c. idling-caught (c fresh is-fresh flash _).first,
  λ c. early-caught (c fresh is-fresh flash _).first,
  λ c. lapsing-caught (c fresh is-fresh flash _).first,
  λ c. unwritten-caught (c fresh is-fresh flash _).first,
  λ c. taking-caught (c fresh is-fresh flash _).first,
  λ c. deaf-caught (c fresh is-fresh flash _).second,
  λ c. still-caught (c fresh is-fresh flash _).second,
  λ c. hoarding-caught (c fresh is-fresh flash _).second,
  λ c. skipping-caught (c fresh is-fresh flash _).second,
  λ c. mislaying-caught (c fresh is-fresh (replicate 192 5) _).second,
  λ c. closed-caught (c fresh is-fresh flash _).calls,
  λ c. hasty-caught (c fresh is-fresh flash _).calls,
  λ c. scribbling-caught (c fresh is-fresh flash _).calls,
  λ c. smearing-caught (c fresh is-fresh flash _).first,
  λ c. padding-caught (c fresh is-fresh (replicate 512 5) _).first,
  λ c. shrinking-caught (c fresh is-fresh (replicate 128 5) _).first,
  λ c. turning-caught (c fresh is-fresh flash _).calls,
  λ c. rekeying-caught (c fresh is-fresh flash _).calls,
  λ c. garbling-caught (c fresh is-fresh flash _).second,
  λ c. leaking-caught (c fresh is-fresh flash _).calls,
  λ c. spilling-caught (c fresh is-fresh flash _).calls,
  λ c. reordering-caught (c fresh is-fresh [] _).calls,
  λ c. demanding-caught (c fresh is-fresh (replicate 257 5) _).calls,
  λ c. unaware-caught (c fresh is-fresh flash _).calls,
  λ c. swapping-caught (c fresh is-fresh flash _).calls,
  λ c. rash-caught (c fresh is-fresh flash _).calls,
  λ c. clinging-caught (c fresh is-fresh flash _).first,
  λ c. stuck-caught (c fresh is-fresh flash _).first,
  λ c. untouched-caught (c fresh is-fresh flash _).first,
  λ c. trusting-caught (c fresh is-fresh flash _).first,
  λ c. doubling-caught (c fresh is-fresh flash _).first,
  λ c. nearsighted-caught (c fresh is-fresh flash _).first,
  λ c. strict-caught (c fresh is-fresh flash _).calls,
  λ c. partial-caught (c fresh is-fresh flash _).calls,
  λ c. thrifty-caught (c fresh is-fresh flash _).calls,
  λ c. lavish-caught (c fresh is-fresh flash _).calls,
  λ c. tardy-caught (c fresh is-fresh flash _).calls,
  λ c. eager-caught (c fresh is-fresh flash _).calls,
  λ c. stingy-caught (c fresh is-fresh flash _).calls,
  λ c. undercounting-caught (c fresh is-fresh flash _).calls,
  λ c. charging-caught (c fresh is-fresh flash _).calls,
  λ c. settling-caught (c fresh is-fresh flash _).calls,
  λ c. owning-caught (c fresh is-fresh flash _).calls,
  λ c. inventing-caught (c fresh is-fresh flash _).calls,
)
