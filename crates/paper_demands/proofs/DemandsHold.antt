-- The three demands hold: `demands`.
use Rattle.paper_demands.specs.Demands.{Demands}
use Rattle.paper_demands.proofs.Demand1Holds.{demand1}
use Rattle.paper_demands.proofs.Demand2Holds.{demand2_handed, demand2_after}
use Rattle.paper_demands.proofs.Demand3Holds.{handed_ends, demand3}

pub demands : Demands
demands = record { first = demand1; second = demand2_handed; second_after = demand2_after; third = demand3; handed = handed_ends }
