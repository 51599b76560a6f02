-- A step that was let in: it is decided and put back, and its places are those of the run. Assumes nothing.
use Rattle.admit.proofs.AdmitLaws.{admitted_placed}
use Rattle.run.proofs.FitLaws.{cabinets_range}
use Rattle.run.proofs.FrameLaws.{step_is_go}

pub ruleset let_in = (step_is_go, admitted_placed, cabinets_range)
