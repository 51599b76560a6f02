-- A client that begins or leaves stays sound. Assumes nothing.
use Rattle.std.proofs.Common.{ℕ, ◌+◌, ◌≤◌, true, ◌≡◌, arith}
use Rattle.run.specs.Names.{Client, Plan, Work}
use Rattle.plan.proofs.RuleLaws.{Quorums}
use Rattle.heard.specs.Heard.{none_heard}
use Rattle.heard.proofs.HeardLaws.{none_within, none_count}
use Rattle.client.specs.Begin.{begins_of, leaves_of}
use Rattle.guard.specs.Damage.{heard_sound, work_sound, client_sound}
use Rattle.guard.proofs.DamageLaws.{factory_made, heard_made, client_says, client_made}
use Rattle.admit.proofs.AdmitLaws.{FirstIn}
use Rattle.run.proofs.UndamagedChanges.{Keeps, refused, of_client}

-- with no cabinet heard no quorum is reached
pub none_sound : (n quorum : ℕ) → 1 ≤ quorum → heard_sound n quorum none_heard ≡ true
none_sound n quorum h = grind (arith, heard_made, none_within, none_count)

-- ---- begin and leave

opens_sound : (plan : Plan) (w : Work) → Quorums plan → FirstIn w → work_sound plan none_heard w ≡ true
opens_sound plan w q o = grind (arith, none_sound)

module _ (plan : Plan) (steps i : ℕ) (c : Client) (q : Quorums plan) (sound : client_sound plan steps i c ≡ true) where
  pub begins_keeps : (w : Work) → FirstIn w → Keeps plan (steps + 1) (begins_of i c w)
  unfolding begins_of
  begins_keeps w o = grind (arith, refused, of_client, client_says, client_made, factory_made, opens_sound)

  pub leaves_keeps : Keeps plan (steps + 1) (leaves_of i c)
  unfolding leaves_of
  leaves_keeps = grind (arith, refused, of_client, client_says, client_made, factory_made)
