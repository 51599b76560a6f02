-- The promise is kept: every plan that is accepted, every list of steps, refused ones included. Assumes nothing.
-- The argument stands in View (what is seen of a run, and its moves), Acknowledged, Lasting, OwnChoice, Known and Opened (the invariants
-- of docs/PROMISE.md, which each move keeps), Trace (lists of steps, from laws of one step) and Viewed (the moves have those laws). Sim
-- shows that each step of a run is one move of its view; what it needs of the run is in Good, from the laws of crate run.
use Prim.Native.Nat.{ℕ}
use mathlib.Core.Path.{◌≡◌, refl, ap, subst, ◌∙◌}
use mathlib.Core.List.{List, [], ◌∷◌}
use Rattle.promise.specs.Names.{Err, Ok, Plan, Planned, Run, Step, Unplanned}
use Rattle.plan.specs.Rule.{in_range, chosen, plan_of, forgetful_plan}
use Rattle.run.specs.Start.{fresh_run, start_by, start_of}
use Rattle.run.specs.Steps.{step_of}
use Rattle.run.proofs.FrameLaws.{step_plan}
use Rattle.promise.specs.Events.{Event, event, events}
use Rattle.promise.specs.Promise.{Promise, Linked}
use Rattle.promise.proofs.View.{Move}
use Rattle.promise.proofs.Trace.{trace}
use Rattle.promise.proofs.Viewed.{viewed, viewed_linked}
use Rattle.promise.proofs.SimView.{view, QuorumIn}
use Rattle.promise.proofs.Good.{Good, good_step, good_fresh}
use Rattle.promise.proofs.Sim.{sim}
use Rattle.promise.proofs.Fresh.{fresh_acknowledged, fresh_opened, fresh_known}

abbrev next : Run → Step → Run
next run s = (step_of run s).run

-- a good run that has the plan of the first
abbrev Goes : Plan → Run → Type 0
Goes p run = Good run × (run.plan ≡ p)

goes_on : (p : Plan) (run : Run) (s : Step) → Goes p run → Goes p (next run s)
goes_on p run s G = (good_step run s G.0, step_plan run s ∙ G.1)

moves : (p : Plan) (run : Run) (s : Step) → Goes p run → Move (QuorumIn p) (view run) (view (next run s)) (event run s)
moves p run s G = subst (λ (z : Plan). Move (QuorumIn z) (view run) (view (next run s)) (event run s)) G.1 (sim run G.0 s)

traced : (run : Run) (ss : List Step) → trace next event run ss ≡ events run ss
traced run [] = refl
traced run (s ∷ ss) = ap (λ (l : List Event). event run s ∷ l) (traced (next run s) ss)

module _ (n k r b : ℕ) (p : Plan) (e : plan_of n k r b ≡ Ok p) (ss : List Step) where
  goes : Goes p (fresh_run p)
  goes = (good_fresh n k r b p e, unfold fresh_run in refl)

  pub promise : Promise (events (fresh_run p) ss)
  promise =
      subst (λ (l : List Event). Promise l) (traced (fresh_run p) ss)
      (viewed next event (QuorumIn p) view (Goes p) (goes_on p) (moves p) (fresh_run p) goes (fresh_acknowledged p) (fresh_opened p) ss (fresh_known p))

  -- and the events of one operation belong together
  pub linked : Linked (events (fresh_run p) ss)
  linked =
      subst (λ (l : List Event). Linked l) (traced (fresh_run p) ss)
      (viewed_linked next event (QuorumIn p) view (Goes p) (goes_on p) (moves p) (fresh_run p) goes (fresh_acknowledged p) (fresh_opened p) ss)

-- a refused plan too comes back with a run, that of plan 2,0,0,0: so it holds of whatever run a plan returns
pub promise_always : (n k r b : ℕ) (ss : List Step) → Promise (events (start_of n k r b).run ss)
unfolding start_of in_range chosen plan_of
promise_always n k r b ss = go (plan_of n k r b) refl
  where
    go : (x : Planned) → plan_of n k r b ≡ x → Promise (events (start_by x).run ss)
    go (Err Unplanned.OutOfRange) e = promise 2 0 0 0 (forgetful_plan 2 0 0 0) refl ss
    go (Err Unplanned.TooSmall) e = promise 2 0 0 0 (forgetful_plan 2 0 0 0) refl ss
    go (Ok p) e = promise n k r b p e ss
