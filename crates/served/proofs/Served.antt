-- Any list of steps over a lent table is answered as by the first entrance, so that the promise holds there too. Assumes nothing.
use Prim.Native.Nat.{ℕ, ◌+◌, ◌-◌, ◌≤◌}
use mathlib.Core.Path.{◌≡◌, refl, sym, ap, ap₂, subst, ◌∙◌}
use mathlib.Core.List.{List, [], ◌∷◌, ◌++◌, map}
use native.Mathlib.Omega.{arith}
use lib.ListN.{length, replicate, length-replicate, replicate-append-replicate}
use Rattle.limits.specs.Limits.{most_cabinets}
use Rattle.served.specs.Names.{Cabinet, Err, Lent, Ok, Planned, Run, Step, Unplanned}
use Rattle.cabinet.specs.Cabinets.{fresh_cabinet}
use Rattle.plan.specs.Rule.{plan_of}
use Rattle.run.specs.Lists.{run_all}
use Rattle.run.specs.Start.{fresh_run, start_by, start_of}
use Rattle.run.proofs.FitLaws.{cabinets_range}
use Rattle.run.proofs.UndamagedLaws.{start_undamaged}
use Rattle.desk.specs.Desk.{with_cabinets, with_records, lent_of, table_of}
use Rattle.desk.proofs.DeskLaws.{as_step}
use Rattle.promise.specs.Events.{Event, events}
use Rattle.promise.specs.Promise.{Promise}
use Rattle.promise.proofs.Kept.{promise_always}
use Rattle.lists.specs.Whole.{answers_all}
use Rattle.desk_lists.specs.Lent.{lent_run, lent_table, lent_answers}
use Rattle.desk_lists.proofs.BehindLaws.{behind_step, same_step}
use Rattle.served.specs.Served.{lent_events, fresh_table}
use Rattle.served.proofs.EventLaws.{event_same}

-- the answers
pub as_own : (run : Run) (table : List Cabinet) (ss : List Step) → length table ≡ run.plan.n
    → lent_answers run table ss ≡ map Ok (answers_all (with_records run table) ss)
as_own run table [] same = refl
as_own run table (s ∷ ss) same =
    ap₂ {C = List Lent} (λ a l. a ∷ l) (as_step run table s same).0
    (as_own (lent_of run table s).run (table_of run table s) ss (same_step run table s same)
    ∙ ap (λ (r : Run). map Ok (answers_all r ss)) (behind_step run table s same))

-- the run behind the table after the list, and that the table still has n records
pub behind_own : (run : Run) (table : List Cabinet) (ss : List Step) → length table ≡ run.plan.n
    → (with_records (lent_run run table ss) (lent_table run table ss) ≡ run_all (with_records run table) ss)
    × (length (lent_table run table ss) ≡ (lent_run run table ss).plan.n)
unfolding run_all
behind_own run table [] same = (refl, same)
behind_own run table (s ∷ ss) same =
    let z = behind_own (lent_of run table s).run (table_of run table s) ss (same_step run table s same) in
    (z.0 ∙ ap (λ (r : Run). run_all r ss) (behind_step run table s same), z.1)

-- the events
pub events_own : (run : Run) (table : List Cabinet) (ss : List Step) → length table ≡ run.plan.n
    → lent_events run table ss ≡ events (with_records run table) ss
events_own run table [] same = refl
events_own run table (s ∷ ss) same =
    ap₂ {C = List Event} (λ x l. x ∷ l) (event_same run table s same)
    (events_own (lent_of run table s).run (table_of run table s) ss (same_step run table s same)
    ∙ ap (λ (r : Run). events r ss) (behind_step run table s same))

-- ---- the promise, from a fresh run with a fresh table

module _ (n k r b : ℕ) where
  start_cabinets : (start_of n k r b).run.cabinets ≡ replicate most_cabinets fresh_cabinet
  unfolding start_of fresh_run
  start_cabinets = go (plan_of n k r b)
    where
      go : (x : Planned) → (start_by x).run.cabinets ≡ replicate most_cabinets fresh_cabinet
      go (Err Unplanned.OutOfRange) = refl
      go (Err Unplanned.TooSmall) = refl
      go (Ok p) = refl

  start_behind : with_records (start_of n k r b).run (fresh_table (start_of n k r b).run) ≡ (start_of n k r b).run
  unfolding with_records with_cabinets
  start_behind = rw all refl
    where
      run : Run
      run = (start_of n k r b).run

      most : run.plan.n ≤ most_cabinets
      most = (cabinets_range run (start_undamaged n k r b)).1

      all : fresh_table run ++ replicate (most_cabinets - length (fresh_table run)) fresh_cabinet ≡ run.cabinets
      all =
          let len = length-replicate run.plan.n fresh_cabinet in
          let z : run.plan.n + (most_cabinets - length (fresh_table run)) ≡ most_cabinets = omega (arith, most) in
          replicate-append-replicate run.plan.n (most_cabinets - length (fresh_table run)) fresh_cabinet
          ∙ ap (λ (m : ℕ). replicate m fresh_cabinet) z
          ∙ sym start_cabinets

  pub lent_promise : (ss : List Step) → Promise (lent_events (start_of n k r b).run (fresh_table (start_of n k r b).run) ss)
  lent_promise ss =
      let run : Run = (start_of n k r b).run in
      let e = events_own run (fresh_table run) ss (length-replicate run.plan.n fresh_cabinet) in
      subst (λ (l : List Event). Promise l) (sym (e ∙ ap (λ (z : Run). events z ss) start_behind)) (promise_always n k r b ss)
