-- The promise holds for what a desk does by lists in one go: the events of its calls are those of the steps that they take, taken singly.
-- Assumes nothing.
use Prim.Native.Nat.{ℕ}
use mathlib.Core.Bool.{Bool, true, false, cond}
use mathlib.Core.List.{List, [], ◌∷◌, ◌++◌}
use mathlib.Core.Path.{◌≡◌, refl, sym, ap, ap₂, subst, ◌∙◌}
use native.Mathlib.Omega.{arith}
use lib.ListN.{length, take}
use lib.Seq.{take_all}
use Rattle.served.specs.Names.{Cabinet, Listed, Run, Step}
use Rattle.run.specs.Lists.{run_all}
use Rattle.run.specs.Start.{start_of}
use Rattle.run.specs.Steps.{step_of}
use Rattle.desk.specs.Desk.{lent_of, table_of}
use Rattle.lists.specs.Whole.{fits, taken_of, untaken_of, list_of, first_list_of}
use Rattle.lists.proofs.ListLaws.{first_whole}
use Rattle.desk_lists.specs.Lent.{lent_run, lent_table, lent_taken_of, lent_untaken_of, lent_list_of, lent_first_of}
use Rattle.desk_lists.proofs.LentLaws.{lent_first_whole}
use Rattle.promise.specs.Events.{Event, event, events}
use Rattle.promise.specs.Promise.{Promise}
use Rattle.promise.proofs.Kept.{promise_always}
use Rattle.served.specs.Served.{lent_event, lent_events, fresh_table}
use Rattle.served.specs.Calls.{Call, whole_call, taken_by, taken_by_all, run_by, call_events, lent_run_by, lent_table_by, lent_call_events}
use Rattle.served.proofs.Served.{lent_promise}

-- ---- over the run's own records

-- a call leaves the run that the steps which it takes leave
call_run : (run : Run) (c : Call) → run_by run c ≡ run_all run (taken_by c)
unfolding taken_by first_list_of taken_of untaken_of run_all
call_run run c = go (fits c.count (length c.answers))
  where
    go : (t : Bool) → (cond t (taken_of run (take c.count c.steps) c.answers) (untaken_of run c.answers)).0.run
        ≡ run_all run (cond t (take c.count c.steps) [])
    go true = refl
    go false = refl

events_append : (run : Run) (xs ys : List Step) → events run (xs ++ ys) ≡ events run xs ++ events (run_all run xs) ys
unfolding run_all
events_append run [] ys = refl
events_append run (x ∷ xs) ys = ap (λ (l : List Event). event run x ∷ l) (events_append (step_of run x).run xs ys)

pub call_events_are : (run : Run) (cs : List Call) → call_events run cs ≡ events run (taken_by_all cs)
call_events_are run [] = refl
call_events_are run (c ∷ cs) =
    ap (λ (l : List Event). events run (taken_by c) ++ l)
    (call_events_are (run_by run c) cs ∙ ap (λ (r : Run). events r (taken_by_all cs)) (call_run run c))
    ∙ sym (events_append run (taken_by c) (taken_by_all cs))

pub call_promise : (n k r b : ℕ) (cs : List Call) → Promise (call_events (start_of n k r b).run cs)
call_promise n k r b cs =
    subst (λ (l : List Event). Promise l) (sym (call_events_are (start_of n k r b).run cs)) (promise_always n k r b (taken_by_all cs))

-- ---- over a lent table

lent_call : (run : Run) (records : List Cabinet) (c : Call)
    → (lent_run_by run records c ≡ lent_run run records (taken_by c)) × (lent_table_by run records c ≡ lent_table run records (taken_by c))
unfolding taken_by lent_first_of lent_taken_of lent_untaken_of
lent_call run records c = go (fits c.count (length c.answers))
  where
    go : (t : Bool)
        → ((cond t (lent_taken_of run records (take c.count c.steps) c.answers) (lent_untaken_of run records c.answers)).0.run
        ≡ lent_run run records (cond t (take c.count c.steps) []))
        × ((cond t (lent_taken_of run records (take c.count c.steps) c.answers) (lent_untaken_of run records c.answers)).1
        ≡ lent_table run records (cond t (take c.count c.steps) []))
    go true = (refl, refl)
    go false = (refl, refl)

lent_append : (run : Run) (records : List Cabinet) (xs ys : List Step)
    → lent_events run records (xs ++ ys) ≡ lent_events run records xs ++ lent_events (lent_run run records xs) (lent_table run records xs) ys
lent_append run records [] ys = refl
lent_append run records (x ∷ xs) ys =
    ap (λ (l : List Event). lent_event run records x ∷ l) (lent_append (lent_of run records x).run (table_of run records x) xs ys)

pub lent_call_events_are : (run : Run) (records : List Cabinet) (cs : List Call)
    → lent_call_events run records cs ≡ lent_events run records (taken_by_all cs)
lent_call_events_are run records [] = refl
lent_call_events_are run records (c ∷ cs) =
    let z = lent_call run records c in
    ap (λ (l : List Event). lent_events run records (taken_by c) ++ l)
    (lent_call_events_are (lent_run_by run records c) (lent_table_by run records c) cs
    ∙ ap₂ (λ (r : Run) (l : List Cabinet). lent_events r l (taken_by_all cs)) z.0 z.1)
    ∙ sym (lent_append run records (taken_by c) (taken_by_all cs))

pub lent_call_promise : (n k r b : ℕ) (cs : List Call)
    → Promise (lent_call_events (start_of n k r b).run (fresh_table (start_of n k r b).run) cs)
lent_call_promise n k r b cs =
    let run : Run = (start_of n k r b).run in
    subst (λ (l : List Event). Promise l) (sym (lent_call_events_are run (fresh_table run) cs)) (lent_promise n k r b (taken_by_all cs))

-- ---- the call of a whole list takes its steps, and does what the list does

module _ (steps : List Step) (answers : List ℕ) where
  pub taken_by_whole : taken_by (whole_call steps answers) ≡ cond (fits (length steps) (length answers)) steps []
  unfolding taken_by
  taken_by_whole = ap (λ (ss : List Step). cond (fits (length steps) (length answers)) ss []) (take_all (length steps) steps (omega arith))

  pub run_by_whole : (run : Run) → run_by run (whole_call steps answers) ≡ (list_of run steps answers).0.run
  run_by_whole run = ap (λ (z : Listed × List ℕ). z.0.run) (first_whole run steps answers)

  module _ (run : Run) (records : List Cabinet) where
    pub lent_run_by_whole : lent_run_by run records (whole_call steps answers) ≡ (lent_list_of run records steps answers).0.run
    lent_run_by_whole = ap (λ (z : Listed × List Cabinet × List ℕ). z.0.run) (lent_first_whole run records steps answers)

    pub lent_table_by_whole : lent_table_by run records (whole_call steps answers) ≡ (lent_list_of run records steps answers).1
    lent_table_by_whole = ap (λ (z : Listed × List Cabinet × List ℕ). z.1) (lent_first_whole run records steps answers)
