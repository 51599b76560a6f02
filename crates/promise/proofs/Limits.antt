-- Every reached run is undamaged, has at most r cabinets marked, and no stamp's counter and no operation number above its accepted steps.
-- Each is a law of crate run; here they stand together. Assumes nothing.
use Prim.Native.Nat.{ℕ, ◌+◌, ◌≤◌}
use mathlib.Core.Path.{◌≡◌}
use mathlib.Core.Bool.{true}
use mathlib.Core.List.{List}
use lib.ListN.{get_or}
use Rattle.cabinet.specs.Entries.{factory_entry}
use Rattle.promise.specs.Names.{Err, Ok, Outcome, Refusal, Run, Step}
use Rattle.run.specs.Lists.{run_all}
use Rattle.run.specs.Start.{start_of}
use Rattle.run.specs.Steps.{client_at, slot_at, cabinet_at, step_of}
use Rattle.run.specs.Undamaged.{undamaged}
use Rattle.promise.proofs.CounterLaws.{held_operation, held_counter, client_operation, client_counter, message_operation, message_counter, version_counter}
use Rattle.run.proofs.FrameLaws.{step_refused, step_accepted}
use Rattle.promise.proofs.MarkedLaws.{marked_in, at_most_r}
use Rattle.run.proofs.UndamagedLaws.{reached}

pub record Limits (r : ℕ) (run : Run) : Type 0 where
  pub whole : undamaged run ≡ true
  pub marks : marked_in run.cabinets ≤ r
  -- stamps' counters: of every version of every cabinet, of what each client has or offers, of each message
  pub versions : (p i : ℕ) → (get_or (cabinet_at run p).versions i factory_entry).stamp.counter ≤ run.steps
  pub bests : (c : ℕ) → (client_at run c).best.stamp.counter ≤ run.steps
  pub messages : (j : ℕ) → held_counter (slot_at run j).held ≤ run.steps
  -- operation numbers: of each client, of each message
  pub operations : (c : ℕ) → (client_at run c).operation ≤ run.steps
  pub numbers : (j : ℕ) → held_operation (slot_at run j).held ≤ run.steps
  -- an accepted step is counted, a refused one changes nothing
  pub accepted : (s : Step) (o : Outcome) → (step_of run s).answer ≡ Ok o → (step_of run s).run.steps ≡ run.steps + 1
  pub refused : (s : Step) (why : Refusal) → (step_of run s).answer ≡ Err why → (step_of run s).run ≡ run

-- whatever numbers were planned with, whatever steps followed
pub limits : (n k r b : ℕ) (ss : List Step) → Limits r (run_all (start_of n k r b).run ss)
limits n k r b ss =
    let run = run_all (start_of n k r b).run ss in
    let sound = (reached n k r b ss).sound in
    record {
      whole = sound;
      marks = at_most_r n k r b ss;
      versions = version_counter run sound;
      bests = client_counter run sound;
      messages = message_counter run sound;
      operations = client_operation run sound;
      numbers = message_operation run sound;
      accepted = step_accepted run;
      refused = step_refused run;
    }
