-- A run's lists have the lengths of its arrays, and every step keeps them so. Assumes nothing.
use Rattle.std.proofs.Common.{ℕ, ◌<◌, Bool, List, ◌≡◌, refl, ap, ◌∙◌, arith, length, get_or, length-take, length-drop, length-set, length-append, get_or-set_same, get_or-set_other}
use Rattle.std.proofs.lemmas.Bool.Decides.{nat_tests}
use lib.ListN.{length-replicate, get_or-replicate}
use Rattle.limits.specs.Limits.{most_cabinets, most_clients, most_slots, most_versions}
use Rattle.run.specs.Names.{Cabinet, Change, Deed, Plan, Run, Step}
use Rattle.cabinet.specs.Cabinets.{fresh_cabinet, taken, offered, restarted, rolled_back}
use Rattle.cabinet.proofs.CabinetLaws.{rolled_by}
use Rattle.types.specs.Parts.{no_cabinet}
use Rattle.server.specs.Deeds.{deed_of}
use Rattle.run.specs.Start.{fresh_run}
use Rattle.run.specs.Steps.{done_at, changed, step_of}
use Rattle.run.proofs.FrameLaws.{go_by, step_by, step_lengths}

-- every cabinet of the nine has its eight places
abbrev pub Placed : List Cabinet → Type 0
Placed l = (p : ℕ) → p < most_cabinets → length (get_or l p no_cabinet).versions ≡ most_versions

pub record Shaped (run : Run) : Type 0 where
  pub cabinets : length run.cabinets ≡ most_cabinets
  pub clients : length run.clients ≡ most_clients
  pub slots : length run.slots ≡ most_slots
  pub versions : Placed run.cabinets

pub fresh_shaped : (plan : Plan) → Shaped (fresh_run plan)
unfolding fresh_run
fresh_shaped plan =
    record {
      cabinets = refl;
      clients = refl;
      slots = refl;
      versions = λ p h. ap (λ (k : Cabinet). length k.versions) (get_or-replicate most_cabinets p fresh_cabinet no_cabinet h);
    }

-- ---- a cabinet keeps its eight places, whatever is done to it

rolled_places : (stored : Bool) (j : ℕ) (k : Cabinet) → length k.versions ≡ most_versions
    → length (rolled_back stored j k).versions ≡ most_versions
rolled_places stored j k h =
    rolled_by (λ (c : Cabinet). length c.versions ≡ most_versions) stored j k h (λ s. refl)
    (λ s low. simp (length-append, length-drop, length-replicate) (omega arith))

deed_places : (plan : Plan) (p : ℕ) (d : Deed) (k : Cabinet) → length k.versions ≡ most_versions
    → length (deed_of plan p d k).versions ≡ most_versions
unfolding deed_of offered taken restarted
deed_places plan p d k h = grind (arith, length-take, length-set, length-replicate, rolled_places)

done_placed : (plan : Plan) (l : List Cabinet) (p : ℕ) (d : Deed) → length l ≡ most_cabinets → Placed l → Placed (done_at plan l p d)
unfolding done_at
done_placed plan l p d full h q low = grind (arith, nat_tests, get_or-set_same, get_or-set_other, deed_places, h)

-- ---- a run

changed_placed : (run : Run) (x : Change) → Shaped run → Placed (changed run x).cabinets
unfolding changed
changed_placed run x w q low = grind (arith, done_placed, w.versions)

pub step_shaped : (run : Run) (s : Step) → Shaped run → Shaped (step_of run s).run
step_shaped run s w =
    let same = step_lengths run s in
    record {
      cabinets = same.cabinets ∙ w.cabinets;
      clients = same.clients ∙ w.clients;
      slots = same.slots ∙ w.slots;
      versions = step_by run s (λ (r : Run). Placed r.cabinets) w.versions (go_by run s (λ (r : Run). Placed r.cabinets) w.versions (λ x. changed_placed run x w));
    }
