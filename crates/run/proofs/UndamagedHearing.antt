-- A client that hears a reply stays sound. Assumes nothing.
use Rattle.std.proofs.Common.{ℕ, ◌+◌, ◌<◌, true, ◌≡◌, arith}
use Rattle.std.proofs.lemmas.Bool.Decides.{nat_tests}
use Rattle.limits.specs.Limits.{most_clients}
use Rattle.run.specs.Names.{Body, Client, Ending, Entry, Heard, Message, None, Option, Plan, Reading, Some, Told, Work}
use Rattle.plan.proofs.RuleLaws.{Quorums}
use Rattle.cabinet.specs.Entries.{reading_in}
use Rattle.heard.specs.Heard.{with_of, count_of, within_of}
use Rattle.heard.proofs.HeardLaws.{with_within}
use Rattle.client.specs.Hear.{told_by, told_of, best_of, chosen_by, first_write, first_read, second, hear_by, hears_of}
use Rattle.guard.specs.Damage.{entry_sound, address_sound, work_sound, client_sound}
use Rattle.guard.proofs.DamageLaws.{stamp_says, stamp_made, entry_says, entry_made, entry_mono, factory_made, heard_says, heard_made, client_says, client_made}
use Rattle.guard.proofs.MessageLaws.{Tells, address_says}
use Rattle.run.proofs.UndamagedChanges.{Keeps, of_slot, of_hearing, empty_sound}
use Rattle.run.proofs.UndamagedClients.{none_sound}

-- ---- what is told

-- what is told is sound, and of the part that is open
abbrev Fair : Plan → ℕ → Client → Option Told → Type 0
Fair plan steps c None = Unit {0}
Fair plan steps c (Some (Told.OfWrite r e)) =
    (c.work ≡ Work.FirstWrite r) × (entry_sound steps e ≡ true) × (reading_in r ≡ true) × (within_of c.heard plan.n ≡ true)
Fair plan steps c (Some (Told.OfRead e)) = (c.work ≡ Work.FirstRead) × (entry_sound steps e ≡ true) × (within_of c.heard plan.n ≡ true)
Fair plan steps c (Some Told.Wrote) = (c.work ≡ Work.SecondWrite) × (within_of c.heard plan.n ≡ true)
Fair plan steps c (Some Told.ReadBack) = (c.work ≡ Work.SecondRead) × (within_of c.heard plan.n ≡ true)

module _ (plan : Plan) (steps part : ℕ) (c : Client) where
  work_fair : (w : Work) (b : Body) → c.work ≡ w → work_sound plan c.heard w ≡ true → Tells steps part b → Fair plan steps c (told_by w b)
  work_fair w b e h t = grind (arith, nat_tests, entry_made, heard_says)

told_fair : (plan : Plan) (steps i : ℕ) (c : Client) (m : Message) → client_sound plan steps i c ≡ true → Tells steps m.part m.body
    → Fair plan steps c (told_of c m)
unfolding told_of
told_fair plan steps i c m sound t = grind (arith, work_fair, client_says)

-- ---- what is made of it

best_sound : (steps heard : ℕ) (best e : Entry) → entry_sound steps best ≡ true → entry_sound steps e ≡ true
    → entry_sound steps (best_of heard best e) ≡ true
unfolding best_of
best_sound steps heard best e h k = grind arith

-- the chosen stamp is one above a sound one, and its writer is the client
chosen_sound : (steps i : ℕ) (best : Entry) (r : Reading) → i < most_clients → entry_sound steps best ≡ true → reading_in r ≡ true
    → entry_sound (steps + 1) (chosen_by i best r) ≡ true
chosen_sound steps i best r who h k = grind (arith, stamp_says, entry_says, entry_made, stamp_made)

module _ (plan : Plan) (steps i j : ℕ) (c : Client) (q : Quorums plan) (who : i < most_clients) (sound : client_sound plan steps i c ≡ true) where
  module _ (h : Heard) (near : within_of h plan.n ≡ true) where
    first_write_keeps : (r : Reading) (best : Entry) → c.work ≡ Work.FirstWrite r → reading_in r ≡ true → entry_sound steps best ≡ true
        → Keeps plan (steps + 1) (first_write plan i j c h r best)
    unfolding first_write
    first_write_keeps r best w k e = grind (arith, nat_tests, of_hearing, client_says, client_made, entry_mono, none_sound, chosen_sound, heard_made)

    first_read_keeps : (best : Entry) → c.work ≡ Work.FirstRead → entry_sound steps best ≡ true
        → Keeps plan (steps + 1) (first_read plan i j c h best)
    unfolding first_read
    first_read_keeps best w e = grind (arith, nat_tests, of_hearing, client_says, client_made, entry_mono, none_sound, heard_made)

    -- both second parts wait for the write quorum
    second_keeps : (how : Ending) → (count_of h < plan.write → work_sound plan h c.work ≡ true)
        → Keeps plan (steps + 1) (second plan i j c h how)
    unfolding second
    second_keeps how w = grind (arith, nat_tests, of_hearing, client_says, client_made, entry_mono, factory_made)

module _ (plan : Plan) (steps j : ℕ) (c : Client) (m : Message) (q : Quorums plan) (sound : client_sound plan steps m.client c ≡ true) (address : address_sound plan.n steps m ≡ true) where
  abbrev next : Heard
  next = with_of c.heard m.cabinet

  near : within_of c.heard plan.n ≡ true → within_of next plan.n ≡ true
  near w = with_within c.heard plan.n m.cabinet (address_says plan.n steps m address).2 w

  told_keeps : (d : Option Told) → Fair plan steps c d → Keeps plan (steps + 1) (hear_by d plan m.client j c next)
  told_keeps d f =
      grind (arith, of_slot, empty_sound, address_says, best_sound, client_says, near, heard_made, first_write_keeps, first_read_keeps, second_keeps)

  pub hears_keeps : Tells steps m.part m.body → Keeps plan (steps + 1) (hears_of plan j c m)
  unfolding hears_of
  hears_keeps t = told_keeps (told_of c m) (told_fair plan steps m.client c m sound t)
