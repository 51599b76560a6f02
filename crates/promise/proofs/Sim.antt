-- Every step of a good run, refused ones included, is one move of its view. Assumes nothing.
use Prim.Native.Nat.{ℕ, ◌+◌, ◌-◌, ◌<◌}
use mathlib.Core.Path.{◌≡◌, refl, ap, sym, subst, ◌∙◌}
use mathlib.Core.Bool.{Bool, true, false, cond, ◌||◌, true≢false}
use native.Mathlib.Omega.{arith}
use lib.Dec.{leb, ltb}
use Rattle.limits.specs.Limits.{most_cabinets, most_clients, most_slots}
use Rattle.plan.proofs.RuleLaws.{both}
use Rattle.promise.specs.Names.{Asked, Body, Change, Decision, Deed, Err, Held, Message, Ok, Outcome, Power, Refusal, Run, Standing, Step, Work}
use Rattle.cabinet.specs.Cabinets.{goes_back}
use Rattle.cabinet.specs.Entries.{factory_entry}
use Rattle.heard.specs.Heard.{none_heard, has_of}
use Rattle.types.specs.Parts.{sight_of, stored_in}
use Rattle.client.specs.Begin.{standing_of, opened, gone, begins_by, begins_of, sends_by, sends_of, leaving, leaves_by, leaves_of, request_slot}
use Rattle.admit.specs.Admit.{one_to, in_range, placed}
use Rattle.server.specs.Deeds.{stops_when, rolls_of}
use Rattle.server.specs.Requests.{answers_by, answers_when, answers_of, unanswered}
use Rattle.admit.proofs.AdmitLaws.{one_to_is, admitted_by}
use Rattle.guard.proofs.MessageLaws.{HeldIs, address_says}
use Rattle.run.specs.Gather.{first_from, others_from}
use Rattle.run.specs.Steps.{client_at, slot_at, cabinet_at, loses_by, delivers_in, decide_of, changed, go_of, step_of}
use Rattle.run.proofs.FitLaws.{holds}
use Rattle.run.proofs.FrameLaws.{step_is_go}
use Rattle.promise.specs.Events.{Event, begun, beginning, event, Aim, writes, reads}
use Rattle.promise.proofs.View.{Phase, idle, first, Seat, none, at, begin, leave, Move}
use Rattle.promise.proofs.SimView.{all, phase_of, view, seat_seen, QuorumIn, none_heard_is, by_client, now_client}
use Rattle.promise.proofs.SimCabinet.{sim_stop, sim_restart, sim_rollback, sim_offer}
use Rattle.promise.proofs.SimRequest.{sim_send, sim_empty, sim_tell_stamp, sim_tell_entry}
use Rattle.promise.proofs.SimReply.{sim_reply}
use Rattle.promise.proofs.Good.{Good, most, no_store}
use Rattle.promise.proofs.Moves.{Moves, refused_stays}

-- from 1 to the most, counted from 0
from_zero : (n k : ℕ) → one_to n k ≡ true → k - 1 < n
from_zero n k h = let a = one_to_is n k h in omega arith

module _ (run : Run) (G : Good run) (s : Step) where
  abbrev Quorum : (ℕ → Bool) → Type 0
  Quorum = QuorumIn run.plan

  lost : (j : ℕ) → Moves run s (unanswered j)
  lost j = sim_empty Quorum run j

  -- ---- a client begins, sends, leaves

  stands_free : (w : Work) → standing_of w ≡ Standing.Free → w ≡ Work.Idle
  stands_free Work.Idle h = refl
  stands_free Work.Gone h = absurd (let z : ◌≡◌ {A = ℕ} 0 1 = cc in omega arith)
  stands_free (Work.FirstWrite r) h = absurd (let z : ◌≡◌ {A = ℕ} 0 1 = cc in omega arith)
  stands_free Work.FirstRead h = absurd (let z : ◌≡◌ {A = ℕ} 0 1 = cc in omega arith)
  stands_free Work.SecondWrite h = absurd (let z : ◌≡◌ {A = ℕ} 0 1 = cc in omega arith)
  stands_free Work.SecondRead h = absurd (let z : ◌≡◌ {A = ℕ} 0 1 = cc in omega arith)

  sim_begin : (i : ℕ) (k : Aim) (w : Work) → i < most_clients → ((H : ℕ → Bool) → phase_of w H factory_entry ≡ first k H all factory_entry)
      → ((after : Run) → beginning s after ≡ begun i (client_at after i).operation k) → Moves run s (begins_of i (client_at run i) w)
  unfolding begins_of
  sim_begin i k w low ph ev = go (standing_of (client_at run i).work) refl
    where
      n : ℕ
      n = (client_at run i).operation

      after : Run
      after = changed run (Change.OfClient i (opened (client_at run i) w))

      before : standing_of (client_at run i).work ≡ Standing.Free → (view run).client i ≡ at n idle
      before e =
          seat_seen run i
          ∙ ap (λ (z : Work). at n (phase_of z (has_of (client_at run i).heard) (client_at run i).best)) (stands_free (client_at run i).work e)

      now : (view after).client i ≡ at (n + 1) (first k none all factory_entry)
      now =
          now_client run i (opened (client_at run i) w) (rw G.whole.shaped.clients low)
          ∙ ap (at (n + 1)) (ph (has_of none_heard))
          ∙ ap (λ (H : ℕ → Bool). at (n + 1) (first k H all factory_entry)) none_heard_is

      go : (t : Standing) → standing_of (client_at run i).work ≡ t → Moves run s (begins_by t i (client_at run i) w)
      go Standing.Free e =
          subst (λ (l : Event). Move Quorum (view run) (view after) l)
          (sym (ev after ∙ ap (λ (c : Seat). begun i c.number k) (sym (seat_seen after i) ∙ now)))
          (by_client Quorum run i (opened (client_at run i) w)
          (begin n k all (before e) now))
      go Standing.Away e = refused_stays run
      go Standing.Busy e = refused_stays run

  sim_sends : (i q j : ℕ) → Moves run s (sends_of i q (client_at run i) j)
  unfolding sends_of
  sim_sends i q j = go (standing_of (client_at run i).work) refl
    where
      room : standing_of (client_at run i).work ≡ Standing.Busy → (t : Bool)
          → Moves run s
          (cond t (Decision.No Refusal.Full) (Decision.Yes (Outcome.Sent (j + 1)) (Change.OfSlot j (request_slot i q (client_at run i)))))
      room e true = refused_stays run
      room e false = sim_send Quorum run i q j e

      go : (t : Standing) → standing_of (client_at run i).work ≡ t → Moves run s (sends_by t i q (client_at run i) j)
      go Standing.Free e = refused_stays run
      go Standing.Away e = refused_stays run
      go Standing.Busy e = room e (leb most_slots j)

  sim_leaves : (i : ℕ) → i < most_clients → Moves run s (leaves_of i (client_at run i))
  unfolding leaves_of
  sim_leaves i low = go (standing_of (client_at run i).work)
    where
      left : Moves run s (leaving i (client_at run i))
      left =
          by_client Quorum run i (gone (client_at run i))
          (leave (now_client run i (gone (client_at run i)) (rw G.whole.shaped.clients low)
          ∙ ap (λ (c : Seat). at c.number Phase.gone) (sym (seat_seen run i))))

      go : (t : Standing) → Moves run s (leaves_by t i (client_at run i))
      go Standing.Free = left
      go Standing.Away = refused_stays run
      go Standing.Busy = left

  -- ---- a request is delivered

  sim_asked : (j : ℕ) (m : Message) → (slot_at run j).held ≡ Held.Request m → m.cabinet < run.plan.n
      → Moves run s (answers_of j m (sight_of (cabinet_at run m.cabinet)))
  unfolding answers_of cabinet_at
  sim_asked j m at_j near = go (cabinet_at run m.cabinet).power refl
    where
      low : m.cabinet < most_cabinets
      low = omega (arith, most G)

      -- up, or stale
      by : (b : Body) (stale : Bool) → m.body ≡ b → (stale ≡ false → (cabinet_at run m.cabinet).power ≡ Power.Up)
          → Moves run s (answers_by b stale j m (sight_of (cabinet_at run m.cabinet)))
      by Body.AskStamp true bd up = lost j
      by Body.AskStamp false bd up = sim_tell_stamp Quorum run j m at_j (up refl) bd
      by Body.AskEntry true bd up = lost j
      by Body.AskEntry false bd up = sim_tell_entry Quorum run j m at_j (up refl) bd
      by (Body.Offer e) stale bd up =
          sim_offer Quorum run j m e at_j bd (rw G.whole.shaped.cabinets low) (G.whole.shaped.versions m.cabinet low)
      by (Body.TellStamp t) stale bd up = lost j
      by (Body.TellEntry e) stale bd up = lost j
      by Body.Acknowledge stale bd up = lost j

      go : (u : Power) → (cabinet_at run m.cabinet).power ≡ u → Moves run s (answers_when u j m (sight_of (cabinet_at run m.cabinet)))
      go Power.Down e = lost j
      go Power.Up e = by m.body false refl (λ h. e)
      go Power.Stale e = by m.body true refl (λ h. absurd (true≢false h))

  -- ---- deliver, lose

  sim_delivers : (j : ℕ) → Moves run s (decide_of run (Ok (Asked.Delivers j)))
  unfolding decide_of
  sim_delivers j = go (slot_at run j).held refl (holds run G.whole.sound j)
    where
      go : (h : Held) → (slot_at run j).held ≡ h → HeldIs run.plan.n run.steps h
          → Moves run s (delivers_in run j h)
      go Held.Empty e f = refused_stays run
      go (Held.Request m) e f = sim_asked j m e (address_says run.plan.n run.steps m f.0).2
      go (Held.Reply m) e f = let a = address_says run.plan.n run.steps m f.0 in sim_reply run G s j m e a.1 a.2

  sim_loses : (j : ℕ) → Moves run s (decide_of run (Ok (Asked.Loses j)))
  unfolding decide_of
  sim_loses j = go (slot_at run j).held
    where
      go : (h : Held) → Moves run s (loses_by h j)
      go Held.Empty = refused_stays run
      go (Held.Request m) = lost j
      go (Held.Reply m) = lost j

  -- ---- stop, restart, rollback

  sim_stops : (q : ℕ) → Moves run s (decide_of run (Ok (Asked.Stops q)))
  unfolding decide_of
  sim_stops q = go (cabinet_at run q).power
    where
      go : (u : Power) → Moves run s (stops_when u q)
      go Power.Down = refused_stays run
      go Power.Up = sim_stop Quorum run q
      go Power.Stale = sim_stop Quorum run q

  sim_restarts : (q : ℕ) → Moves run s (decide_of run (Ok (Asked.Restarts q)))
  unfolding decide_of
  sim_restarts q = sim_restart Quorum run q (λ e. no_store G e q)

  sim_rolls : (q j : ℕ) → Moves run s (decide_of run (Ok (Asked.RollsBack q j)))
  unfolding decide_of rolls_of
  sim_rolls q j =
      go (goes_back (stored_in run.plan q) j (cabinet_at run q))
      ((cabinet_at run q).marked || ltb (others_from q 0 run.cabinets) run.plan.r)
    where
      go : (t u : Bool)
          → Moves run s
          (cond t (cond u (Decision.Yes Outcome.RolledBack (Change.OfCabinet q (Deed.GoBack j))) (Decision.No Refusal.TooMany)) (Decision.No Refusal.NoVersion))
      go true true = sim_rollback Quorum run q (λ e. no_store G e q) j
      go true false = refused_stays run
      go false u = refused_stays run

module _ (run : Run) (G : Good run) where
  -- a step in range, by its kind
  sim_placed : (s : Step) → in_range run.plan.n s ≡ true → Moves run s (decide_of run (placed s))
  unfolding in_range placed decide_of
  sim_placed Step.Other h = refused_stays run
  sim_placed (Step.Write c r) h =
      sim_begin run G (Step.Write c r) (c - 1) (writes r) (Work.FirstWrite r) (from_zero most_clients c (both (one_to most_clients c) _ h).0)
      (λ H. refl) (λ after. refl)
  sim_placed (Step.Read c) h =
      sim_begin run G (Step.Read c) (c - 1) reads Work.FirstRead (from_zero most_clients c h) (λ H. refl) (λ after. refl)
  sim_placed (Step.Send c k) h = sim_sends run G (Step.Send c k) (c - 1) (k - 1) (first_from 0 run.slots)
  sim_placed (Step.Deliver j) h = sim_delivers run G (Step.Deliver j) (j - 1)
  sim_placed (Step.Lose j) h = sim_loses run G (Step.Lose j) (j - 1)
  sim_placed (Step.Stop k) h = sim_stops run G (Step.Stop k) (k - 1)
  sim_placed (Step.Leave c) h = sim_leaves run G (Step.Leave c) (c - 1) (from_zero most_clients c h)
  sim_placed (Step.Restart k) h = sim_restarts run G (Step.Restart k) (k - 1)
  sim_placed (Step.Rollback k j) h = sim_rolls run G (Step.Rollback k j) (k - 1) j

  sim_barred : (s : Step) (why : Refusal) → Moves run s (decide_of run (Err why))
  unfolding decide_of
  sim_barred s why = refused_stays run

  -- every step, by range and limit first
  pub sim : (s : Step) → Move (QuorumIn run.plan) (view run) (view (step_of run s).run) (event run s)
  unfolding event go_of
  sim s =
      rw (step_is_go run s G.whole.sound)
      (admitted_by run.plan.n run.steps s (λ a. Moves run s (decide_of run a)) (sim_barred s) (λ e l. sim_placed s e))
