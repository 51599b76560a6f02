-- A reply that reaches its client, as a move of the view. Assumes nothing.
use Prim.Native.Nat.{ℕ, ◌≤◌, ◌<◌}
use mathlib.Core.Path.{◌≡◌, refl, ap, sym, ◌∙◌}
use mathlib.Core.Bool.{Bool, true, false, cond, not, true≢false}
use native.Mathlib.Omega.{arith}
use lib.Dec.{eqb, leb}
use borrow.Author.Tests.{eqb-true, leb-true}
use Rattle.limits.specs.Limits.{most_clients}
use Rattle.plan.proofs.RuleLaws.{both}
use Rattle.promise.specs.Names.{Body, Change, Client, Ending, Entry, Heard, Held, Message, None, Option, Reading, Run, Some, Step, Told, Work}
use Rattle.cabinet.specs.Entries.{factory_entry, reading_in}
use Rattle.heard.specs.Heard.{none_heard, has_of, with_of, how_many, count_of, within_of}
use Rattle.heard.proofs.HeardLaws.{with_within, count_within_is}
use Rattle.client.specs.Begin.{part_of}
use Rattle.client.specs.Hear.{told_stamp, told_entry, told_taken, told_by, awaits, told_of, best_of, chosen_by, discarded, counted, ended, first_write, first_read, second, hear_by, hears_of}
use Rattle.guard.specs.Damage.{heard_sound, work_sound}
use Rattle.guard.proofs.DamageLaws.{heard_says, client_says}
use Rattle.run.specs.Steps.{client_at, slot_at, changed}
use Rattle.run.proofs.SoundLaws.{undamaged_says, sound_client}
use Rattle.promise.specs.Events.{Kind, write, read, ending, finished, writes, reads}
use Rattle.promise.proofs.View.{second as second_part, Talk, ack, none, at, tells, Hears, Counts, Meets, hear, choose, find, count, finish}
use Rattle.promise.proofs.Count.{meet}
use Rattle.promise.proofs.Best.{with_plus, not_first, best_topped, best_either, best_kept}
use Rattle.promise.proofs.SimView.{all, talk_of, phase_of, view, QuorumIn, none_heard_is, by_hearing, now_hearing}
use Rattle.promise.proofs.SimRequest.{sim_empty}
use Rattle.promise.proofs.Good.{Good, most, outnumbers}
use Rattle.promise.proofs.Moves.{Moves, ending_event}

-- reply m, in slot j, to a client and from a cabinet that there are
module _ (run : Run) (G : Good run) (s : Step) (j : ℕ) (m : Message) (at_j : (slot_at run j).held ≡ Held.Reply m)
    (who : m.client < most_clients) (near : m.cabinet < run.plan.n) where
  abbrev i : ℕ
  i = m.client

  abbrev x : Client
  x = client_at run m.client

  abbrev heard : Heard
  heard = with_of x.heard m.cabinet

  -- the run in which the client has become this, and the slot is empty
  abbrev becomes : Work → Heard → Entry → Run
  becomes w h b = changed run (Change.Hearing i (record { operation = x.operation; work = w; heard = h; best = b }) j)

  discards : Moves run s (discarded j)
  discards = sim_empty (QuorumIn run.plan) run j

  -- it is awaited: its operation is the client's, its cabinet is new, and the heard set names cabinets of the line
  module _ (num : x.operation ≡ m.operation) (new : has_of x.heard m.cabinet ≡ false)
      (within : within_of x.heard run.plan.n ≡ true) where
    -- the client before the step and after it
    sees : (w : Work) → x.work ≡ w → (view run).client i ≡ at m.operation (phase_of w (has_of x.heard) x.best)
    unfolding view
    sees w e = rw e (ap (λ (n : ℕ). at n (phase_of w (has_of x.heard) x.best)) num)

    now : (w : Work) (h : Heard) (b : Entry) → (view (becomes w h b)).client i ≡ at m.operation (phase_of w (has_of h) b)
    now w h b = now_hearing run i _ (rw G.whole.shaped.clients who) j ∙ ap (λ (n : ℕ). at n (phase_of w (has_of h) b)) num

    now_none : (w : Work) (b : Entry) → (view (becomes w none_heard b)).client i ≡ at m.operation (phase_of w none b)
    now_none w b = now w none_heard b ∙ ap (λ (H : ℕ → Bool). at m.operation (phase_of w H b)) none_heard_is

    stays : (w : Work) (b : Entry) → x.work ≡ w
        → (view (becomes x.work heard b)).client i ≡ at m.operation (phase_of w (has_of heard) b)
    stays w b e = now x.work heard b ∙ ap (λ (z : Work). at m.operation (phase_of z (has_of heard) b)) e

    says : (b : Talk) → talk_of m.body ≡ b → (view run).air i m.operation m.cabinet b
    unfolding view
    says b e = (j, rw at_j (refl, refl, refl, e))

    hears : (k : Kind) (e : Entry) → talk_of m.body ≡ tells k e true
        → Hears (view run) i m.operation k (has_of x.heard) all x.best (has_of heard) all (best_of (count_of heard) x.best e)
    hears k e bd =
        record {
          from = m.cabinet;
          said = e;
          doubt = true;
          aired = says (tells k e true) bd;
          plus = with_plus x.heard m.cabinet;
          doubted = λ d. refl;
          doubts = λ q d. refl;
          kept = λ q h. best_kept (count_of heard) x.best e
              (not_first x.heard run.plan.n m.cabinet q (most G) within (omega (arith, most G)) new h);
          topped = best_topped (count_of heard) x.best e;
          either = best_either (count_of heard) x.best e;
        }

    -- how many were heard, counted along the line
    along : count_of heard ≡ how_many run.plan.n (has_of heard)
    along = count_within_is heard run.plan.n (most G) (with_within x.heard run.plan.n m.cabinet near within)

    meets : leb run.plan.read (count_of heard) ≡ true → Meets (QuorumIn run.plan) (view run) (has_of heard) all
    meets e W quorum =
        let enough : run.plan.read ≤ how_many run.plan.n (has_of heard) = omega (arith, leb-true run.plan.read (count_of heard) e, along) in
        let q = meet run.plan.n W (has_of heard) (view run).weak (omega (arith, quorum, outnumbers G)) in
        (q.0, q.2, q.3, λ a. true≢false (sym a.1 ∙ q.4))

    sim_stamp : (r : Reading) (e : Entry) → x.work ≡ Work.FirstWrite r → talk_of m.body ≡ tells write e true
        → Moves run s (first_write run.plan i j x heard r (best_of (count_of heard) x.best e))
    unfolding first_write
    sim_stamp r e wk bd = go (leb run.plan.read (count_of heard)) refl
      where
        b : Entry
        b = best_of (count_of heard) x.best e

        go : (t : Bool) → leb run.plan.read (count_of heard) ≡ t
            → Moves run s
            (cond t (ended i j x.operation Ending.Chosen (chosen_by i b r) Work.SecondWrite (chosen_by i b r)) (counted i j x heard b))
        go true t =
            rw (ending_event run j m at_j Ending.Chosen (chosen_by i b r)) (by_hearing (QuorumIn run.plan) run i _ j
            (choose m.operation (has_of x.heard) all (has_of heard) all x.best b (chosen_by i b r) (sees (Work.FirstWrite r) wk)
            (hears write e bd) (meets t) refl
            (now_none Work.SecondWrite (chosen_by i b r))))
        go false t =
            by_hearing (QuorumIn run.plan) run i _ j
            (hear m.operation (writes r) (has_of x.heard) all (has_of heard) all x.best b (sees (Work.FirstWrite r) wk) (hears write e bd)
            (stays (Work.FirstWrite r) b wk))

    sim_entry : (e : Entry) → x.work ≡ Work.FirstRead → talk_of m.body ≡ tells read e true
        → Moves run s (first_read run.plan i j x heard (best_of (count_of heard) x.best e))
    unfolding first_read
    sim_entry e wk bd = go (leb run.plan.read (count_of heard)) refl
      where
        b : Entry
        b = best_of (count_of heard) x.best e

        go : (t : Bool) → leb run.plan.read (count_of heard) ≡ t
            → Moves run s (cond t (ended i j x.operation Ending.Found b Work.SecondRead b) (counted i j x heard b))
        go true t =
            rw (ending_event run j m at_j Ending.Found b) (by_hearing (QuorumIn run.plan) run i _ j
            (find m.operation (has_of x.heard) all (has_of heard) all x.best b (sees Work.FirstRead wk) (hears read e bd) (meets t)
            (now_none Work.SecondRead b)))
        go false t =
            by_hearing (QuorumIn run.plan) run i _ j
            (hear m.operation reads (has_of x.heard) all (has_of heard) all x.best b (sees Work.FirstRead wk) (hears read e bd)
            (stays Work.FirstRead b wk))

    -- an acknowledgement, in a second part of either kind
    sim_ack : (k : Kind) (w : Work) (how : Ending) → x.work ≡ w → ((H : ℕ → Bool) → phase_of w H x.best ≡ second_part k H x.best)
        → ending how m x.best ≡ finished i m.operation k x.best → talk_of m.body ≡ ack
        → Moves run s (second run.plan i j x heard how)
    unfolding second
    sim_ack k w how wk ph ev bd = go (leb run.plan.write (count_of heard)) refl
      where
        counts : Counts (view run) i m.operation (has_of x.heard) (has_of heard)
        counts = record { from = m.cabinet; aired = says ack bd; plus = with_plus x.heard m.cabinet }

        before : (view run).client i ≡ at m.operation (second_part k (has_of x.heard) x.best)
        before = sees w wk ∙ ap (at m.operation) (ph (has_of x.heard))

        go : (t : Bool) → leb run.plan.write (count_of heard) ≡ t
            → Moves run s (cond t (ended i j x.operation how x.best Work.Idle factory_entry) (counted i j x heard x.best))
        go true t =
            rw (ending_event run j m at_j how x.best, ev) (by_hearing (QuorumIn run.plan) run i _ j
            (finish m.operation k (has_of x.heard) (has_of heard) x.best before counts
            (omega (arith, leb-true run.plan.write (count_of heard) t, along)) (now Work.Idle none_heard factory_entry)))
        go false t =
            by_hearing (QuorumIn run.plan) run i _ j
            (count m.operation k (has_of x.heard) (has_of heard) x.best before counts
            (stays w x.best wk ∙ ap (at m.operation) (ph (has_of heard))))

    -- ---- which reply each part awaits

    to_write : (r : Reading) (b : Body) → x.work ≡ Work.FirstWrite r → m.body ≡ b
        → Moves run s (hear_by (told_stamp r b) run.plan i j x heard)
    to_write r Body.AskStamp wk bd = discards
    to_write r Body.AskEntry wk bd = discards
    to_write r (Body.Offer e) wk bd = discards
    to_write r (Body.TellStamp t) wk bd = sim_stamp r (record { stamp = t; reading = Reading.Unknown }) wk (ap talk_of bd)
    to_write r (Body.TellEntry e) wk bd = discards
    to_write r Body.Acknowledge wk bd = discards

    to_read : (b : Body) → x.work ≡ Work.FirstRead → m.body ≡ b → Moves run s (hear_by (told_entry b) run.plan i j x heard)
    to_read Body.AskStamp wk bd = discards
    to_read Body.AskEntry wk bd = discards
    to_read (Body.Offer e) wk bd = discards
    to_read (Body.TellStamp t) wk bd = discards
    to_read (Body.TellEntry e) wk bd = sim_entry e wk (ap talk_of bd)
    to_read Body.Acknowledge wk bd = discards

    to_second : (t : Option Told) (b : Body) → m.body ≡ b → (talk_of m.body ≡ ack → Moves run s (hear_by t run.plan i j x heard))
        → Moves run s (hear_by (told_taken t b) run.plan i j x heard)
    to_second t Body.AskStamp bd h = discards
    to_second t Body.AskEntry bd h = discards
    to_second t (Body.Offer e) bd h = discards
    to_second t (Body.TellStamp u) bd h = discards
    to_second t (Body.TellEntry e) bd h = discards
    to_second t Body.Acknowledge bd h = h (ap talk_of bd)

  -- the damage check: an open part's heard set names cabinets of the line
  within : (quorum : ℕ) → heard_sound run.plan.n quorum x.heard ≡ true → within_of x.heard run.plan.n ≡ true
  within quorum h = (heard_says run.plan.n quorum x.heard h).0

  to_work : (w : Work) → x.work ≡ w → x.operation ≡ m.operation → has_of x.heard m.cabinet ≡ false
      → work_sound run.plan x.heard w ≡ true
      → Moves run s (hear_by (told_by w m.body) run.plan i j x heard)
  to_work Work.Idle wk num new h = discards
  to_work Work.Gone wk num new h = discards
  to_work (Work.FirstWrite r) wk num new h = to_write num new (within run.plan.read (both (reading_in r) _ h).1) r m.body wk refl
  to_work Work.FirstRead wk num new h = to_read num new (within run.plan.read h) m.body wk refl
  to_work Work.SecondWrite wk num new h =
      let w = within run.plan.write h in
      to_second num new w (Some Told.Wrote) m.body refl (sim_ack num new w write Work.SecondWrite Ending.Written wk (λ H. refl) refl)
  to_work Work.SecondRead wk num new h =
      let w = within run.plan.write h in
      to_second num new w (Some Told.ReadBack) m.body refl (sim_ack num new w read Work.SecondRead Ending.Read wk (λ H. refl) refl)

  not_yet : (b : Bool) → not b ≡ true → b ≡ false
  not_yet true h = absurd (true≢false (sym h))
  not_yet false h = refl

  open_sound : work_sound run.plan x.heard x.work ≡ true
  open_sound = (client_says run.plan run.steps i x (sound_client run (undamaged_says run G.whole.sound) i)).2

  pub sim_reply : Moves run s (hears_of run.plan j x m)
  unfolding hears_of told_of
  sim_reply = go (awaits x m) refl
    where
      go : (t : Bool) → awaits x m ≡ t → Moves run s (hear_by (cond t (told_by x.work m.body) None) run.plan i j x heard)
      go false e = discards
      go true e =
          let a = both (eqb x.operation m.operation) _ e in
          let b = both (eqb (part_of x.work) m.part) _ a.1 in
          to_work x.work refl (eqb-true x.operation m.operation a.0) (not_yet (has_of x.heard m.cabinet) b.1) open_sound
