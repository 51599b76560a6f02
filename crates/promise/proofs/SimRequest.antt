-- A request that is sent, and a cabinet that tells its stamp or entry, as moves of the view. Assumes nothing.
use Prim.Native.Nat.{ℕ}
use mathlib.Core.Path.{◌≡◌, refl, ap}
use mathlib.Core.Bool.{Bool, true, false≢true}
use native.Mathlib.Omega.{arith}
use Rattle.promise.specs.Names.{Body, Cabinet, Change, Held, Message, Power, Profile, Run, Standing, Work}
use Rattle.cabinet.specs.Cabinets.{present_of}
use Rattle.heard.specs.Heard.{has_of}
use Rattle.types.specs.Parts.{stored_in, empty_slot}
use Rattle.client.specs.Begin.{standing_of, request_body, request_of, request_slot}
use Rattle.server.specs.Requests.{reply_slot}
use Rattle.run.specs.Steps.{client_at, slot_at, cabinet_at, changed}
use Rattle.promise.specs.Events.{write, read, nothing}
use Rattle.promise.proofs.View.{ask, View, Answers, New, Move}
use Rattle.promise.proofs.SimView.{talk_of, lapsed_in, weak_in, view, by_slot, named}

-- ---- a client's open request goes on the air

sent_why : (run : Run) (z : View) (c p : ℕ) (w : Work) → (client_at run c).work ≡ w → standing_of w ≡ Standing.Busy
    → New (view run) z c (client_at run c).operation p (talk_of (request_body w (client_at run c).best))
unfolding view
sent_why run z c p Work.Idle e o = absurd (let z : ◌≡◌ {A = ℕ} 0 1 = cc in omega arith)
sent_why run z c p Work.Gone e o = absurd (let z : ◌≡◌ {A = ℕ} 0 1 = cc in omega arith)
sent_why run z c p (Work.FirstWrite r) e o = refl
sent_why run z c p Work.FirstRead e o = refl
sent_why run z c p Work.SecondWrite e o = (write, has_of (client_at run c).heard, rw e refl)
sent_why run z c p Work.SecondRead e o = (read, has_of (client_at run c).heard, rw e refl)

pub sim_send : (Quorum : (ℕ → Bool) → Type 0) (run : Run) (c p j : ℕ) → standing_of (client_at run c).work ≡ Standing.Busy
    → Move Quorum (view run) (view (changed run (Change.OfSlot j (request_slot c p (client_at run c))))) nothing
sim_send Quorum run c p j o =
    let after : View = view (changed run (Change.OfSlot j (request_slot c p (client_at run c)))) in
    by_slot Quorum run j (request_slot c p (client_at run c))
    (λ d n q b k. named (view run) after (request_of c p (client_at run c)) d n q b k (sent_why run after c p (client_at run c).work refl o))

-- ---- a slot is emptied

pub sim_empty : (Quorum : (ℕ → Bool) → Type 0) (run : Run) (j : ℕ)
    → Move Quorum (view run) (view (changed run (Change.OfSlot j empty_slot))) nothing
sim_empty Quorum run j = by_slot Quorum run j empty_slot (λ c n p b h. absurd h)

-- ---- a cabinet that is up tells

up_answers : (f : Profile) (stored : Bool) (k : Cabinet) → k.power ≡ Power.Up → lapsed_in f stored k ≡ true
    → (◌≡◌ {A = Bool} true true) × (weak_in f stored k ≡ true)
up_answers Profile.Forgetful stored k u h = absurd (false≢true (rw u at h))
up_answers Profile.Store stored k u h = (refl, h)

module _ (Quorum : (ℕ → Bool) → Type 0) (run : Run) (j : ℕ) (m : Message) (at_j : (slot_at run j).held ≡ Held.Request m)
    (up : (cabinet_at run m.cabinet).power ≡ Power.Up) where
  asked : talk_of m.body ≡ ask → (view run).air m.client m.operation m.cabinet ask
  unfolding view
  asked e = (j, rw at_j (refl, refl, refl, e))

  answers : Answers (view run) m.cabinet true
  unfolding view
  answers = up_answers run.plan.profile (stored_in run.plan m.cabinet) (cabinet_at run m.cabinet) up

  abbrev reply : Body → Message
  reply b = record { operation = m.operation; client = m.client; part = m.part; cabinet = m.cabinet; body = b }

  pub sim_tell_stamp : m.body ≡ Body.AskStamp
      → Move Quorum (view run)
      (view (changed run (Change.OfSlot j (reply_slot m (Body.TellStamp (present_of (cabinet_at run m.cabinet)).stamp))))) nothing
  unfolding view
  sim_tell_stamp bd =
      let after : View = view (changed run (Change.OfSlot j (reply_slot m (Body.TellStamp (present_of (cabinet_at run m.cabinet)).stamp)))) in
      by_slot Quorum run j (reply_slot m (Body.TellStamp (present_of (cabinet_at run m.cabinet)).stamp))
      (λ c n q b k. named (view run) after (reply (Body.TellStamp (present_of (cabinet_at run m.cabinet)).stamp)) c n q b k
      (asked (ap talk_of bd), refl, answers, present_of (cabinet_at run m.cabinet), (0, refl), refl))

  pub sim_tell_entry : m.body ≡ Body.AskEntry
      → Move Quorum (view run)
      (view (changed run (Change.OfSlot j (reply_slot m (Body.TellEntry (present_of (cabinet_at run m.cabinet))))))) nothing
  unfolding view
  sim_tell_entry bd =
      let after : View = view (changed run (Change.OfSlot j (reply_slot m (Body.TellEntry (present_of (cabinet_at run m.cabinet)))))) in
      by_slot Quorum run j (reply_slot m (Body.TellEntry (present_of (cabinet_at run m.cabinet))))
      (λ c n q b k. named (view run) after (reply (Body.TellEntry (present_of (cabinet_at run m.cabinet)))) c n q b k
      (asked (ap talk_of bd), refl, answers, (0, refl)))
