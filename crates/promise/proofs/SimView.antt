-- The view of a run, and each kind of change that a step makes of a run as a move of its view. Assumes nothing.
use Prim.Native.Nat.{ℕ, zero, suc, ◌≤◌, ◌<◌}
use mathlib.Core.Path.{◌≡◌, refl, ap, subst, fun_ext}
use mathlib.Core.Bool.{Bool, true, false, not, ◌||◌}
use mathlib.Core.List.{List, [], ◌∷◌}
use mathlib.Core.Logic.{◌⊎◌, inl, inr, ⊎_elim}
use lib.ListN.{get_or, set, length}
use lib.Seq.{get_or-set_same}
use Rattle.promise.specs.Names.{Body, Cabinet, Change, Client, Entry, Held, Message, Plan, Profile, Run, Slot, Work}
use Rattle.cabinet.specs.Cabinets.{present_of}
use Rattle.cabinet.specs.Entries.{factory_entry}
use Rattle.heard.specs.Heard.{none_heard, has_of, how_many}
use Rattle.heard.proofs.HeardLaws.{none_has}
use Rattle.types.specs.Parts.{empty_slot, fresh_client, stored_in}
use Rattle.guard.specs.Damage.{is_up}
use Rattle.run.specs.Steps.{client_at, slot_at, cabinet_at, changed}
use Rattle.promise.specs.Events.{write, read, Event, nothing, writes, reads}
use Rattle.promise.proofs.Stamps.{⊑_refl}
use Rattle.promise.proofs.View.{Phase, idle, gone, first, second, Seat, Talk, ask, offer, stamp_is, entry_is, ack, View, none, at, New, Act, Move, radio, client}

-- ---- the view

-- every reply leaves room for doubt
abbrev pub all : ℕ → Bool
all p = true

abbrev pub talk_of : Body → Talk
talk_of Body.AskStamp = ask
talk_of Body.AskEntry = ask
talk_of (Body.Offer e) = offer e
talk_of (Body.TellStamp s) = stamp_is s true
talk_of (Body.TellEntry e) = entry_is e true
talk_of Body.Acknowledge = ack

abbrev pub phase_of : Work → (ℕ → Bool) → Entry → Phase
phase_of Work.Idle H b = idle
phase_of Work.Gone H b = gone
phase_of (Work.FirstWrite r) H b = first (writes r) H all b
phase_of Work.FirstRead H b = first reads H all b
phase_of Work.SecondWrite H b = second write H b
phase_of Work.SecondRead H b = second read H b

abbrev pub seat_of : Client → Seat
seat_of x = at x.operation (phase_of x.work (has_of x.heard) x.best)

abbrev pub Says : ℕ → ℕ → ℕ → Talk → Message → Type 0
Says c n p b m = (m.client ≡ c) × (m.operation ≡ n) × (m.cabinet ≡ p) × (talk_of m.body ≡ b)

abbrev pub Carries : ℕ → ℕ → ℕ → Talk → Held → Type 0
Carries c n p b Held.Empty = ⊥
Carries c n p b (Held.Request m) = Says c n p b m
Carries c n p b (Held.Reply m) = Says c n p b m

-- forgetful: a cabinet that ever stopped or restarted has lapsed, and does not tell, so none is weak; store: one that was marked or has no
-- store has lapsed and still tells, so it is weak
abbrev pub lapsed_in : Profile → Bool → Cabinet → Bool
lapsed_in Profile.Forgetful stored k = not (is_up k.power)
lapsed_in Profile.Store stored k = not stored || k.marked

abbrev pub weak_in : Profile → Bool → Cabinet → Bool
weak_in Profile.Forgetful stored k = false
weak_in Profile.Store stored k = not stored || k.marked

unfoldable pub view : Run → View
view run =
    record {
      stamp = λ p. (present_of (cabinet_at run p)).stamp;
      lapsed = λ p. lapsed_in run.plan.profile (stored_in run.plan p) (cabinet_at run p);
      weak = λ p. weak_in run.plan.profile (stored_in run.plan p) (cabinet_at run p);
      holds = λ p e. (i : ℕ) × (get_or (cabinet_at run p).versions i factory_entry ≡ e);
      client = λ c. seat_of (client_at run c);
      air = λ c n p b. (j : ℕ) × Carries c n p b (slot_at run j).held;
    }

pub seat_seen : (run : Run) (c : ℕ) → (view run).client c ≡ seat_of (client_at run c)
unfolding view
seat_seen run c = refl

-- a write quorum of the plan
abbrev pub QuorumIn : Plan → (ℕ → Bool) → Type 0
QuorumIn plan W = plan.write ≤ how_many plan.n W

pub none_heard_is : ◌≡◌ {A = ℕ → Bool} (has_of none_heard) none
none_heard_is = fun_ext none_has

-- ---- lists

-- an element of a list in which one was set
pub set_cases : {A : Type 0} (l : List A) (i : ℕ) (a d : A) (j : ℕ)
    → (get_or (set l i a) j d ≡ get_or l j d) ⊎ ((j ≡ i) × (get_or (set l i a) j d ≡ a))
set_cases [] i a d j = inl refl
set_cases (x ∷ l) zero a d zero = inr (refl, refl)
set_cases (x ∷ l) zero a d (suc j) = inl refl
set_cases (x ∷ l) (suc i) a d zero = inl refl
set_cases (x ∷ l) (suc i) a d (suc j) = ⊎_elim inl (λ h. inr (ap suc h.0, h.1)) (set_cases l i a d j)

set_other : {A : Type 0} (l : List A) (i : ℕ) (a d : A) (j : ℕ) → (j ≡ i) ⊎ (get_or (set l i a) j d ≡ get_or l j d)
set_other l i a d j = ⊎_elim inr (λ h. inl h.0) (set_cases l i a d j)

-- what a slot carries after one was set: what it carried, or what was put there
pub carried : (l : List Slot) (j : ℕ) (t : Slot) (c n p : ℕ) (b : Talk) (i : ℕ) → Carries c n p b (get_or (set l j t) i empty_slot).held
    → Carries c n p b (get_or l i empty_slot).held ⊎ Carries c n p b t.held
carried l j t c n p b i h =
    ⊎_elim (λ e. inl (subst (λ (x : Slot). Carries c n p b x.held) e h)) (λ e. inr (subst (λ (x : Slot). Carries c n p b x.held) e.1 h))
    (set_cases l j t empty_slot i)

-- ---- changes of a client

module _ (Quorum : (ℕ → Bool) → Type 0) (run : Run) (i : ℕ) (x : Client) where
  pub by_client : {l : Event} → Act Quorum (view run) (view (changed run (Change.OfClient i x))) i l
      → Move Quorum (view run) (view (changed run (Change.OfClient i x))) l
  unfolding view changed client_at slot_at cabinet_at
  by_client m =
      client i (record { up = λ p. inl (⊑_refl (present_of (cabinet_at run p)).stamp); lapsed_on = λ p h. h; weak_on = λ p h. h })
      (λ p e h. h) (λ d n p b h. h) (λ d. ⊎_elim inl (λ e. inr (ap seat_of e)) (set_other run.clients i x fresh_client d)) m

  pub by_hearing : (j : ℕ) {l : Event} → Act Quorum (view run) (view (changed run (Change.Hearing i x j))) i l
      → Move Quorum (view run) (view (changed run (Change.Hearing i x j))) l
  unfolding view changed client_at slot_at cabinet_at
  by_hearing j m =
      client i (record { up = λ p. inl (⊑_refl (present_of (cabinet_at run p)).stamp); lapsed_on = λ p h. h; weak_on = λ p h. h })
      (λ p e h. h) (λ d n p b h. (h.0, ⊎_elim (λ a. a) (λ a. absurd a) (carried run.slots j empty_slot d n p b h.0 h.1)))
      (λ d. ⊎_elim inl (λ e. inr (ap seat_of e)) (set_other run.clients i x fresh_client d)) m

module _ (run : Run) (i : ℕ) (x : Client) (h : i < length run.clients) where
  pub now_client : (view (changed run (Change.OfClient i x))).client i ≡ seat_of x
  unfolding view changed client_at
  now_client = ap seat_of (get_or-set_same run.clients i x fresh_client h)

  pub now_hearing : (j : ℕ) → (view (changed run (Change.Hearing i x j))).client i ≡ seat_of x
  unfolding view changed client_at
  now_hearing j = ap seat_of (get_or-set_same run.clients i x fresh_client h)

-- ---- a change of a slot: what is put there has a reason

pub by_slot : (Quorum : (ℕ → Bool) → Type 0) (run : Run) (j : ℕ) (t : Slot)
    → ((c n p : ℕ) (b : Talk) → Carries c n p b t.held → New (view run) (view (changed run (Change.OfSlot j t))) c n p b)
    → Move Quorum (view run) (view (changed run (Change.OfSlot j t))) nothing
unfolding view changed client_at slot_at cabinet_at
by_slot Quorum run j t why =
    radio (record { up = λ p. inl (⊑_refl (present_of (cabinet_at run p)).stamp); lapsed_on = λ p h. h; weak_on = λ p h. h }) (λ p e h. inl h)
    (λ c n p b h. ⊎_elim (λ a. inl (h.0, a)) (λ a. inr (why c n p b a)) (carried run.slots j t c n p b h.0 h.1)) (λ c. refl)

-- it is enough to give the reason under the message's own names
pub named : (v w : View) (m : Message) (c n p : ℕ) (b : Talk) → Says c n p b m
    → New v w m.client m.operation m.cabinet (talk_of m.body) → New v w c n p b
named v w m c n p b k h =
    subst (λ z. New v w c n p z) k.3 (subst (λ z. New v w c n z (talk_of m.body)) k.2
    (subst (λ z. New v w c z m.cabinet (talk_of m.body)) k.1
    (subst (λ z. New v w z m.operation m.cabinet (talk_of m.body)) k.0 h)))

-- a refused step
pub by_nothing : (Quorum : (ℕ → Bool) → Type 0) (run : Run) → Move Quorum (view run) (view run) nothing
unfolding view
by_nothing Quorum run =
    radio (record { up = λ p. inl (⊑_refl (present_of (cabinet_at run p)).stamp); lapsed_on = λ p h. h; weak_on = λ p h. h })
    (λ p e h. inl h) (λ c n p b h. inl h) (λ c. refl)
