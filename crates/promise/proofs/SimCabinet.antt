-- A deed done to one cabinet, and an offer that is answered, as moves of the view. Assumes nothing.
use Prim.Native.Nat.{ℕ, ◌<◌}
use mathlib.Core.Path.{◌≡◌, refl, ap, sym, subst, ◌∙◌}
use mathlib.Core.Bool.{Bool, false}
use mathlib.Core.Logic.{◌⊎◌, inl, inr, ⊎_elim}
use lib.ListN.{get_or, length}
use lib.Seq.{get_or-set_same}
use Rattle.limits.specs.Limits.{most_versions}
use Rattle.promise.specs.Names.{Body, Cabinet, Change, Deed, Entry, Held, Message, Profile, Run}
use Rattle.cabinet.specs.Cabinets.{present_of, offered}
use Rattle.types.specs.Parts.{no_cabinet, stored_in}
use Rattle.server.specs.Deeds.{deed_of}
use Rattle.server.specs.Requests.{reply_slot}
use Rattle.run.specs.Steps.{client_at, slot_at, cabinet_at, done_at, changed}
use Rattle.promise.specs.Events.{nothing}
use Rattle.promise.proofs.Stamps.{◌⊑◌}
use Rattle.promise.proofs.View.{Talk, offer, Grow, New, Move, radio}
use Rattle.promise.proofs.SimView.{talk_of, Carries, view, set_cases, carried}
use Rattle.promise.proofs.Fit.{From, Fit, fit_same, fit_offered, fit_stopped, fit_restarted, fit_rolled}

-- cabinet q of a run in which d was done to cabinet p
module _ (run : Run) (p : ℕ) (d : Deed) where
  abbrev done : Cabinet
  done = deed_of run.plan p d (cabinet_at run p)

  done_cases : (q : ℕ)
      → (cabinet_at (changed run (Change.OfCabinet p d)) q ≡ cabinet_at run q) ⊎
      ((q ≡ p) × (cabinet_at (changed run (Change.OfCabinet p d)) q ≡ done))
  unfolding cabinet_at changed done_at
  done_cases q = set_cases run.cabinets p (deed_of run.plan p d (get_or run.cabinets p no_cabinet)) no_cabinet q

  done_now : p < length run.cabinets → cabinet_at (changed run (Change.OfCabinet p d)) p ≡ done
  unfolding cabinet_at changed done_at
  done_now h = get_or-set_same run.cabinets p (deed_of run.plan p d (get_or run.cabinets p no_cabinet)) no_cabinet h

  -- every cabinet fits, if the one that it was done to does
  module _ (O : Entry → Type 0) (F : Fit run.plan.profile (stored_in run.plan p) O (cabinet_at run p) done) where
    fits : (q : ℕ)
        → Fit run.plan.profile (stored_in run.plan q) (λ e. O e × (q ≡ p)) (cabinet_at run q)
        (cabinet_at (changed run (Change.OfCabinet p d)) q)
    fits q =
        ⊎_elim (λ e. rw e (fit_same run.plan.profile (stored_in run.plan q) (λ e. O e × (q ≡ p)) (cabinet_at run q)))
        (λ h. rw (h.1, h.0) (record {
          up = F.up;
          lapsed_on = F.lapsed_on;
          weak_on = F.weak_on;
          from = λ i. ⊎_elim inl (⊎_elim (λ o. inr (inl (o, refl))) (λ z. inr (inr z))) (F.from i);
        })) (done_cases q)

    done_grow : Grow (view run) (view (changed run (Change.OfCabinet p d)))
    unfolding view changed
    done_grow = record { up = λ q. (fits q).up; lapsed_on = λ q. (fits q).lapsed_on; weak_on = λ q. (fits q).weak_on }

    done_holds : (q : ℕ) (e : Entry) → (view (changed run (Change.OfCabinet p d))).holds q e → From (λ x. O x × (q ≡ p)) (cabinet_at run q) e
    unfolding view
    done_holds q e h = subst (λ x. From (λ y. O y × (q ≡ p)) (cabinet_at run q) x) h.1 ((fits q).from h.0)

  -- a cabinet alone changes, and holds nothing new
  by_deed : (Quorum : (ℕ → Bool) → Type 0) → Fit run.plan.profile (stored_in run.plan p) (λ e. ⊥) (cabinet_at run p) done
      → Move Quorum (view run) (view (changed run (Change.OfCabinet p d))) nothing
  unfolding view changed client_at slot_at
  by_deed Quorum F =
      radio (done_grow (λ e. ⊥) F)
      (λ q e h. ⊎_elim inl (⊎_elim (λ o. absurd o.0) (λ z. inr (inr z))) (done_holds (λ e. ⊥) F q e h))
      (λ c n q b h. inl h) (λ c. refl)

-- stop, restart, rollback
module _ (Quorum : (ℕ → Bool) → Type 0) (run : Run) (p : ℕ) where
  pub sim_stop : Move Quorum (view run) (view (changed run (Change.OfCabinet p Deed.GoDown))) nothing
  unfolding deed_of
  sim_stop = by_deed run p Deed.GoDown Quorum (fit_stopped run.plan.profile (stored_in run.plan p) (cabinet_at run p))

  module _ (none : run.plan.profile ≡ Profile.Forgetful → stored_in run.plan p ≡ false) where
    pub sim_restart : Move Quorum (view run) (view (changed run (Change.OfCabinet p Deed.ComeUp))) nothing
    unfolding deed_of
    sim_restart = by_deed run p Deed.ComeUp Quorum (fit_restarted run.plan.profile (stored_in run.plan p) (cabinet_at run p) none)

    pub sim_rollback : (j : ℕ) → Move Quorum (view run) (view (changed run (Change.OfCabinet p (Deed.GoBack j)))) nothing
    unfolding deed_of
    sim_rollback j =
        by_deed run p (Deed.GoBack j) Quorum (fit_rolled run.plan.profile (stored_in run.plan p) j (cabinet_at run p) none)

-- an offer is answered: the cabinet takes or keeps, and the acknowledgement takes the slot
pub sim_offer : (Quorum : (ℕ → Bool) → Type 0) (run : Run) (j : ℕ) (m : Message) (e : Entry) → (slot_at run j).held ≡ Held.Request m
    → m.body ≡ Body.Offer e
    → m.cabinet < length run.cabinets → length (cabinet_at run m.cabinet).versions ≡ most_versions
    → Move Quorum (view run) (view (changed run (Change.Offering m.cabinet e j (reply_slot m Body.Acknowledge)))) nothing
unfolding view changed client_at slot_at cabinet_at deed_of
sim_offer Quorum run j m e at_j bd h full =
    radio (record { up = G.up; lapsed_on = G.lapsed_on; weak_on = G.weak_on })
    (λ q d k. ⊎_elim inl
    (⊎_elim (λ o. inr (inl (m.client, m.operation, (j, rw at_j (refl, refl, sym o.1, ap talk_of bd ∙ ap offer (sym o.0))))))
    (λ z. inr (inr z)))
    (done_holds run p (Deed.Weigh e) (λ d. d ≡ e) F.0 q d k))
    (λ c n q b k. ⊎_elim (λ a. inl (k.0, a)) (λ a. inr (new c n q b a)) (carried run.slots j (reply_slot m Body.Acknowledge) c n q b k.0 k.1))
    (λ c. refl)
  where
    p : ℕ
    p = m.cabinet

    w : Run
    w = changed run (Change.Offering m.cabinet e j (reply_slot m Body.Acknowledge))

    F : Fit run.plan.profile (stored_in run.plan p) (λ d. d ≡ e) (cabinet_at run p) (offered (stored_in run.plan p) e (cabinet_at run p))
        × (e.stamp ⊑ (present_of (offered (stored_in run.plan p) e (cabinet_at run p))).stamp)
    F = fit_offered run.plan.profile (stored_in run.plan p) e (cabinet_at run p) full

    G : Grow (view run) (view (changed run (Change.OfCabinet p (Deed.Weigh e))))
    G = done_grow run p (Deed.Weigh e) (λ d. d ≡ e) F.0

    new : (c n q : ℕ) (b : Talk) → Carries c n q b (reply_slot m Body.Acknowledge).held → New (view run) (view w) c n q b
    new c n q b k =
        subst (λ d. New (view run) (view w) c n q d) k.3 (
          e,
          (j, rw at_j (k.0, k.1, k.2, ap talk_of bd)),
          inl (subst (λ z. e.stamp ⊑ (present_of (cabinet_at w z)).stamp) k.2
              (subst (λ z. e.stamp ⊑ (present_of z).stamp) (sym (done_now run p (Deed.Weigh e) h)) F.1)),
        )
