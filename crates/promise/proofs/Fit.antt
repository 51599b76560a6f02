-- What an offer, a stop, a restart and a rollback may do to one cabinet, as the view sees it. Assumes nothing.
use Prim.Native.Nat.{ℕ, zero, suc, ◌+◌, min}
use mathlib.Core.Path.{◌≡◌, refl, sym, ◌∙◌}
use mathlib.Core.Bool.{Bool, true, false, true≢false}
use mathlib.Core.List.{List, [], ◌∷◌}
use mathlib.Core.Logic.{◌⊎◌, inl, inr, ⊎_elim}
use lib.ListN.{get_or, take, drop, length}
use lib.Seq.{get_or-drop}
use Rattle.limits.specs.Limits.{most_versions}
use Rattle.promise.specs.Names.{Cabinet, Entry, Profile}
use Rattle.cabinet.specs.Cabinets.{present_of, taken, offered, stopped, restarted, rolled_back}
use Rattle.cabinet.specs.Entries.{factory_entry}
use Rattle.cabinet.proofs.CabinetLaws.{offer_taken, offer_kept, taken_shows, rolled_by}
use Rattle.cabinet.proofs.ListLaws.{getD_filled}
use Rattle.types.specs.Parts.{is_forgetful}
use Rattle.promise.proofs.Stamps.{◌⊑◌, ◌⊏◌, ⊑_refl, ⊏-⊑, later_cases}
use Rattle.promise.proofs.SimView.{lapsed_in, weak_in, set_cases}

-- where an entry of the new record comes from: it was there, or O says so, or it is the factory's
abbrev pub From : (Entry → Type 0) → Cabinet → Entry → Type 0
From O y e = ((i : ℕ) × (get_or y.versions i factory_entry ≡ e)) ⊎ O e ⊎ (e ≡ factory_entry)

-- cabinet y may become x, in this profile, at a place with or without a store: I1 .. I3 of one cabinet, and where its entries come from
pub record Fit (f : Profile) (stored : Bool) (O : Entry → Type 0) (y x : Cabinet) : Type 0 where
  pub up : ((present_of y).stamp ⊑ (present_of x).stamp) ⊎ (lapsed_in f stored x ≡ true)
  pub lapsed_on : lapsed_in f stored y ≡ true → lapsed_in f stored x ≡ true
  pub weak_on : weak_in f stored y ≡ true → weak_in f stored x ≡ true
  pub from : (i : ℕ) → From O y (get_or x.versions i factory_entry)

pub fit_same : (f : Profile) (stored : Bool) (O : Entry → Type 0) (y : Cabinet) → Fit f stored O y y
fit_same f stored O y = record { up = inl (⊑_refl (present_of y).stamp); lapsed_on = λ h. h; weak_on = λ h. h; from = λ i. inl (i, refl) }

-- ---- an offer

take_from : (n : ℕ) (l : List Entry) (i : ℕ)
    → ((k : ℕ) × (get_or l k factory_entry ≡ get_or (take n l) i factory_entry)) ⊎ (get_or (take n l) i factory_entry ≡ factory_entry)
take_from zero l i = inr refl
take_from (suc n) [] i = inr refl
take_from (suc n) (x ∷ l) zero = inl (zero, refl)
take_from (suc n) (x ∷ l) (suc i) = ⊎_elim (λ h. inl (suc h.0, h.1)) inr (take_from n l i)

taken_from : (stored : Bool) (e : Entry) (y : Cabinet) (i : ℕ) → From (λ d. d ≡ e) y (get_or (taken stored e y).versions i factory_entry)
unfolding taken
taken_from true e y zero = inr (inl refl)
taken_from true e y (suc i) = ⊎_elim inl (λ h. inr (inr h)) (take_from 7 y.versions i)
taken_from false e y i = ⊎_elim (λ h. inl (i, sym h)) (λ h. inr (inl h.1)) (set_cases y.versions 0 e factory_entry i)

taken_same : (stored : Bool) (e : Entry) (y : Cabinet) → ((taken stored e y).power ≡ y.power) × ((taken stored e y).marked ≡ y.marked)
unfolding taken
taken_same true e y = (refl, refl)
taken_same false e y = (refl, refl)

-- neither test looks at more than power and mark
lapsed_by : (f : Profile) (stored : Bool) (y x : Cabinet) → x.power ≡ y.power → x.marked ≡ y.marked
    → lapsed_in f stored x ≡ lapsed_in f stored y
lapsed_by Profile.Forgetful stored y x p m = rw p
lapsed_by Profile.Store stored y x p m = rw m

weak_by : (f : Profile) (stored : Bool) (y x : Cabinet) → x.marked ≡ y.marked → weak_in f stored x ≡ weak_in f stored y
weak_by Profile.Forgetful stored y x m = refl
weak_by Profile.Store stored y x m = rw m

module _ (f : Profile) (stored : Bool) (e : Entry) (y : Cabinet) (full : length y.versions ≡ most_versions) where
  fit_taken : (present_of y).stamp ⊏ e.stamp → Fit f stored (λ d. d ≡ e) y (taken stored e y)
  fit_taken h =
      let s = taken_same stored e y in
      record {
        up = inl (rw (taken_shows stored e y full) (⊏-⊑ h));
        lapsed_on = λ l. lapsed_by f stored y (taken stored e y) s.0 s.1 ∙ l;
        weak_on = λ l. weak_by f stored y (taken stored e y) s.1 ∙ l;
        from = taken_from stored e y;
      }

  -- an offer: fit, and at least level with what was offered
  pub fit_offered : Fit f stored (λ d. d ≡ e) y (offered stored e y) × (e.stamp ⊑ (present_of (offered stored e y)).stamp)
  fit_offered =
      ⊎_elim (λ h. rw (offer_taken stored e y h.0) (fit_taken h.1, rw (taken_shows stored e y full) (⊑_refl e.stamp)))
      (λ h. rw (offer_kept stored e y h.0) (fit_same f stored (λ d. d ≡ e) y, h.1)) (later_cases (present_of y).stamp e.stamp)

-- ---- stop, restart, rollback: nothing new is held

pub fit_stopped : (f : Profile) (stored : Bool) (y : Cabinet) → Fit f stored (λ d. ⊥) y (stopped y)
fit_stopped Profile.Forgetful stored y = record { up = inr refl; lapsed_on = λ h. refl; weak_on = λ h. h; from = λ i. inl (i, refl) }
fit_stopped Profile.Store stored y = record { up = inl (⊑_refl (present_of y).stamp); lapsed_on = λ h. h; weak_on = λ h. h; from = λ i. inl (i, refl) }

-- forgetful, it ends up stale; with a store it keeps what it held; without one it was lapsed before
pub fit_restarted : (f : Profile) (stored : Bool) (y : Cabinet) → (f ≡ Profile.Forgetful → stored ≡ false)
    → Fit f stored (λ d. ⊥) y (restarted stored (is_forgetful f) y)
unfolding restarted
fit_restarted Profile.Forgetful true y q = absurd (true≢false (q refl))
fit_restarted Profile.Forgetful false y q =
    record { up = inr refl; lapsed_on = λ h. refl; weak_on = λ h. h; from = λ i. inr (inr (getD_filled [] most_versions i factory_entry)) }
fit_restarted Profile.Store true y q =
    record { up = inl (⊑_refl (present_of y).stamp); lapsed_on = λ h. h; weak_on = λ h. h; from = λ i. inl (i, refl) }
fit_restarted Profile.Store false y q =
    record { up = inr refl; lapsed_on = λ h. refl; weak_on = λ h. refl; from = λ i. inr (inr (getD_filled [] most_versions i factory_entry)) }

-- marked for good, where there is a store; without one nothing happens
pub fit_rolled : (f : Profile) (stored : Bool) (j : ℕ) (y : Cabinet) → (f ≡ Profile.Forgetful → stored ≡ false)
    → Fit f stored (λ d. ⊥) y (rolled_back stored j y)
fit_rolled Profile.Forgetful true j y q = absurd (true≢false (q refl))
fit_rolled f false j y q =
    rolled_by (Fit f false (λ d. ⊥) y) false j y (fit_same f false (λ d. ⊥) y) (λ s. absurd (true≢false (sym s)))
    (λ s low. absurd (true≢false (sym s)))
fit_rolled Profile.Store true j y q =
    rolled_by (Fit Profile.Store true (λ d. ⊥) y) true j y (fit_same Profile.Store true (λ d. ⊥) y)
    (λ s. record { up = inr refl; lapsed_on = λ h. refl; weak_on = λ h. refl; from = λ i. inr (inr (getD_filled [] most_versions i factory_entry)) })
    (λ s low.
    record {
      up = inr refl;
      lapsed_on = λ h. refl;
      weak_on = λ h. refl;
      from = λ i. inl (j + i, sym (getD_filled (drop j y.versions) (min j most_versions) i factory_entry ∙ get_or-drop j y.versions i factory_entry));
    })
