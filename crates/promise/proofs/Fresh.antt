-- The view of a fresh run has the factory entry alone, no message and no open operation. Assumes nothing.
use Prim.Native.Nat.{ℕ, zero, suc}
use mathlib.Core.Path.{◌≡◌, refl, ap, sym, subst, ◌∙◌}
use mathlib.Core.List.{[]}
use mathlib.Core.Logic.{◌⊎◌, inl, inr, ⊎_elim}
use lib.ListN.{get_or, replicate}
use Rattle.limits.specs.Limits.{most_cabinets, most_clients, most_slots, most_versions}
use Rattle.promise.specs.Names.{Cabinet, Entry, Plan, Run, Slot}
use Rattle.cabinet.specs.Cabinets.{fresh_cabinet}
use Rattle.cabinet.specs.Entries.{factory_entry}
use Rattle.cabinet.proofs.ListLaws.{getD_filled}
use Rattle.types.specs.Parts.{empty_slot, fresh_client, no_cabinet}
use Rattle.run.specs.Start.{fresh_run}
use Rattle.run.specs.Steps.{client_at, slot_at, cabinet_at}
use Rattle.promise.proofs.View.{Talk, offer, entry_is, ack}
use Rattle.promise.proofs.Acknowledged.{Acknowledged}
use Rattle.promise.proofs.Known.{Known}
use Rattle.promise.proofs.Opened.{Opened}
use Rattle.promise.proofs.SimView.{Carries, seat_of, view, seat_seen}

-- a place of an array that is filled with one value, or a place past its end
filled : {A : Type 0} (n : ℕ) (a d : A) (i : ℕ) → (get_or (replicate n a) i d ≡ a) ⊎ (get_or (replicate n a) i d ≡ d)
filled zero a d i = inr refl
filled (suc n) a d zero = inl refl
filled (suc n) a d (suc i) = filled n a d i

module _ (p : Plan) where
  abbrev run : Run
  run = fresh_run p

  no_message : (c n q : ℕ) (b : Talk) → (view run).air c n q b → ⊥
  unfolding view slot_at fresh_run
  no_message c n q b h = subst (λ (t : Slot). Carries c n q b t.held) (getD_filled [] most_slots h.0 empty_slot) h.1

  all_fresh : (c : ℕ) → client_at run c ≡ fresh_client
  unfolding client_at fresh_run
  all_fresh c = getD_filled [] most_clients c fresh_client

  no_operation : (c : ℕ) → (view run).client c ≡ seat_of fresh_client
  no_operation c = seat_seen run c ∙ ap seat_of (all_fresh c)

  -- every version of every place is the factory's
  all_factory : (q : ℕ) (e : Entry) → (view run).holds q e → e ≡ factory_entry
  unfolding view cabinet_at fresh_run
  all_factory q e h =
      sym h.1 ∙ ⊎_elim (λ i. ap (λ (k : Cabinet). get_or k.versions h.0 factory_entry) i ∙ getD_filled [] most_versions h.0 factory_entry)
      (λ i. ap (λ (k : Cabinet). get_or k.versions h.0 factory_entry) i) (filled most_cabinets fresh_cabinet no_cabinet q)

  pub fresh_acknowledged : Acknowledged (view run)
  fresh_acknowledged =
      record {
        numbers = λ c n q b h. absurd (no_message c n q b h);
        offers = λ c n q e h. absurd (no_message c n q (offer e) h);
        acks = λ c n q h. absurd (no_message c n q ack h);
        heard = λ c. rw (no_operation c) tt;
      }

  pub fresh_opened : Opened (λ c n q. ⊥) (λ c n e. ⊥) (view run)
  fresh_opened c = rw (no_operation c) tt

  pub fresh_known : Known (λ e. e ≡ factory_entry) (view run)
  fresh_known =
      record {
        held = all_factory;
        offered = λ c n q e h. absurd (no_message c n q (offer e) h);
        told = λ c n q e x h. absurd (no_message c n q (entry_is e x) h);
        clients = λ c. rw (no_operation c) tt;
      }
