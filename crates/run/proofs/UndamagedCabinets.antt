-- Whatever a step does to a cabinet of the line, a sound record stays sound. Assumes nothing.
use Rattle.std.proofs.Common.{ℕ, zero, suc, ◌+◌, ◌-◌, ◌<◌, min, Bool, true, List, ◌∷◌, ◌≡◌, arith, zero-add, length, get_or, drop, replicate, length-take, get_or-take, get_or-drop}
use Rattle.std.proofs.lemmas.Bool.Decides.{nat_tests}
use Rattle.limits.specs.Limits.{most_versions}
use Rattle.run.specs.Names.{Cabinet, Deed, Entry, Plan}
use Rattle.cabinet.specs.Cabinets.{added, taken, offered, restarted, older_from, rolled_back}
use Rattle.cabinet.specs.Entries.{factory_entry}
use Rattle.cabinet.proofs.CabinetLaws.{rolled_by}
use Rattle.cabinet.proofs.ListLaws.{getD_filled}
use Rattle.types.specs.Parts.{stored_in}
use Rattle.server.specs.Deeds.{deed_of}
use Rattle.guard.specs.All.{all_from}
use Rattle.guard.specs.Damage.{entry_sound, version_sound, record_sound, cabinet_sound}
use Rattle.guard.proofs.AllLaws.{all_made, all_replicate, all_zero_read, all_zero_set}
use Rattle.guard.proofs.DamageLaws.{version_made, version_moved, version_factory, kept_says, kept_made, record_says, record_made}

module _ (steps : ℕ) where
  -- the eight newest of nine
  added_sound : (e : Entry) (v : List Entry) (kept : ℕ) → entry_sound steps e ≡ true → all_from (version_sound steps kept) 0 v ≡ true
      → all_from (version_sound steps (min (kept + 1) most_versions)) 0 (added e v) ≡ true
  added_sound e v kept h all =
      all_made (version_sound steps (min (kept + 1) most_versions)) 0 (added e v) factory_entry
      (λ i low. rw (zero-add, get_or-take most_versions (e ∷ v) i factory_entry (short i low)) (here i (short i low)))
    where
      short : (i : ℕ) → i < length (added e v) → i < most_versions
      short i low = omega (arith, simp length-take at low)

      here : (i : ℕ) → i < most_versions → version_sound steps (min (kept + 1) most_versions) i (get_or (e ∷ v) i factory_entry) ≡ true
      here zero l = grind (arith, version_made)
      here (suc i) l = grind (arith, version_moved, all_zero_read, version_factory)

  taken_sound : (stored : Bool) (e : Entry) (k : Cabinet) → entry_sound steps e ≡ true → record_sound steps stored k ≡ true
      → record_sound steps stored (taken stored e k) ≡ true
  unfolding taken
  taken_sound stored e k h r = grind (arith, nat_tests, record_says, kept_says, record_made, kept_made, added_sound, all_zero_set, version_made)

  offered_sound : (stored : Bool) (e : Entry) (k : Cabinet) → entry_sound steps e ≡ true → record_sound steps stored k ≡ true
      → record_sound steps stored (offered stored e k) ≡ true
  unfolding offered
  offered_sound stored e k h r = grind (arith, taken_sound)

  -- only the versions and their number are looked at
  same_sound : (stored : Bool) (k k' : Cabinet) → k'.kept ≡ k.kept → k'.versions ≡ k.versions → record_sound steps stored k ≡ true
      → record_sound steps stored k' ≡ true
  unfolding record_sound
  same_sound stored k k' a b r = grind arith

  -- the factory entry alone
  factories : all_from (version_sound steps 1) 0 (replicate most_versions factory_entry) ≡ true
  factories = all_replicate (version_sound steps 1) 0 most_versions factory_entry (λ i. version_factory steps 1 i)

  restarted_sound : (stored forgetful : Bool) (k : Cabinet) → record_sound steps stored k ≡ true
      → record_sound steps stored (restarted stored forgetful k) ≡ true
  unfolding restarted
  restarted_sound stored forgetful k r = grind (arith, nat_tests, record_made, kept_made, factories, same_sound)

  older_sound : (j : ℕ) (v : List Entry) (kept : ℕ) → all_from (version_sound steps kept) 0 v ≡ true
      → all_from (version_sound steps (kept - j)) 0 (older_from j v) ≡ true
  older_sound j v kept all =
      all_made (version_sound steps (kept - j)) 0 (older_from j v) factory_entry
      (λ i low. rw (zero-add, getD_filled (drop j v) (min j most_versions) i factory_entry, get_or-drop j v i factory_entry)
      (version_moved steps kept (kept - j) (j + i) i (get_or v (j + i) factory_entry) (λ m. omega arith)
      (all_zero_read (version_sound steps kept) (j + i) v all factory_entry (version_factory steps kept (j + i)))))

  rolled_sound : (stored : Bool) (j : ℕ) (k : Cabinet) → record_sound steps stored k ≡ true
      → record_sound steps stored (rolled_back stored j k) ≡ true
  rolled_sound stored j k r =
      rolled_by (λ (y : Cabinet). record_sound steps stored y ≡ true) stored j k r
      (λ s. grind (arith, record_made, kept_made, factories))
      (λ s low. grind (arith, record_says, kept_says, record_made, kept_made, older_sound))

-- an entry that is offered has to be sound
abbrev pub DeedSound : ℕ → Deed → Type 0
DeedSound steps (Deed.Weigh e) = entry_sound steps e ≡ true
DeedSound steps Deed.GoDown = Unit {0}
DeedSound steps Deed.ComeUp = Unit {0}
DeedSound steps (Deed.GoBack j) = Unit {0}

module _ (plan : Plan) (steps p : ℕ) (line : p < plan.n) where
  in_line : (k : Cabinet) → cabinet_sound plan steps p k ≡ record_sound steps (stored_in plan p) k
  unfolding cabinet_sound
  in_line k = grind (arith, nat_tests)

  deed_record : (d : Deed) (k : Cabinet) → DeedSound steps d → record_sound steps (stored_in plan p) k ≡ true
      → record_sound steps (stored_in plan p) (deed_of plan p d k) ≡ true
  unfolding deed_of
  deed_record d k h r = grind (arith, offered_sound, same_sound, restarted_sound, rolled_sound)

  pub deed_sound : (d : Deed) (k : Cabinet) → DeedSound steps d → cabinet_sound plan steps p k ≡ true
      → cabinet_sound plan steps p (deed_of plan p d k) ≡ true
  deed_sound d k h r = grind (arith, in_line, deed_record)
