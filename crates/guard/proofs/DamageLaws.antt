-- The damage check of stamps, entries, cabinets and clients: what it says, when it is met, and that more steps never break it. Assumes nothing.
use Prim.Native.Nat.{ℕ, ◌≤◌, ◌<◌}
use mathlib.Core.Path.{◌≡◌, refl}
use mathlib.Core.Bool.{Bool, true, ◌&&◌, ◌||◌}
use native.Mathlib.Omega.{arith}
use lib.Dec.{ltb, eqb}
use Rattle.std.proofs.lemmas.Bool.Decides.{nat_tests}
use Rattle.limits.specs.Limits.{most_clients, most_versions}
use Rattle.guard.specs.Names.{Cabinet, Client, Entry, Heard, Plan, Reading, Stamp}
use Rattle.cabinet.specs.Cabinets.{fresh_cabinet}
use Rattle.cabinet.specs.Entries.{reading_in, is_unknown, is_factory, factory_entry}
use Rattle.heard.specs.Heard.{count_of, within_of}
use Rattle.guard.specs.All.{all_from}
use Rattle.guard.specs.Damage.{stamp_sound, entry_sound, version_sound, kept_sound, record_sound, factory_at, is_fresh, cabinet_sound, heard_sound, work_sound, client_sound}
use Rattle.guard.proofs.AllLaws.{all_mono}

-- two tests that both pass; `both` is the way back
pub joined : (s t : Bool) → s ≡ true → t ≡ true → s && t ≡ true
joined s t a b = rw (a, b)

-- ---- stamps and entries

pub stamp_says : (steps : ℕ) (s : Stamp) → stamp_sound steps s ≡ true → (s.counter ≤ steps) × (s.writer ≤ most_clients)
unfolding stamp_sound
stamp_says steps s h = grind (arith, nat_tests)

pub stamp_made : (steps : ℕ) (s : Stamp) → s.counter ≤ steps → s.writer ≤ most_clients → stamp_sound steps s ≡ true
unfolding stamp_sound
stamp_made steps s c w = grind (arith, nat_tests)

pub stamp_mono : (a b : ℕ) (s : Stamp) → a ≤ b → stamp_sound a s ≡ true → stamp_sound b s ≡ true
unfolding stamp_sound
stamp_mono a b s l h = grind (arith, nat_tests)

pub entry_says : (steps : ℕ) (e : Entry) → entry_sound steps e ≡ true
    → (stamp_sound steps e.stamp ≡ true) × (reading_in e.reading ≡ true)
unfolding entry_sound
entry_says steps e h = grind (arith, nat_tests)

pub entry_made : (steps : ℕ) (e : Entry) → stamp_sound steps e.stamp ≡ true → reading_in e.reading ≡ true → entry_sound steps e ≡ true
unfolding entry_sound
entry_made steps e s r = grind (arith, nat_tests)

pub entry_mono : (a b : ℕ) (e : Entry) → a ≤ b → entry_sound a e ≡ true → entry_sound b e ≡ true
unfolding entry_sound
entry_mono a b e l h = grind (arith, nat_tests, stamp_mono)

unknown_says : (r : Reading) → is_unknown r ≡ true → r ≡ Reading.Unknown
unknown_says r h = grind (arith, nat_tests)

-- just the factory entry passes for it
pub factory_says : (e : Entry) → is_factory e ≡ true → e ≡ factory_entry
unfolding is_factory
factory_says e h = grind (arith, nat_tests, unknown_says)

pub factory_is : is_factory factory_entry ≡ true
unfolding is_factory
factory_is = refl

-- the factory entry is sound from the first step on
pub factory_made : (steps : ℕ) → entry_sound steps factory_entry ≡ true
factory_made steps = entry_made steps factory_entry (stamp_made steps factory_entry.stamp (omega arith) (omega arith)) refl

-- ---- cabinets

pub version_says : (steps kept i : ℕ) (e : Entry) → version_sound steps kept i e ≡ true
    → (entry_sound steps e ≡ true) × (ltb i kept || is_factory e ≡ true)
unfolding version_sound
version_says steps kept i e h = grind (arith, nat_tests)

-- an entry kept at one place may stand at another that is kept where the first was
pub version_moved : (steps kept kept' i i' : ℕ) (e : Entry) → (i < kept → i' < kept') → version_sound steps kept i e ≡ true
    → version_sound steps kept' i' e ≡ true
unfolding version_sound
version_moved steps kept kept' i i' e f h = grind (arith, nat_tests)

-- a sound entry may stand at any kept place, and the factory entry anywhere
pub version_made : (steps kept i : ℕ) (e : Entry) → entry_sound steps e ≡ true → i < kept → version_sound steps kept i e ≡ true
unfolding version_sound
version_made steps kept i e h l = grind (arith, nat_tests)

pub version_factory : (steps kept i : ℕ) → version_sound steps kept i factory_entry ≡ true
unfolding version_sound is_factory
version_factory steps kept i = grind (arith, nat_tests, factory_made)

version_mono : (a b kept i : ℕ) (e : Entry) → a ≤ b → version_sound a kept i e ≡ true → version_sound b kept i e ≡ true
unfolding version_sound
version_mono a b kept i e l h = grind (arith, nat_tests, entry_mono)

pub kept_says : (stored : Bool) (kept : ℕ) → kept_sound stored kept ≡ true
    → (1 ≤ kept) × (kept ≤ most_versions) × (stored || eqb kept 1 ≡ true)
unfolding kept_sound
kept_says stored kept h = grind (arith, nat_tests)

pub kept_made : (stored : Bool) (kept : ℕ) → 1 ≤ kept → kept ≤ most_versions → stored || eqb kept 1 ≡ true → kept_sound stored kept ≡ true
unfolding kept_sound
kept_made stored kept a b h = grind (arith, nat_tests)

pub record_says : (steps : ℕ) (stored : Bool) (k : Cabinet) → record_sound steps stored k ≡ true
    → (kept_sound stored k.kept ≡ true) × (all_from (version_sound steps k.kept) 0 k.versions ≡ true)
unfolding record_sound
record_says steps stored k h = grind (arith, nat_tests)

pub record_made : (steps : ℕ) (stored : Bool) (k : Cabinet) → kept_sound stored k.kept ≡ true
    → all_from (version_sound steps k.kept) 0 k.versions ≡ true → record_sound steps stored k ≡ true
unfolding record_sound
record_made steps stored k h v = grind (arith, nat_tests)

record_mono : (a b : ℕ) (stored : Bool) (k : Cabinet) → a ≤ b → record_sound a stored k ≡ true → record_sound b stored k ≡ true
record_mono a b stored k l h =
    let f = record_says a stored k h in
    record_made b stored k f.0 (all_mono _ _ 0 k.versions (λ i e. version_mono a b k.kept i e l) f.1)

pub fresh_says : (k : Cabinet) → is_fresh k ≡ true → all_from factory_at 0 k.versions ≡ true
unfolding is_fresh
fresh_says k h = grind (arith, nat_tests)

pub fresh_made : is_fresh fresh_cabinet ≡ true
unfolding is_fresh is_factory all_from
fresh_made = refl

pub cabinet_mono : (plan : Plan) (a b i : ℕ) (k : Cabinet) → a ≤ b → cabinet_sound plan a i k ≡ true → cabinet_sound plan b i k ≡ true
unfolding cabinet_sound
cabinet_mono plan a b i k l h = grind (arith, nat_tests, record_mono)

-- ---- clients

pub heard_says : (n quorum : ℕ) (h : Heard) → heard_sound n quorum h ≡ true → (within_of h n ≡ true) × (count_of h < quorum)
unfolding heard_sound
heard_says n quorum h e = grind (arith, nat_tests)

pub heard_made : (n quorum : ℕ) (h : Heard) → within_of h n ≡ true → count_of h < quorum → heard_sound n quorum h ≡ true
unfolding heard_sound
heard_made n quorum h w c = grind (arith, nat_tests)

pub client_says : (plan : Plan) (steps i : ℕ) (c : Client) → client_sound plan steps i c ≡ true
    → (c.operation ≤ steps) × (entry_sound steps c.best ≡ true) × (work_sound plan c.heard c.work ≡ true)
unfolding client_sound
client_says plan steps i c h = grind (arith, nat_tests)

pub client_made : (plan : Plan) (steps i : ℕ) (c : Client) → c.operation ≤ steps → entry_sound steps c.best ≡ true
    → work_sound plan c.heard c.work ≡ true → client_sound plan steps i c ≡ true
unfolding client_sound
client_made plan steps i c o e w = grind (arith, nat_tests)

pub client_mono : (plan : Plan) (a b i : ℕ) (c : Client) → a ≤ b → client_sound plan a i c ≡ true → client_sound plan b i c ≡ true
unfolding client_sound
client_mono plan a b i c l h = grind (arith, nat_tests, entry_mono)
