-- The worked cases of docs/SCOPE.md (clause S18.5): plans P1 to P8, the order of three stamps, and an equal stamp being kept.
use Rattle.std.specs.Prelude.{ℕ, Bool, true, false, List, [], ◌∷◌}
use Rattle.worked.specs.Names.{Cabinet, Entry, Err, Ok, Planned, Profile, Reading, Stamp, Unplanned}
use Rattle.plan.specs.Rule.{plan_of}
use Rattle.cabinet.specs.Entries.{later_than}
use Rattle.cabinet.specs.Cabinets.{fresh_cabinet, offered}

-- S18.5: what a definition says, and what the clause wants it to say
pub data Said : Type 0 where
  plans : Planned → Said
  greater : Bool → Said
  holds : Cabinet → Said

-- S18.5: the two side by side
pub record Row : Type 0 where
  pub says : Said
  pub wants : Said

infix 20 ◌↝◌
abbrev pub ◌↝◌ : Said → Said → Row
s ↝ w = record { says = s; wants = w }

-- S2.1: a stamp
abbrev pub stamp : ℕ → ℕ → Stamp
stamp c w = record { counter = c; writer = w }

-- S2.4: an entry
abbrev pub entry : ℕ → ℕ → Reading → Entry
entry c w r = record { stamp = stamp c w; reading = r }

-- S7.5: a fresh cabinet with a store that has been offered an entry
abbrev pub having : Entry → Cabinet
having e = offered true e fresh_cabinet

-- S3.9: the columns of its table: plan n,k,r,b, then the quorums
abbrev pub forgetful_with : ℕ → ℕ → ℕ → ℕ → ℕ → ℕ → Planned
forgetful_with n k r b write read =
    Ok (record { n = n; k = k; r = r; b = b; profile = Profile.Forgetful; write = write; read = read; stores = 0 })

-- S3.9: the same with the number of stores in front of the quorums
abbrev pub store_with : ℕ → ℕ → ℕ → ℕ → ℕ → ℕ → ℕ → Planned
store_with n k r b stores write read =
    Ok (record { n = n; k = k; r = r; b = b; profile = Profile.Store; write = write; read = read; stores = stores })

-- S18.5: P1 to P8 of S3.9, the three stamps of S2.2, an equal stamp (S7.5)
abbrev pub rows : List Row
rows =
    (plans (plan_of 3 1 0 0) ↝ plans (forgetful_with 3 1 0 0 2 2))
    ∷ (plans (plan_of 5 1 1 2) ↝ plans (forgetful_with 5 1 1 2 4 2))
    ∷ (plans (plan_of 4 1 1 2) ↝ plans (store_with 4 1 1 2 4 3 3))
    ∷ (plans (plan_of 2 0 0 2) ↝ plans (store_with 2 0 0 2 1 2 2))
    ∷ (plans (plan_of 9 4 0 0) ↝ plans (forgetful_with 9 4 0 0 5 5))
    ∷ (plans (plan_of 3 1 1 1) ↝ plans (Err Unplanned.TooSmall))
    ∷ (plans (plan_of 9 4 4 1) ↝ plans (Err Unplanned.TooSmall))
    ∷ (plans (plan_of 3 1 2 0) ↝ plans (Err Unplanned.OutOfRange))
    ∷ (plans (plan_of 10 1 0 0) ↝ plans (Err Unplanned.OutOfRange))
    ∷ (greater (later_than (stamp 1 2) (stamp 1 1)) ↝ greater true)
    ∷ (greater (later_than (stamp 2 1) (stamp 1 2)) ↝ greater true)
    ∷ (greater (later_than (stamp 1 1) (stamp 1 2)) ↝ greater false)
    ∷ (greater (later_than (stamp 1 2) (stamp 2 1)) ↝ greater false)
    ∷ (holds (offered true (entry 1 1 Reading.Closed) (having (entry 1 1 (Reading.Open 6)))) ↝ holds (having (entry 1 1 (Reading.Open 6))))
    ∷ []
