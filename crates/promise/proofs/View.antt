-- What the proof of the promise sees of a run, and the one move that each step makes of it. The numbers I1 .. I3 are those of
-- docs/PROMISE.md. Assumes nothing.
use Prim.Native.Nat.{ℕ, ◌+◌}
use mathlib.Core.Path.{◌≡◌}
use mathlib.Core.Bool.{Bool, true, false}
use mathlib.Core.Logic.{◌⊎◌, inl, inr}
use Rattle.promise.specs.Names.{Entry, Stamp}
use Rattle.cabinet.specs.Entries.{factory_entry}
use Rattle.promise.specs.Events.{Kind, write, read, Aim, writes, reads, kind_of, Event, nothing, begun, chosen, finished}
use Rattle.promise.proofs.Stamps.{◌⊑◌, ⊑_trans}

-- Where a client's operation stands. A first part has what it was begun for, the cabinets heard, those of them whose reply left room for doubt, and the
-- entry with the largest stamp heard; a second part has the cabinets heard and the entry offered.
pub data Phase : Type 0 where
  idle gone : Phase
  first : Aim → (ℕ → Bool) → (ℕ → Bool) → Entry → Phase
  second : Kind → (ℕ → Bool) → Entry → Phase

-- a client: the number of its last operation, and where that stands
pub record Seat : Type 0 where
  pub number : ℕ
  pub phase : Phase

-- What a message says. A reply says also whether it leaves room for doubt: what its cabinet was when it answered, never what it is now.
pub data Talk : Type 0 where
  ask : Talk
  offer : Entry → Talk
  stamp_is : Stamp → Bool → Talk
  entry_is : Entry → Bool → Talk
  ack : Talk

-- `lapsed`: what the cabinet acknowledged may be lost, for good. `weak`: it is lapsed and still answers.
-- `holds p e`: e is the present entry of cabinet p, or an older version of it.
-- `air c n p m`: on the air is a message of client c's operation n, to or from cabinet p, that says m.
pub record View : Type 1 where
  pub stamp : ℕ → Stamp
  pub lapsed : ℕ → Bool
  pub weak : ℕ → Bool
  pub holds : ℕ → Entry → Type 0
  pub client : ℕ → Seat
  pub air : ℕ → ℕ → ℕ → Talk → Type 0

abbrev pub none : ℕ → Bool
none p = false

abbrev pub at : ℕ → Phase → Seat
at n f = record { number = n; phase = f }

-- ---- cabinets and the air

-- cabinet p is safe at stamp s: its present stamp is at least s, or it has lapsed
abbrev pub Safe : View → ℕ → Stamp → Type 0
Safe v p s = (s ⊑ v.stamp p) ⊎ (v.lapsed p ≡ true)

-- what a move keeps of every cabinet
pub record Grow (v w : View) : Type 0 where
  -- I1: a cabinet's present stamp falls only where the cabinet is lapsed afterwards
  pub up : (p : ℕ) → (v.stamp p ⊑ w.stamp p) ⊎ (w.lapsed p ≡ true)
  -- I2: a lapsed cabinet stays lapsed
  pub lapsed_on : (p : ℕ) → v.lapsed p ≡ true → w.lapsed p ≡ true
  -- I3: a weak cabinet stays weak
  pub weak_on : (p : ℕ) → v.weak p ≡ true → w.weak p ≡ true

-- a cabinet that answers is not lapsed, or it is weak and its reply leaves room for doubt
abbrev pub Answers : View → ℕ → Bool → Type 0
Answers v p x = v.lapsed p ≡ true → (x ≡ true) × (v.weak p ≡ true)

-- why a message may be new on the air after a move
abbrev pub New : View → View → ℕ → ℕ → ℕ → Talk → Type 0
New v w c n p ask = n ≡ (v.client c).number
New v w c n p (offer e) = (k : Kind) × (H : ℕ → Bool) × (v.client c ≡ at n (second k H e))
New v w c n p (stamp_is s x) = v.air c n p ask × (v.stamp p ≡ s) × Answers v p x × (e : Entry) × (v.holds p e) × (e.stamp ≡ s)
New v w c n p (entry_is e x) = v.air c n p ask × (v.stamp p ≡ e.stamp) × Answers v p x × v.holds p e
New v w c n p ack = (e : Entry) × v.air c n p (offer e) × Safe w p e.stamp

-- an entry that a cabinet holds after a move: it held it, or was offered it, or it is the factory's
abbrev pub Source : View → ℕ → Entry → Type 0
Source v p e = v.holds p e ⊎ ((c : ℕ) × (n : ℕ) × v.air c n p (offer e)) ⊎ (e ≡ factory_entry)

-- ---- clients

-- the cabinets heard after p was heard
abbrev pub Plus : (ℕ → Bool) → ℕ → (ℕ → Bool) → Type 0
Plus H p H' = (q : ℕ) → H' q ≡ true → (q ≡ p) ⊎ (H q ≡ true)

-- the reply that a first part awaits, telling of e
abbrev pub tells : Kind → Entry → Bool → Talk
tells write e x = stamp_is e.stamp x
tells read e x = entry_is e x

-- client c, in the first part of operation n, hears a cabinet: the cabinets heard H, those in doubt D and the best entry b become H', D'
-- and b'
pub record Hears (v : View) (c n : ℕ) (k : Kind) (H D : ℕ → Bool) (b : Entry) (H' D' : ℕ → Bool) (b' : Entry) : Type 0 where
  -- the reply: from this cabinet, telling of this entry, with or without doubt
  pub from : ℕ
  pub said : Entry
  pub doubt : Bool
  pub aired : v.air c n from (tells k said doubt)
  -- no cabinet is heard but this one and those heard before; none in doubt is forgotten
  pub plus : Plus H from H'
  pub doubted : doubt ≡ true → D' from ≡ true
  pub doubts : (q : ℕ) → D q ≡ true → D' q ≡ true
  -- the best is no less than any heard, and it is one of them
  pub kept : (q : ℕ) → H q ≡ true → b.stamp ⊑ b'.stamp
  pub topped : said.stamp ⊑ b'.stamp
  pub either : (b' ≡ b) ⊎ (b' ≡ said)

-- client c, in the second part of operation n, hears an acknowledgement
pub record Counts (v : View) (c n : ℕ) (H H' : ℕ → Bool) : Type 0 where
  pub from : ℕ
  pub aired : v.air c n from ack
  pub plus : Plus H from H'

-- what a write chooses over b
abbrev pub Above : ℕ → Entry → Entry → Type 0
Above c b e = e.stamp ≡ record { counter = b.stamp.counter + 1; writer = c + 1 }

-- Quorum: which sets are a write quorum
module _ (Quorum : (ℕ → Bool) → Type 0) where
  -- a set that has, in common with every write quorum, a cabinet that is not weak or whose reply left no doubt
  abbrev pub Meets : View → (ℕ → Bool) → (ℕ → Bool) → Type 0
  Meets v H D = (W : ℕ → Bool) → Quorum W → (p : ℕ) × (W p ≡ true) × (H p ≡ true) × ((D p ≡ true) × (v.weak p ≡ true) → ⊥)

  -- what one client does
  pub data Act (v w : View) (c : ℕ) : Event → Type 0 where
    begin : (n : ℕ) (q : Aim) (D : ℕ → Bool) → v.client c ≡ at n idle → w.client c ≡ at (n + 1) (first q none D factory_entry)
        → Act v w c (begun c (n + 1) q)
    hear : (n : ℕ) (q : Aim) (H D H' D' : ℕ → Bool) (b b' : Entry) → v.client c ≡ at n (first q H D b)
        → Hears v c n (kind_of q) H D b H' D' b' → w.client c ≡ at n (first q H' D' b') → Act v w c nothing
    choose : (n : ℕ) (H D H' D' : ℕ → Bool) (b b' e : Entry) → v.client c ≡ at n (first (writes e.reading) H D b)
        → Hears v c n write H D b H' D' b' → Meets v H' D' → Above c b' e → w.client c ≡ at n (second write none e)
        → Act v w c (chosen c n e)
    find : (n : ℕ) (H D H' D' : ℕ → Bool) (b b' : Entry) → v.client c ≡ at n (first reads H D b) → Hears v c n read H D b H' D' b'
        → Meets v H' D' → w.client c ≡ at n (second read none b') → Act v w c nothing
    count : (n : ℕ) (k : Kind) (H H' : ℕ → Bool) (e : Entry) → v.client c ≡ at n (second k H e) → Counts v c n H H'
        → w.client c ≡ at n (second k H' e) → Act v w c nothing
    finish : (n : ℕ) (k : Kind) (H H' : ℕ → Bool) (e : Entry) → v.client c ≡ at n (second k H e) → Counts v c n H H' → Quorum H'
        → w.client c ≡ at n idle → Act v w c (finished c n k e)
    leave : w.client c ≡ at (v.client c).number gone → Act v w c nothing

  -- one move of the view
  pub data Move (v w : View) : Event → Type 0 where
    -- a cabinet or the air: no client changes
    radio : Grow v w → ((p : ℕ) (e : Entry) → w.holds p e → Source v p e)
        → ((c n p : ℕ) (m : Talk) → w.air c n p m → v.air c n p m ⊎ New v w c n p m)
        → ((c : ℕ) → w.client c ≡ v.client c) → Move v w nothing
    -- a client: no cabinet changes, no message is new
    client : (c : ℕ) {l : Event} → Grow v w → ((p : ℕ) (e : Entry) → w.holds p e → v.holds p e)
        → ((d n p : ℕ) (m : Talk) → w.air d n p m → v.air d n p m)
        → ((d : ℕ) → (d ≡ c) ⊎ (w.client d ≡ v.client d)) → Act v w c l → Move v w l

pub safe_grow : {v w : View} → Grow v w → (p : ℕ) {s : Stamp} → Safe v p s → Safe w p s
safe_grow g p (inr x) = inr (g.lapsed_on p x)
safe_grow {v} {w} g p {s} (inl h) = go (g.up p)
  where
    go : (v.stamp p ⊑ w.stamp p) ⊎ (w.lapsed p ≡ true) → Safe w p s
    go (inl k) = inl (⊑_trans h k)
    go (inr k) = inr k
