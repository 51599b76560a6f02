-- The limits of a line, each with the clause of docs/SCOPE.md that sets it.
use Rattle.std.specs.Prelude.{ℕ}

-- S1.2: a line has at least so many cabinets
abbrev pub fewest_cabinets : ℕ
fewest_cabinets = 2

-- S1.2: and at most so many; S4.1: a run has a record for each of these
abbrev pub most_cabinets : ℕ
most_cabinets = 9

-- S1.3: the clients; S13.6: writers are their numbers, and 0
abbrev pub most_clients : ℕ
most_clients = 8

-- S1.4: the slots
abbrev pub most_slots : ℕ
most_slots = 64

-- S11.1: the versions that a store keeps, with the present one
abbrev pub most_versions : ℕ
most_versions = 8

-- S11.7: the j that stands for the factory entry, since no store keeps so many older versions; S12.2: the greatest j
abbrev pub to_factory : ℕ
to_factory = most_versions

-- S1.6: the steps that a run accepts
abbrev pub most_steps : ℕ
most_steps = 1_000_000

-- S2.3: the longest wait
abbrev pub most_minutes : ℕ
most_minutes = 240
