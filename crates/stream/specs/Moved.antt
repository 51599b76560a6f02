-- What the rehearsal read and wrote, where a reader knows its bytes and a writer its own. No clause of docs/SCOPE.md asks for it: it ties
-- the transcript of S17.1 to what goes in and out.
use Rattle.std.specs.Prelude.{◌≡◌, ℕ, List, Option, Result, OnOk}
use Rattle.std.specs.Io.KnownBytes.{Appends, Consumes}
use Rattle.transcript.specs.Machine.{Mach, run_m, say_all}
use Rattle.transcript.specs.Rehearsal.{transcript}

-- The machine was fed the bytes that the reader gave, and where no write failed, the writer took what the machine said of them. The reader had
-- `left` and has `left'`; the writer held `held` and holds `held'`; the machine was at `m` and is at `m'`.
abbrev pub Turned : {A E : Type 0} → Option (List ℕ) → Option (List ℕ) → Option (List ℕ) → Option (List ℕ) → Mach → Mach → Result A E → Type 0
Turned left left' held held' m m' sound =
    (bytes : List ℕ) × Consumes left left' bytes × (m' ≡ run_m m bytes) × OnOk sound (Appends held held' (say_all m bytes))

-- The writer took the transcript of the bytes that the reader gave, where no write failed.
abbrev pub Rehearsed : {A E : Type 0} → Option (List ℕ) → Option (List ℕ) → Option (List ℕ) → Option (List ℕ) → Result A E → Type 0
Rehearsed left left' held held' sound =
    (bytes : List ℕ) × Consumes left left' bytes × OnOk sound (Appends held held' (transcript bytes))
