-- The words of a step list as byte strings, and the kinds that they name: clauses S16.7 to S16.9 of docs/SCOPE.md; S20.5.
use Rattle.std.specs.Prelude.{ℕ, cond, List, [], ◌∷◌, Option, Some, None}
use Rattle.types.specs.Texts.{bytes}
use Rattle.text.specs.Fields.{same}
use Rattle.text.specs.Names.{Double, Kind, Single}

-- S16.8: the word of a plan
abbrev pub word_plan : List ℕ
word_plan = bytes "plan"

-- S16.9: the words of the nine kinds of step
abbrev pub word_write : List ℕ
word_write = bytes "write"

abbrev pub word_read : List ℕ
word_read = bytes "read"

abbrev pub word_send : List ℕ
word_send = bytes "send"

abbrev pub word_deliver : List ℕ
word_deliver = bytes "deliver"

abbrev pub word_lose : List ℕ
word_lose = bytes "lose"

abbrev pub word_stop : List ℕ
word_stop = bytes "stop"

abbrev pub word_leave : List ℕ
word_leave = bytes "leave"

abbrev pub word_restart : List ℕ
word_restart = bytes "restart"

abbrev pub word_rollback : List ℕ
word_rollback = bytes "rollback"

-- S16.9: the words of a reading
abbrev pub word_open : List ℕ
word_open = bytes "open"

abbrev pub word_closed : List ℕ
word_closed = bytes "closed"

abbrev pub word_unknown : List ℕ
word_unknown = bytes "unknown"

-- S16.7: the header row
abbrev pub header : List ℕ
header = bytes "kind,a,b,c,d"

-- S16.9: a kind and the word that names it
pub record Named : Type 0 where
  pub word : List ℕ
  pub kind : Kind

-- S16.9: such a pair
abbrev pub named : List ℕ → Kind → Named
named w k = record { word = w; kind = k }

-- S16.8, S16.9, S5.1: the plan and the nine kinds of step, each by its word
abbrev pub kinds : List Named
kinds =
    named word_plan Kind.Plans
    ∷ named word_write Kind.Writes
    ∷ named word_read (Kind.WithOne Single.Reads)
    ∷ named word_send (Kind.WithTwo Double.Sends)
    ∷ named word_deliver (Kind.WithOne Single.Delivers)
    ∷ named word_lose (Kind.WithOne Single.Loses)
    ∷ named word_stop (Kind.WithOne Single.Stops)
    ∷ named word_leave (Kind.WithOne Single.Leaves)
    ∷ named word_restart (Kind.WithOne Single.Restarts)
    ∷ named word_rollback (Kind.WithTwo Double.RollsBack)
    ∷ []

-- S16.9: the kind that a word names, by the first entry that has it
unfoldable pub kind_in : List Named → List ℕ → Option Kind
kind_in [] w = None
kind_in (n ∷ ns) w = cond (same w n.word) (Some n.kind) (kind_in ns w)

-- S16.9, S16.10: the kind that a word names, or none
abbrev pub kind_of : List ℕ → Option Kind
kind_of w = kind_in kinds w
