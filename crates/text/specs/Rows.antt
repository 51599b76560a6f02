-- What a row says: clauses S16.3 to S16.10 of docs/SCOPE.md.
use Rattle.std.specs.Prelude.{ℕ, Bool, true, false, cond, ◌&&◌, List, [], ◌∷◌, leb, length, Option, Some, None, option_and_then}
use Rattle.text.specs.Names.{Double, Kind, Reading, Row, Single, Step}
use Rattle.text.specs.Fields.{same, split, is_empty, number_of, byte_of}
use Rattle.text.specs.Words.{word_open, word_closed, word_unknown, header, kind_of}

-- S16.8: a plan has four numbers
abbrev pub plan_by : Option ℕ → Option ℕ → Option ℕ → Option ℕ → Option Row
plan_by None k r b = None
plan_by (Some n) None r b = None
plan_by (Some n) (Some k) None b = None
plan_by (Some n) (Some k) (Some r) None = None
plan_by (Some n) (Some k) (Some r) (Some b) = Some (Row.Plan n k r b)

-- S16.6: a reading, where the fields behind it are empty
abbrev pub says_if : Bool → Reading → Option Reading
says_if true r = Some r
says_if false r = None

-- S16.9: open has minutes
abbrev pub open_by : Option ℕ → Bool → Option Reading
open_by None e = None
open_by (Some m) e = says_if e (Reading.Open m)

-- S16.9: the fields behind the client of a write; S16.6: closed and unknown have no minutes
unfoldable pub reading_of : List ℕ → List ℕ → List ℕ → Option Reading
reading_of w m e =
    cond (same w word_open) (open_by (byte_of m) (is_empty e))
    (cond (same w word_closed) (says_if (is_empty m && is_empty e) Reading.Closed)
    (cond (same w word_unknown) (says_if (is_empty m && is_empty e) Reading.Unknown)
    None))

-- S16.9: a write has a client and a reading
abbrev pub write_by : Option ℕ → Option Reading → Option Row
write_by None r = None
write_by (Some c) None = None
write_by (Some c) (Some r) = Some (Row.Step (Step.Write c r))

-- S16.9: the kinds with one number: read, deliver, lose, stop, leave, restart
abbrev pub one_step : Single → ℕ → Step
one_step Single.Reads c = Step.Read c
one_step Single.Delivers s = Step.Deliver s
one_step Single.Loses s = Step.Lose s
one_step Single.Stops k = Step.Stop k
one_step Single.Leaves c = Step.Leave c
one_step Single.Restarts k = Step.Restart k

-- S16.9: such a row; S16.6: its other fields are empty
abbrev pub one_by : Single → Option ℕ → Bool → Option Row
one_by k None e = None
one_by k (Some a) e = cond e (Some (Row.Step (one_step k a))) None

-- S16.9: the kinds with two: send, rollback
abbrev pub two_step : Double → ℕ → ℕ → Step
two_step Double.Sends c k = Step.Send c k
two_step Double.RollsBack k j = Step.Rollback k j

-- S16.9: such a row; S16.6: its other fields are empty
abbrev pub two_by : Double → Option ℕ → Option ℕ → Bool → Option Row
two_by k None b e = None
two_by k (Some a) None e = None
two_by k (Some a) (Some b) e = cond e (Some (Row.Step (two_step k a b))) None

-- S16.8, S16.9: by the kind, and the four other fields
unfoldable pub row_by : Kind → List ℕ → List ℕ → List ℕ → List ℕ → Option Row
row_by Kind.Plans a b c d = plan_by (number_of a) (number_of b) (number_of c) (number_of d)
row_by Kind.Writes a b c d = write_by (byte_of a) (reading_of b c d)
row_by (Kind.WithOne k) a b c d = one_by k (byte_of a) (is_empty b && (is_empty c && is_empty d))
row_by (Kind.WithTwo k) a b c d = two_by k (byte_of a) (byte_of b) (is_empty c && is_empty d)

-- S16.3: four fields behind the word; S16.10: any other number of them is another form
unfoldable pub row_as : Kind → List (List ℕ) → Option Row
row_as k [] = None
row_as k (a ∷ []) = None
row_as k (a ∷ b ∷ []) = None
row_as k (a ∷ b ∷ c ∷ []) = None
row_as k (a ∷ b ∷ c ∷ d ∷ []) = row_by k a b c d
row_as k (a ∷ b ∷ c ∷ d ∷ e ∷ fs) = None

-- S16.3: the first field is the word
unfoldable pub row_of_fields : List (List ℕ) → Option Row
row_of_fields [] = None
row_of_fields (w ∷ fs) = option_and_then (λ k. row_as k fs) (kind_of w)

-- S16.4: the longest row
abbrev pub most_bytes : ℕ
most_bytes = 64

-- S16.4, S16.10: a row, and one that is too long has another form
unfoldable pub row_of : List ℕ → Option Row
row_of l = cond (leb (length l) most_bytes) (row_of_fields (split l)) None

-- S16.7: the header row
unfoldable pub is_header : List ℕ → Bool
is_header l = same l header
