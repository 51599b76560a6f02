-- What the functions below `parse` read, each from the front of what is left of a line. No clause is theirs: the laws in proofs/ say
-- that these pieces make up the rows of specs/Rows.antt.
use Rattle.std.specs.Prelude.{ℕ, ◌+◌, Bool, true, false, cond, List, [], ◌∷◌, ◌++◌, eqb, length, Option, Some, None}
use Rattle.text.specs.Fields.{is_empty, number_of, byte_of}
use Rattle.text.specs.Rows.{open_by, reading_of}
use Rattle.text.specs.Words.{Named}
use Rattle.text.specs.Names.{Head, Kind, Reading}

-- whether a line begins with these bytes
unfoldable pub begins : List ℕ → List ℕ → Bool
begins l [] = true
begins [] (x ∷ v) = false
begins (b ∷ l) (x ∷ v) = cond (eqb b x) (begins l v) false

-- the first field
unfoldable pub first : List ℕ → List ℕ
first [] = []
first (b ∷ l) = cond (eqb b 44) [] (b ∷ first l)

-- the bytes after the first comma
unfoldable pub after : List ℕ → List ℕ
after [] = []
after (b ∷ l) = cond (eqb b 44) l (after l)

-- a number, with the length of its field
abbrev pub number_by : Option ℕ → ℕ → Option (ℕ × ℕ)
number_by None n = None
number_by (Some v) n = Some (v, n)

-- the number in the first field
unfoldable pub number_at : List ℕ → Option (ℕ × ℕ)
number_at s = number_by (number_of (first s)) (length (first s))

-- the same, where it is a step's number
unfoldable pub byte_at : List ℕ → Option (ℕ × ℕ)
byte_at s = number_by (byte_of (first s)) (length (first s))

-- two numbers, with the length of both fields and of the comma between them
abbrev pub pair_by : Option ℕ → Option ℕ → ℕ → Option (ℕ × ℕ × ℕ)
pair_by None y n = None
pair_by (Some a) None n = None
pair_by (Some a) (Some b) n = Some (a, b, n)

-- the numbers in the first two fields
unfoldable pub pair_at : List ℕ → Option (ℕ × ℕ × ℕ)
pair_at s = pair_by (number_of (first s)) (number_of (first (after s))) (length (first s) + 1 + length (first (after s)))

-- the same, where they are a step's numbers
unfoldable pub bytes_at : List ℕ → Option (ℕ × ℕ × ℕ)
bytes_at s = pair_by (byte_of (first s)) (byte_of (first (after s))) (length (first s) + 1 + length (first (after s)))

-- the three fields after a write's client
unfoldable pub reading_in : List (List ℕ) → Option Reading
reading_in [] = None
reading_in (w ∷ []) = None
reading_in (w ∷ m ∷ []) = None
reading_in (w ∷ m ∷ e ∷ []) = reading_of w m e
reading_in (w ∷ m ∷ e ∷ f ∷ fs) = None

-- a field of minutes, and one that is not used
unfoldable pub minutes_in : List (List ℕ) → Option Reading
minutes_in [] = None
minutes_in (m ∷ []) = None
minutes_in (m ∷ e ∷ []) = open_by (byte_of m) (is_empty e)
minutes_in (m ∷ e ∷ f ∷ fs) = None

-- the kind of the first word that the line begins with, and the length of the word and its comma
abbrev pub head_if : Bool → Kind → ℕ → Option Head → Option Head
head_if t k n h = cond t (Some (record { kind = k; end = n })) h

unfoldable pub head_in : List Named → List ℕ → Option Head
head_in [] l = None
head_in (n ∷ ns) l = head_if (begins l (n.word ++ (44 ∷ []))) n.kind (length n.word + 1) (head_in ns l)

-- the kinds whose word begins with this byte
abbrev pub leads : ℕ → List ℕ → Bool
leads b [] = true
leads b (x ∷ v) = eqb b x

unfoldable pub lead_by : ℕ → List Named → List Named
lead_by b [] = []
lead_by b (n ∷ ns) = cond (leads b n.word) (n ∷ lead_by b ns) (lead_by b ns)
