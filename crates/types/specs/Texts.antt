-- A text's bytes, for the words of the lists and of their transcripts: clauses S16 and S17 of docs/SCOPE.md.
use Rattle.std.specs.Prelude.{ℕ, List, [], ◌∷◌}
use Prim.Native.Char.{code}
use Prim.Native.String.{String, [] as []ˢ, ◌∷◌ as ◌∷ˢ◌}

-- S20.5: a word as a byte string; each character used here is one byte, its code
abbrev pub bytes : String → List ℕ
bytes []ˢ = []
bytes (c ∷ˢ s) = code c ∷ bytes s
