-- How long a list may be.
use Rattle.std.specs.Prelude.{ℕ}

-- the bytes of a list that is held whole
abbrev pub most_list_bytes : ℕ
most_list_bytes = 65_536
