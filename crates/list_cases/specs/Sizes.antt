-- How many steps and places a call has.
use Rattle.std.specs.Prelude.{ℕ, ◌+◌}
use Rattle.lists.specs.Whole.{most_listed}

-- more than a list has steps, so that some stand behind the fullest list
abbrev pub most_places : ℕ
most_places = 264

-- a step more than a list may have
abbrev pub most_rows : ℕ
most_rows = most_listed + 1
