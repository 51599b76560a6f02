-- The sizes of the rehearsal's buffers. No clause of docs/SCOPE.md sets them.
use Rattle.std.specs.Prelude.{ℕ, ◌+◌, ◌*◌}
use Rattle.print.specs.Rows.{room}

-- what one read takes at most
abbrev pub part_room : ℕ
part_room = 32_768

-- what is said of it: a row for each of its bytes at most, and a row more, as `feed` asks
abbrev pub out_room : ℕ
out_room = room * (part_room + 1)
