-- Room for an answer: no answer is longer than a plan of all jobs.
use Rattle.std.specs.Prelude.{ℕ, ◌*◌}
use Rattle.text_decimals.specs.Bytes.{bytes}
use Rattle.text_formats.specs.Format.{room}
use Rattle.paper_board.specs.Paper.Limits.{job_limit}

abbrev pub placement_room : ℕ
placement_room = room (bytes " (@ #)")

abbrev pub placements_room : ℕ
placements_room = job_limit * placement_room

abbrev pub answer_room : ℕ
answer_room = 2304
