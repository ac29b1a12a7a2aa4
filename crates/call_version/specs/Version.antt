-- The library's version and the bytes of a board. The checker has no layouts: `hosts/` asserts them, and tests that no call writes past a board.
use Rattle.std.specs.Prelude.{ℕ, ◌+◌, ◌*◌}
use Rattle.paper_board.specs.Paper.Limits.{job_limit}

-- 1.2.3 would be 10203; `tests/version` holds it to the file VERSION
abbrev pub version_number : ℕ
version_number = 10000

-- the number of jobs; for each place a length, E, D, a mark, and the words after and before it; the tally and its padding
abbrev pub board_bytes : ℕ
board_bytes = 8 + job_limit * (4 + 4 + 4 + 1 + 8 + 8) + 8
