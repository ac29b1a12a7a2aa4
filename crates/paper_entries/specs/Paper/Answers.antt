-- What the calls on a board answer: a refusal, or what they were asked for.
use Rattle.std.specs.Prelude.{ℕ}
use Rattle.std.specs.Prelude as std
use Rattle.paper_board.specs.declared.Refusal.{Refusal}
use Rattle.paper_entries.specs.declared.ShownRow.{ShownRow}
use Rattle.paper_entries.specs.declared.ShownPair.{ShownPair}

-- to an entry that is accepted: the number of the job added, where one was
abbrev pub Answer : Type 0
Answer = std.Result (std.Option ℕ) Refusal

abbrev pub RowAnswer : Type 0
RowAnswer = std.Result ShownRow Refusal

abbrev pub PairAnswer : Type 0
PairAnswer = std.Result ShownPair Refusal
