-- "Looking at the board": what a row and a pair show, in the paper's words.
use Rattle.std.specs.Prelude.{◌≡◌, ◌⊎◌, ◌↔◌, ℕ, ◌≤◌, ℤ, pos, ◌+ℤ◌, ◌-ℤ◌, ◌<ℤ◌}
use Rattle.ground_sets.specs.Bit.{bit}
use Rattle.paper_board.specs.Paper.View.{View, Live, Invalid, Arc}
use Rattle.paper_rules.specs.Paper.Rules.{E, D}
use Rattle.paper_entries.specs.Paper.Replies.{RowReply, shows_row, PairReply, shows_pair}

-- "Row of a job: mark, E, D, the set before it and the set after it."
pub record RowShows (v : View) (j : ℕ) (r : RowReply) : Type 0 where
  pub before : ℕ
  pub after : ℕ
  pub is : r ≡ shows_row (v.row j).mark (E v j) (D v j) before after
  -- "0 undecided, 1 valid, 2 invalid"
  pub mark : (v.row j).mark ≤ 2
  -- "The set is one 64-bit word with bit k for job k."
  pub sources : (k : ℕ) → bit before k ≡ v.arc k j
  pub targets : (k : ℕ) → bit after k ≡ v.arc j k

-- "0 no arc, 1 A to B, 2 B to A, 3 both"
pub data Arcs (v : View) (a b : ℕ) : ℕ → Type 0 where
  no_arc : (Arc v a b → ⊥) → (Arc v b a → ⊥) → Arcs v a b 0
  forth : Arc v a b → (Arc v b a → ⊥) → Arcs v a b 1
  back : (Arc v a b → ⊥) → Arc v b a → Arcs v a b 2
  both : Arc v a b → Arc v b a → Arcs v a b 3

-- "the gap, which is E of B minus D of A and may be negative"
pub record Gap (v : View) (a b : ℕ) (gap : ℤ) : Type 0 where
  pub is : gap ≡ E v b -ℤ D v a
  -- so many minutes after the latest end of A is the earliest start of B
  pub minutes : (D v a +ℤ gap) ≡ E v b
  -- below zero B may start before the latest end of A, at zero just then, above zero only later
  pub below : (gap <ℤ pos 0) ↔ (E v b <ℤ D v a)
  pub at : (gap ≡ pos 0) ↔ (E v b ≡ D v a)
  pub above : (pos 0 <ℤ gap) ↔ (D v a <ℤ E v b)

-- "Pair of A, B [..]. If either is invalid, both numbers are 0."
pub record PairShows (v : View) (a b : ℕ) (r : PairReply) : Type 0 where
  pub arcs : ℕ
  pub gap : ℤ
  pub is : r ≡ shows_pair arcs gap
  pub live : Live v a → Live v b → Arcs v a b arcs × Gap v a b gap
  pub invalid : Invalid v a ⊎ Invalid v b → (arcs ≡ 0) × (gap ≡ pos 0)
