-- The customer's three demands, a record each, his sentence over each field; and `Demands`, all three of all that they speak of.
use Rattle.std.specs.Prelude.{◌≡◌, ◌≢◌, ◌⊎◌, ◌↔◌, ℕ, ◌+◌, ◌<◌, ◌≤◌, min, ℤ, pos}
use mathlib.Core.List.{List, [], ◌∷◌, ◌++◌, Memᴰ}
use Rattle.std.proofs.Math.Option.{none, some}
use Rattle.paper_board.specs.declared.Board.{Board}
use Rattle.paper_board.specs.declared.Books.{Books}
use Rattle.paper_board.specs.declared.Refusal.{Refusal}
use Rattle.paper_board.specs.Paper.Refusals.{number_of}
use Rattle.paper_board.specs.Paper.View.{Live, Valid, Arc, view}
use Rattle.paper_board.specs.Paper.Limits.{tally_limit, BooksWithin, empty_board}
use Rattle.paper_rules.specs.Paper.Entries.{Entries, shown}
use Rattle.paper_rules.specs.Paper.Closed.{Closed, LeastClosed, Contradiction}
use Rattle.paper_rules.specs.Paper.Schedules.{Placing, Schedule, Keeps}
use Rattle.paper_board.specs.Paper.Equality.{Same}
use Rattle.paper_entries.specs.Paper.Entry.{Entry, number, entries, SameEntries, with_entry}
use Rattle.paper_entries.specs.Paper.Checks.{checks, first_refusal}
use Rattle.paper_entries.specs.Paper.Enter.{acceptance, counted, enter}
use Rattle.paper_entries.specs.Paper.Replies.{no_number, reply_of, row_reply_of, pair_reply_of}
use Rattle.paper_entries.specs.Paper.Outcome.{Outcome}
use Rattle.paper_entries.specs.Paper.Looking
use Rattle.paper_entries.specs.Paper.Sequence.{Call, outcome, final_board, accepted_by, impossibles, Each}
use Rattle.paper_plans.specs.Paper.PlanReply.{plan_found, plan_none, plan_spent, plan_reply_of}
use Rattle.paper_plans.specs.Paper.ReplyWithin.{IsBudget, tries_taken, reply_within}
use Rattle.paper_plans.specs.Paper.Tries
use Rattle.paper_plans.specs.Paper.Tries.{plan_of, tries}
use Rattle.paper_plans.specs.Paper.Planner
use Rattle.paper_plans.specs.Paper.Planner.{valid_jobs}
use Rattle.paper_requests.specs.Paper.Requests.{Request, entry, Sort, sort_of, refusals_of, checks_of, refusal, board_after, Met}
use Rattle.paper_demands.specs.Paper.Views.{RowShows, PairShows}

-- what check 0 asks of a board: its limits kept and nothing kept twice that doesn't agree (`Within`, `BooksWithin`), and closed "over
-- what it shows"
abbrev pub InOrder : Board → Type 0
InOrder b = Closed (shown (view b)) b

-- Of every call, with any numbers, on any board handed in.
pub record Demand1 : Type 0 where
  -- "The answer to every call, with any numbers and any board handed in, is a result or a refusal from the paper's table": no other
  -- than one of this very call's
  pub refusals : (b : Board) (q : Request) (r : ℕ) → refusal b q ≡ some r → Memᴰ r (refusals_of (sort_of q))
  -- and each of these is given to some call
  pub met : (s : Sort) (r : ℕ) → Memᴰ r (refusals_of s) → Met s r
  -- "checked by the call itself": 0 exactly where "the board handed in breaks a limit above, keeps something twice that doesn't
  -- agree, or isn't closed over what it shows"
  pub board : (b : Board) (q : Request) → (refusal b q ≡ some 0) ↔ (InOrder b → ⊥)
  -- otherwise the refusal of the first check that refuses it; and where none does, a result or 8
  pub table : (b : Board) (q : Request) → InOrder b → (r : Refusal) → first_refusal (checks_of b.jobs q) ≡ some r
      → refusal b q ≡ some (number_of r)
  pub passed : (b : Board) (q : Request) → InOrder b → first_refusal (checks_of b.jobs q) ≡ none → (refusal b q ≡ none) ⊎ (refusal b q ≡ some 8)
  -- "a refusal leaves the board equal to what it was, but for the tally of impossible entries": one more, stopped at its limit
  pub kept : (b : Board) (q : Request) (r : ℕ) → refusal b q ≡ some r → r ≢ 8 → board_after b q ≡ b
  pub one_more : (b : Board) (q : Request) → refusal b q ≡ some 8 → board_after b q ≡ counted b

-- Of a board b that holds the entries es: a board handed in holds those that it shows, and the board after a sequence all that were
-- accepted.
pub record Demand2 (es : Entries) (b : Board) : Type 0 where
  -- "The board after each accepted entry is the least closed board of the paper"; its tally stays
  pub least : (e : Entry) → refusal b (entry e) ≡ none → LeastClosed (with_entry es e) (enter b e).board
  pub tally : (e : Entry) → refusal b (entry e) ≡ none → (enter b e).board.books.tally ≡ b.books.tally
  -- an addition "gives the job's number"
  pub answer : (e : Entry) → refusal b (entry e) ≡ none → (enter b e).answer ≡ acceptance b.jobs e
  -- "an entry that passes the earlier checks is refused as impossible exactly when that closure is a contradiction"
  pub impossible : (e : Entry) → first_refusal (checks b.jobs e) ≡ none → (refusal b (entry e) ≡ some 8) ↔ Contradiction (with_entry es e)
  -- "views show that board"
  pub rows : (j : ℕ) → j < b.jobs → RowShows (view b) j (row_reply_of (Looking.row b (pos j)))
  pub pairs : (x y : ℕ) → x < b.jobs → y < b.jobs → x ≢ y → PairShows (view b) x y (pair_reply_of (Looking.pair b (pos x) (pos y)))
  -- "the planner's plan, count and ending are those of the paper's tries"
  pub plans : (z : ℤ) → IsBudget z
      → plan_reply_of (Planner.plan b z) ≡ reply_within (view b) (number z) (tries (view b) (valid_jobs (view b)))

-- "the plan of those tries, which is one of their schedules"
pub record PlanFound (es : Entries) (b : Board) (z : ℤ) : Type 0 where
  pub jobs : List ℕ
  pub tried : tries (view b) (valid_jobs (view b)) ≡ Tries.found (tries_taken (view b)) jobs
  pub given : plan_reply_of (Planner.plan b z) ≡ plan_found (tries_taken (view b)) (plan_of (view b) jobs)
  pub schedule : Schedule es (plan_of (view b) jobs)

-- The planner with a budget within its limits, on a board that holds the entries es.
pub record PlanEnds (es : Entries) (b : Board) (z : ℤ) : Type 0 where
  -- it "answers spent exactly when the paper's tries do"
  pub spent : (plan_reply_of (Planner.plan b z) ≡ plan_spent (number z)) ↔ (number z < tries_taken (view b))
  -- "else it says none exactly when the accepted entries have no schedule"
  pub none : tries_taken (view b) ≤ number z
      → (plan_reply_of (Planner.plan b z) ≡ plan_none (tries_taken (view b))) ↔ ((p : Placing) → Schedule es p → ⊥)
  -- "and otherwise gives the plan of those tries, which is one of their schedules"
  pub found : tries_taken (view b) ≤ number z → (plan_reply_of (Planner.plan b z) ≡ plan_none (tries_taken (view b)) → ⊥) → PlanFound es b z

-- "For every sequence of additions, arcs, marks and cuts, refused ones included, from an empty board", of any length, in either
-- manner and with any numbers: one claim over the whole sequence.
pub record Demand3 (books : Books) (cs : List Call) : Type 1 where
  -- "after it, the board is the paper's least closed one over all accepted entries", and in order
  pub least : LeastClosed (entries (accepted_by books cs)) (final_board books cs)
  pub in_order : InOrder (final_board books cs)
  -- "no schedule is lost": "every schedule of these keeps the shown windows, arcs and marks"
  pub nothing_lost : (p : Placing) → Schedule (entries (accepted_by books cs)) p → Keeps (view (final_board books cs)) p
  -- "Arcs A to B and B to C with B valid, A and C live, show A to C."
  pub joined : let v = view (final_board books cs) in (a b c : ℕ) → Arc v a b → Arc v b c → Valid v b → Live v a → Live v c → Arc v a c
  -- "An entry is accepted when its call gives no refusal; whether it gives one, and which, is just as the checks of the table say":
  -- each call, and the board after it, in its turn
  pub answers : Each (λ b before c. Outcome (entries before) b c.entry (outcome b c)) (empty_board books) [] cs
  -- "Each entry refused as impossible has no schedule together with those accepted before it", and no closed board either
  pub impossible :
      Each
      (λ b before c. reply_of (outcome b c).answer ≡ no_number 8
      → Contradiction (entries (before ++ c.entry ∷ [])) × ((p : Placing) → Schedule (entries (before ++ c.entry ∷ [])) p → ⊥))
      (empty_board books) [] cs
  -- "Any two such sequences that accepted the same jobs in the same order and the same set of other entries end in equal boards,
  -- tally aside."
  pub orderless : (books' : Books) (cs' : List Call) → BooksWithin books' → SameEntries (accepted_by books cs) (accepted_by books' cs')
      → Same (final_board books cs) (final_board books' cs')
  -- "And after every such sequence the planner, with any budget within its limits"
  pub planner : (z : ℤ) → IsBudget z → PlanEnds (entries (accepted_by books cs)) (final_board books cs) z
  -- "The board carries a tally of calls answered 8. It [..] stops at 1000000."
  pub tally : (final_board books cs).books.tally ≡ min (books.tally + impossibles (empty_board books) cs) tally_limit

-- All three: of every call on every board; of every board handed in that is in order, and of the board after every sequence; and of
-- every sequence.
pub record Demands : Type 1 where
  pub first : Demand1
  pub second : (b : Board) → InOrder b → Demand2 (shown (view b)) b
  pub second_after : (books : Books) → BooksWithin books → (cs : List Call) → Demand2 (entries (accepted_by books cs)) (final_board books cs)
  pub third : (books : Books) → BooksWithin books → (cs : List Call) → Demand3 books cs
  -- the planner's clause of the third, of every board handed in
  pub handed : (b : Board) → InOrder b → (z : ℤ) → IsBudget z → PlanEnds (shown (view b)) b z
