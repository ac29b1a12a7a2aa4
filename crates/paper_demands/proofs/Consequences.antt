-- What follows from the demands alone, of any call on any board and of any sequence. With `Day.antt` it uses the fields of the demands for
-- every board, call and budget that they speak of, so that none can be narrowed unseen.
use Rattle.std.specs.Prelude.{◌≡◌, refl, ◌≢◌, ◌⊎◌, ◌↔◌, ℕ, ◌≤◌, ◌<◌, ℤ, pos, ◌+ℤ◌, ◌-ℤ◌, ◌<ℤ◌}
use Rattle.std.proofs.Common.{sym, ap, subst, ◌∙◌, inl, inr, ⊎_elim, arith}
use Rattle.std.proofs.Math.Path.{subst⁻¹}
use mathlib.Core.List.{List, [], ◌∷◌, ◌++◌, append-nil, append_assoc, Memᴰ}
use Rattle.std.proofs.Math.Option.{none, some}
use Rattle.std.proofs.Math.Decide.{ℕ_discrete}
use Rattle.ground_sets.specs.Bit.{bit}
use Rattle.ground_arithmetic.specs.Bools.{clash}
use Rattle.paper_board.specs.declared.Board.{Board}
use Rattle.paper_board.specs.declared.Books.{Books}
use Rattle.paper_board.specs.declared.Refusal.{Refusal}
use Rattle.paper_rules.proofs.LeastClosed.{closed_least}
use Rattle.paper_rules.specs.Paper.Closed.{Closed, Least, Contradiction}
use Rattle.paper_rules.specs.Paper.Entries.{Entries, shown}
use Rattle.paper_board.specs.Paper.Equality.{Same}
use Rattle.paper_board.specs.Paper.Limits.{BooksWithin, empty_board}
use Rattle.paper_board.specs.Paper.Parts.{with_books, with_tally}
use Rattle.paper_rules.specs.Paper.Rules.{E, D}
use Rattle.paper_rules.specs.Paper.Schedules.{Placing, Schedule}
use Rattle.paper_board.specs.Paper.View.{View, Live, Valid, Invalid, Arc, view}
use Rattle.paper_entries.specs.Paper.Replies.{no_number, reply_of, shows_row, row_reply_of, shows_pair, pair_reply_of}
use Rattle.paper_entries.specs.Paper.Enter.{acceptance, enter}
use Rattle.paper_entries.specs.Paper.Entry.{Statement, Entry, other, number, entries, with_entry}
use Rattle.paper_entries.specs.Paper.Outcome.{Outcome}
use Rattle.paper_entries.specs.Paper.Checks.{checks, first_refusal}
use Rattle.paper_entries.specs.Paper.Looking
use Rattle.paper_entries.specs.Paper.Sequence.{Call, outcome, after, kept, accepted, impossibles, Each, final_board, accepted_by}
use Rattle.paper_entries.specs.SameSwapped.{same_swapped, same_repeated}
use Rattle.paper_plans.specs.Paper.PlanReply.{plan_found, plan_none, plan_spent, plan_reply_of}
use Rattle.paper_plans.specs.Paper.ReplyWithin.{IsBudget, tries_taken, reply_within}
use Rattle.paper_plans.specs.Paper.Planner.{valid_jobs, plan}
use Rattle.paper_plans.specs.Paper.Tries.{tries}
use Rattle.paper_requests.specs.Paper.Requests
use Rattle.paper_requests.specs.Paper.Requests.{Request, entry, row, pair, Sort, sort_of, refusals_of, checks_of, refusal, board_after}
use Rattle.paper_demands.specs.Paper.Views.{Arcs, no_arc, forth, back, both}
use Rattle.paper_demands.specs.Demands.{InOrder, Demand1, Demand2, PlanFound, PlanEnds, Demand3, Demands}
use Rattle.paper_demands.proofs.DemandsHold.{demands}

-- ---- demand 1

module _ (demand : Demand1) where
  -- a sort of call has a number exactly when some call of that sort, on some board, is refused with it
  pub numbers_exactly : (s : Sort) (r : ℕ)
      → Memᴰ r (refusals_of s) ↔ ((b : Board) × (q : Request) × (sort_of q ≡ s) × (refusal b q ≡ some r))
  numbers_exactly s r = (
    λ m. let w = demand.met s r m in (w.board, w.request, w.sort, w.refused),
    λ (b, q, e, f). subst (λ x. Memᴰ r (refusals_of x)) e (demand.refusals b q r f),
  )

  -- a board that one call refuses with 0, every call does
  pub zero_to_all : (b : Board) (q q' : Request) → refusal b q ≡ some 0 → refusal b q' ≡ some 0
  zero_to_all b q q' e = (demand.board b q').1 ((demand.board b q).0 e)

  -- a check that refuses gives the same number on any two boards in order with as many jobs
  pub number_of_jobs : (b c : Board) (q : Request) → InOrder b → InOrder c → b.jobs ≡ c.jobs → (r : Refusal)
      → first_refusal (checks_of b.jobs q) ≡ some r → refusal b q ≡ refusal c q
  number_of_jobs b c q o o' n r g =
      demand.table b q o r g ∙ sym (demand.table c q o' r (subst (λ k. first_refusal (checks_of k q) ≡ some r) n g))

  -- on a board in order a refusal other than 8 comes from a check that refuses
  pub by_a_check : (b : Board) (q : Request) → InOrder b → (r : ℕ) → refusal b q ≡ some r → r ≢ 8 → first_refusal (checks_of b.jobs q) ≢ none
  by_a_check b q o r e n g = ⊎_elim (λ h. clash (cc)) (λ h. n (cc)) (demand.passed b q o g)

  -- a refused call leaves the board equal to what it was, tally aside
  pub refused_same : (b : Board) (q : Request) (r : ℕ) → refusal b q ≡ some r → Same (board_after b q) b
  refused_same b q r e = go (ℕ_discrete r 8)
    where
      aside : (t : ℕ) → Same (with_books b (with_tally b.books t)) b
      aside t = record { alike = record { jobs = refl; rows = λ k. refl; arcs = λ i k. refl } }

      go : Dec (r ≡ 8) → Same (board_after b q) b
      go (yes i) = subst⁻¹ (λ c. Same c b) (demand.one_more b q (e ∙ ap some i)) (aside _)
      go (no n) = subst⁻¹ (λ c. Same c b) (demand.kept b q r e n) (aside b.books.tally)

-- an entry leaves the board that it hands back; the calls that look, with a result or without, alter nothing
pub entry_leaves : (b : Board) (e : Entry) → board_after b (entry e) ≡ (enter b e).board
entry_leaves b e = refl

pub looking_leaves : (b : Board) (x y : ℤ) → (board_after b (row x) ≡ b) × (board_after b (pair x y) ≡ b) × (board_after b (Requests.plan x) ≡ b)
looking_leaves b x y = (refl, refl, refl)

-- ---- demand 2

-- "0 no arc, 1 A to B, 2 B to A, 3 both", read from the number
pub record ArcsRead (v : View) (x y n : ℕ) : Type 0 where
  pub there : Arc v x y ↔ ((n ≡ 1) ⊎ (n ≡ 3))
  pub thence : Arc v y x ↔ ((n ≡ 2) ⊎ (n ≡ 3))

arcs_read : (v : View) (x y n : ℕ) → Arcs v x y n → ArcsRead v x y n
arcs_read v x y _ (no_arc f g) =
    record {
      there = (λ a. absurd (f a), ⊎_elim (λ e. absurd (omega (arith, e))) (λ e. absurd (omega (arith, e))));
      thence = (λ a. absurd (g a), ⊎_elim (λ e. absurd (omega (arith, e))) (λ e. absurd (omega (arith, e))));
    }
arcs_read v x y _ (forth a g) =
    record {
      there = (λ _. inl refl, λ _. a);
      thence = (λ h. absurd (g h), ⊎_elim (λ e. absurd (omega (arith, e))) (λ e. absurd (omega (arith, e))));
    }
arcs_read v x y _ (back f a) =
    record {
      there = (λ h. absurd (f h), ⊎_elim (λ e. absurd (omega (arith, e))) (λ e. absurd (omega (arith, e))));
      thence = (λ _. inl refl, λ _. a);
    }
arcs_read v x y _ (both a h) = record { there = (λ _. inr refl, λ _. a); thence = (λ _. inr refl, λ _. h) }

module _ (es : Entries) (b : Board) (demand : Demand2 es b) where
  -- whatever entry is accepted: the least board in the order of boards, the same tally, and the job's number
  pub accepted_least : (e : Entry) → refusal b (entry e) ≡ none
      → Least (with_entry es e) (enter b e).board × ((enter b e).board.books.tally ≡ b.books.tally) × ((enter b e).answer ≡ acceptance b.jobs e)
  accepted_least e q = (closed_least _ _ (demand.least e q), demand.tally e q, demand.answer e q)

  -- no entry is accepted whose closure is a contradiction, and none is refused as impossible where a closed board exists
  pub none_wrongly_accepted : (e : Entry) → first_refusal (checks b.jobs e) ≡ none → refusal b (entry e) ≡ none → Contradiction (with_entry es e) → ⊥
  none_wrongly_accepted e g q k = clash (cc ((demand.impossible e g).1 k))

  pub none_wrongly_refused : (e : Entry) → first_refusal (checks b.jobs e) ≡ none → (c : Board) → Closed (with_entry es e) c
      → refusal b (entry e) ≢ some 8
  none_wrongly_refused e g c k q = (demand.impossible e g).0 q c k

  -- any budget within its limits
  pub plan_exactly : (z : ℤ) → IsBudget z → plan_reply_of (plan b z) ≡ reply_within (view b) (number z) (tries (view b) (valid_jobs (view b)))
  plan_exactly = demand.plans

  -- the row of any job: what the call gives, and the sets before and after it
  pub row_exactly : (j : ℕ) → j < b.jobs
      → (before after : ℕ)
      × (row_reply_of (Looking.row b (pos j)) ≡ shows_row ((view b).row j).mark (E (view b) j) (D (view b) j) before after)
      × ((k : ℕ) → bit before k ≡ (view b).arc k j) × ((k : ℕ) → bit after k ≡ (view b).arc j k)
  row_exactly j l = let r = demand.rows j l in (r.before, r.after, r.is, r.sources, r.targets)

  -- a mark other than 0 and 1 is 2
  pub row_mark : (j : ℕ) → j < b.jobs → ((view b).row j).mark ≢ 0 → ((view b).row j).mark ≢ 1 → Invalid (view b) j
  row_mark j l m n = (l, omega (arith, (demand.rows j l).mark, m, n))

  -- any pair of live jobs: what the call gives, its arcs, and what the gap and its sign say; and 0 and 0 where either is invalid
  module _ (x y : ℕ) (l : x < b.jobs) (m : y < b.jobs) (n : x ≢ y) where
    pub pair_exactly : Live (view b) x → Live (view b) y
        → (k : ℕ) × (g : ℤ) × (pair_reply_of (Looking.pair b (pos x) (pos y)) ≡ shows_pair k g) × ArcsRead (view b) x y k
        × (g ≡ E (view b) y -ℤ D (view b) x) × ((D (view b) x +ℤ g) ≡ E (view b) y)
        × ((g <ℤ pos 0) ↔ (E (view b) y <ℤ D (view b) x)) × ((g ≡ pos 0) ↔ (E (view b) y ≡ D (view b) x))
        × ((pos 0 <ℤ g) ↔ (D (view b) x <ℤ E (view b) y))
    pair_exactly lx ly =
        let p = demand.pairs x y l m n in
        let (a, g) = p.live lx ly in
        (p.arcs, p.gap, p.is, arcs_read _ x y _ a, g.is, g.minutes, g.below, g.at, g.above)

    pub pair_invalid : Invalid (view b) x ⊎ Invalid (view b) y → pair_reply_of (Looking.pair b (pos x) (pos y)) ≡ shows_pair 0 (pos 0)
    pair_invalid i =
        let p = demand.pairs x y l m n in
        let (a, g) = p.invalid i in
        p.is ∙ rw (a, g)

-- ---- demand 3

-- what holds of each call in turn holds of any one of them, on the board after those before it
turn : (P : Board → List Entry → Call → Type 0) (b : Board) (l : List Entry) (xs : List Call) (c : Call) (ys : List Call)
    → Each P b l (xs ++ c ∷ ys) → P (after b xs) (l ++ accepted b xs) c
unfolding Each after accepted
turn P b l [] c ys h = rw append-nil h.0
turn P b l (x ∷ xs) c ys h =
    rw (← append_assoc l (kept (reply_of (outcome b x).answer) x.entry) (accepted (outcome b x).board xs))
    (turn P (outcome b x).board (l ++ kept (reply_of (outcome b x).answer) x.entry) xs c ys h.1)

-- c is any call of a sequence, xs those before it and ys those after
module _ (books : Books) (xs : List Call) (c : Call) (ys : List Call) (demand : Demand3 books (xs ++ c ∷ ys)) where
  pub any_answered : Outcome (entries (accepted_by books xs)) (final_board books xs) c.entry (outcome (final_board books xs) c)
  any_answered = turn _ (empty_board books) [] xs c ys demand.answers

  pub any_impossible : reply_of (outcome (final_board books xs) c).answer ≡ no_number 8
      → Contradiction (entries (accepted_by books xs ++ c.entry ∷ []))
      × ((p : Placing) → Schedule (entries (accepted_by books xs ++ c.entry ∷ [])) p → ⊥)
  any_impossible = turn _ (empty_board books) [] xs c ys demand.impossible

-- the planner with any budget within its limits
module _ (es : Entries) (b : Board) (z : ℤ) (demand : PlanEnds es b z) where
  -- with a budget that is not enough nothing is found
  pub not_found : number z < tries_taken (view b) → (n : ℕ) (p : Placing) → plan_reply_of (plan b z) ≡ plan_found n p → ⊥
  not_found short n p e = clash (cc (demand.spent.1 short))

  module _ (enough : tries_taken (view b) ≤ number z) where
    pub not_spent : plan_reply_of (plan b z) ≡ plan_spent (number z) → ⊥
    not_spent e = omega (arith, demand.spent.0 e)

    -- entries without a schedule get none, and those with one get the schedule of the tries
    pub unscheduled_none : ((p : Placing) → Schedule es p → ⊥) → plan_reply_of (plan b z) ≡ plan_none (tries_taken (view b))
    unscheduled_none n = (demand.none enough).1 n

    pub scheduled_found : (p : Placing) → Schedule es p → PlanFound es b z
    scheduled_found p s = demand.found enough λ e. (demand.none enough).0 e p s

module _ (books : Books) (cs : List Call) (demand : Demand3 books cs) where
  -- no call after a sequence is answered 0
  pub never_zero : Demand1 → (q : Request) → refusal (final_board books cs) q ≡ some 0 → ⊥
  never_zero demand1 q e = (demand1.board (final_board books cs) q).0 e demand.in_order

  pub least_ordered : Least (entries (accepted_by books cs)) (final_board books cs)
  least_ordered = closed_least _ _ demand.least

  -- where what the board shows has no schedule, the entries have none
  pub shown_unscheduled : ((p : Placing) → Schedule (shown (view (final_board books cs))) p → ⊥)
      → (p : Placing) → Schedule (entries (accepted_by books cs)) p → ⊥
  shown_unscheduled n p s = n p (demand.nothing_lost p s)

  -- a valid job has no arcs both ways with a live one, as an arc from a job to itself would follow
  pub no_circle : let v = view (final_board books cs) in (x y : ℕ) → Arc v x y → Arc v y x → Valid v y → Live v x → ⊥
  no_circle x y xy yx vy lx = (demand.in_order.within.limits.arcs x x (demand.joined x y x xy yx vy lx lx)).2 refl

  -- calls of which none is answered 8 leave the tally
  pub tally_left : BooksWithin books → impossibles (empty_board books) cs ≡ 0 → (final_board books cs).books.tally ≡ books.tally
  tally_left fits n = demand.tally ∙ rw n (omega (arith, fits.tally))

  module _ (books' : Books) (fits : BooksWithin books') (cs' : List Call) (l m : List Entry) (s : Statement) where
    -- an arc, mark or cut may change places with the entry before it
    pub any_order : (x : Entry) → accepted_by books cs ≡ l ++ x ∷ other s ∷ m → accepted_by books' cs' ≡ l ++ other s ∷ x ∷ m
        → Same (final_board books cs) (final_board books' cs')
    any_order x e e' = demand.orderless books' cs' fits (rw (e, e') (same_swapped l m x s))

    -- one that was made before may be left out
    pub any_repeat : Memᴰ (other s) l → accepted_by books cs ≡ l ++ other s ∷ m → accepted_by books' cs' ≡ l ++ m
        → Same (final_board books cs) (final_board books' cs')
    any_repeat made e e' = demand.orderless books' cs' fits (rw (e, e') (same_repeated l m s made))

-- ---- all three

module _ (all : Demands) where
  -- whatever entry any board in order accepts, and whatever entry is accepted after any sequence: the least board
  pub handed_least : (b : Board) → InOrder b → (e : Entry) → refusal b (entry e) ≡ none → Least (with_entry (shown (view b)) e) (enter b e).board
  handed_least b o e q = (accepted_least (shown (view b)) b (all.second b o) e q).0

  pub next_least : (books : Books) → BooksWithin books → (cs : List Call) (e : Entry) → refusal (final_board books cs) (entry e) ≡ none
      → Least (with_entry (entries (accepted_by books cs)) e) (enter (final_board books cs) e).board
  next_least books fits cs e q = (accepted_least _ _ (all.second_after books fits cs) e q).0

  -- any board in order that shows no schedule gets none from the planner, where the budget is enough
  pub handed_none : (b : Board) → InOrder b → (z : ℤ) → IsBudget z → tries_taken (view b) ≤ number z
      → ((p : Placing) → Schedule (shown (view b)) p → ⊥) → plan_reply_of (plan b z) ≡ plan_none (tries_taken (view b))
  handed_none b o z fits = unscheduled_none (shown (view b)) b z (all.handed b o z fits)

-- the demands hold, so that all of this does: no call after any sequence is answered 0
pub never_answered_0 : (books : Books) → BooksWithin books → (cs : List Call) (q : Request) → refusal (final_board books cs) q ≡ some 0 → ⊥
never_answered_0 books fits cs = never_zero books cs (demands.third books fits cs) demands.first
