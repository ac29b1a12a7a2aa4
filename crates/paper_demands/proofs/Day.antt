-- What the demands alone say of one day at a dock, and of a few smaller sequences. Each field of the demands is used here by name, at the
-- limit of its premises, so that none can be dropped, emptied or given a premise that can't be met.
use Rattle.std.specs.Prelude.{◌≡◌, refl, ◌≢◌, ◌⊎◌, true, ℕ, ◌≤◌, ◌<◌, ℤ, pos, ◌+ℤ◌, ◌≤ℤ◌, ◌<ℤ◌, Some, Ok}
use Rattle.std.proofs.Common.{sym, ap, ◌∙◌, inr, arith}
use Rattle.std.proofs.Math.Path.{subst, subst⁻¹}
use mathlib.Core.List.{List, [], ◌∷◌, ◌++◌, Memᴰ}
use Rattle.std.proofs.Math.Option.{none, some}
use Rattle.ground_sets.specs.Bit.{bit}
use Rattle.ground_arithmetic.specs.Bools.{clash, refuted}
use Rattle.ground_arithmetic.specs.Linear.{whole}
use Rattle.paper_board.specs.declared.Board.{Board}
use Rattle.paper_board.specs.declared.Refusal.TheVariants as Refused
use Rattle.paper_rules.specs.Paper.Closed.{Closed, LeastClosed, Contradiction}
use Rattle.paper_rules.specs.Paper.Entries.{Entries}
use Rattle.paper_board.specs.Paper.Limits.{BooksWithin, empty_board}
use Rattle.paper_board.specs.Paper.Parts.{empty_books, with_tally}
use Rattle.paper_rules.specs.Paper.Rules.{E}
use Rattle.paper_rules.specs.Paper.Schedules.{Placing, Placed, Schedule}
use Rattle.paper_board.specs.Paper.View.{View, Arc, view, row_of}
use Rattle.paper_rules.specs.Order.Empty.{within_empty_books}
use Rattle.paper_rules.specs.Update.StoreWithin.{within_tally}
use Rattle.paper_entries.specs.AnsweredImpossible.{answered_impossible}
use Rattle.paper_entries.specs.Paper.Replies.{shows_row, row_reply_of, shows_pair, pair_reply_of}
use Rattle.paper_entries.specs.Paper.Enter.{counted, enter}
use Rattle.paper_entries.specs.Paper.Entry.{arc, entries, other, with_entry}
use Rattle.paper_entries.specs.Paper.Outcome.{Outcome}
use Rattle.paper_entries.specs.Paper.Looking
use Rattle.paper_entries.specs.Paper.Sequence.{kept, Each, final_board, accepted_by}
use Rattle.paper_plans.specs.Paper.PlanReply.{plan_found, plan_none, plan_spent, plan_reply_of}
use Rattle.paper_plans.specs.Paper.ReplyWithin.{IsBudget, taken, tries_taken, reply_within}
use Rattle.paper_plans.specs.Paper.Planner
use Rattle.paper_plans.specs.Paper.Tries
use Rattle.paper_plans.specs.Paper.Tries.{plan_of}
use Rattle.paper_requests.specs.Paper.Requests.{Request, entry, row, a-cut, sort_of, refusal, board_after}
use Rattle.paper_demands.specs.Paper.Views.{Arcs, no_arc, forth, back, both, PairShows}
use Rattle.paper_demands.specs.Demands.{InOrder, Demand2, PlanEnds, Demand3, Demands}
use Rattle.paper_demands.proofs.Consequences.{any_order, any_repeat}
use Rattle.paper_requests.specs.SampleEntries.{job, marked, arrow, cut_to}
use Rattle.paper_requests.specs.Samples.{day, booked, swapped, repeated, too_long, apart, crowded, full_books, computed, day_facts}

abbrev day_board : Board
day_board = final_board empty_books day

abbrev day_entries : Entries
day_entries = entries (accepted_by empty_books day)

within_full_books : BooksWithin full_books
within_full_books = within_tally empty_books 1000000 within_empty_books (omega arith)

different : (i k : ℕ) → i < k → i ≢ k
different i k l e = omega (arith, e)

budget : (n : ℕ) → n ≤ 1000000 → IsBudget (pos n)
budget n l = (omega whole, omega whole)

-- an arc one way alone
one_way : (v : View) (a b n : ℕ) → Arcs v a b n → Arc v a b → (Arc v b a → ⊥) → n ≡ 1
one_way v a b _ (no_arc x y) h k = absurd (x h)
one_way v a b _ (forth x y) h k = refl
one_way v a b _ (back x y) h k = absurd (x h)
one_way v a b _ (both x y) h k = absurd (k y)

module _ (demands : Demands) where
  -- ---- demand 1

  -- no arc is refused as full, whatever the board
  pub arc_not_full : (b : Board) (x y : ℤ) → refusal b (entry (other (arc x y))) ≡ some 1 → ⊥
  arc_not_full b x y q = none_is_one (demands.first.refusals b (entry (other (arc x y))) 1 q)
    where
      none_is_one : Memᴰ {A = ℕ} 1 (0 ∷ 2 ∷ 3 ∷ 8 ∷ []) → ⊥
      none_is_one (Memᴰ.head e) = omega (arith, e)
      none_is_one (Memᴰ.tail (Memᴰ.head e)) = omega (arith, e)
      none_is_one (Memᴰ.tail (Memᴰ.tail (Memᴰ.head e))) = omega (arith, e)
      none_is_one (Memᴰ.tail (Memᴰ.tail (Memᴰ.tail (Memᴰ.head e)))) = omega (arith, e)
      none_is_one (Memᴰ.tail (Memᴰ.tail (Memᴰ.tail (Memᴰ.tail m)))) = elim m [ ]

  -- some cut is refused for its window
  pub cut_windowless : (b : Board) × (q : Request) × (sort_of q ≡ a-cut) × (refusal b q ≡ some 6)
  cut_windowless =
      let m = demands.first.met a-cut 6 (Memᴰ.tail (Memᴰ.tail (Memᴰ.tail (Memᴰ.head refl)))) in
      (m.board, m.request, m.sort, m.refused)

  -- a board whose tally is above its limit is refused; the board after the day is not
  pub over_tallied : refusal (empty_board (with_tally empty_books 1000001)) (row (pos 0)) ≡ some 0
  over_tallied = (demands.first.board (empty_board (with_tally empty_books 1000001)) (row (pos 0))).1 λ o. omega (arith, o.books.tally)

  day_in_order : InOrder day_board
  day_in_order = (demands.third empty_books within_empty_books day).in_order

  pub day_handed_on : (q : Request) → refusal day_board q ≡ some 0 → ⊥
  day_handed_on q e = (demands.first.board day_board q).0 e day_in_order

  -- an arc from a job to itself is refused with 3, and leaves the board as it was
  pub self_arc_refused : refusal day_board (entry (arrow 2 2)) ≡ some 3
  self_arc_refused = demands.first.table day_board (entry (arrow 2 2)) day_in_order Refused.Same day_facts.same_checks

  pub self_arc_kept : board_after day_board (entry (arrow 2 2)) ≡ day_board
  self_arc_kept = demands.first.kept day_board (entry (arrow 2 2)) 3 self_arc_refused λ e. omega (arith, e)

  -- a mark that meets no check gives a result or 8
  pub mark_passed : (refusal day_board (entry (marked 3 1)) ≡ none) ⊎ (refusal day_board (entry (marked 3 1)) ≡ some 8)
  mark_passed = demands.first.passed day_board (entry (marked 3 1)) day_in_order day_facts.mark_checks

  -- the impossible cut counts one and alters nothing else
  pub cut_counted : board_after day_board (entry (cut_to 2 0 34)) ≡ counted day_board
  cut_counted = demands.first.one_more day_board (entry (cut_to 2 0 34)) day_facts.cut

  -- ---- demand 2, after the day and of its board handed in

  after_day : Demand2 day_entries day_board
  after_day = demands.second_after empty_books within_empty_books day

  -- the undecided job is marked valid: the least closed board, and the same tally
  pub mark_least : LeastClosed (with_entry day_entries (marked 3 1)) (enter day_board (marked 3 1)).board
  mark_least = after_day.least (marked 3 1) day_facts.validated

  pub mark_tally : (enter day_board (marked 3 1)).board.books.tally ≡ 1
  mark_tally = after_day.tally (marked 3 1) day_facts.validated ∙ day_facts.tally

  -- a fifth job has number 4
  pub fifth : (enter day_board (job 1 0 100)).answer ≡ Ok (Some 4)
  fifth = after_day.answer (job 1 0 100) day_facts.added ∙ ap (λ k. Ok (Some k)) day_facts.jobs

  -- the cut contradicts the day, and so is refused
  pub cut_contradicts : Contradiction (with_entry day_entries (cut_to 2 0 34))
  cut_contradicts = (after_day.impossible (cut_to 2 0 34) day_facts.cut_checks).0 day_facts.cut

  pub cut_refused : refusal day_board (entry (cut_to 2 0 34)) ≡ some 8
  cut_refused = (after_day.impossible (cut_to 2 0 34) day_facts.cut_checks).1 cut_contradicts

  -- the row of job 2: valid, from 30 to 100, job 0 before it and none after
  pub row_shown : (before after : ℕ) × (row_reply_of (Looking.row day_board (pos 2)) ≡ shows_row 1 (pos 30) (pos 100) before after)
      × (bit before 0 ≡ true) × ((k : ℕ) → bit after k ≡ (view day_board).arc 2 k) × (1 ≤ 2)
  row_shown =
      let r = (demands.second day_board day_in_order).rows 2 day_facts.third.0 in (
        r.before,
        r.after,
        r.is ∙ rw (day_facts.mark, day_facts.earliest, day_facts.end),
        r.sources 0 ∙ day_facts.arcs.2,
        r.targets,
        subst (λ m. m ≤ 2) day_facts.mark r.mark,
      )

  -- jobs 0 and 2: an arc, and job 2 may start 45 minutes before the latest end of job 0
  pub pair_shown : (gap : ℤ) × (pair_reply_of (Looking.pair day_board (pos 0) (pos 2)) ≡ shows_pair 1 gap) × (gap <ℤ pos 0) × (pos 75 +ℤ gap ≡ pos 30)
  pair_shown =
      let p = after_day.pairs 0 2 day_facts.first.0 day_facts.third.0 (different 0 2 (omega arith)) in
      let (arcs, gap) = p.live day_facts.first day_facts.third in (
        p.gap,
        p.is ∙ ap (λ n. shows_pair n p.gap) (one_way (view day_board) 0 2 p.arcs arcs day_facts.arcs.2 (refuted day_facts.back)),
        gap.below.1 (omega (whole, day_facts.earliest, day_facts.latest)),
        ap (λ d. d +ℤ p.gap) (sym day_facts.latest) ∙ gap.minutes ∙ day_facts.earliest,
      )

  -- two tries are not enough, and three are
  plan_three : plan_reply_of (Planner.plan day_board (pos 3)) ≡ plan_found 3 (plan_of (view day_board) (2 ∷ 1 ∷ 0 ∷ []))
  plan_three = after_day.plans (pos 3) (budget 3 (omega arith)) ∙ ap (reply_within (view day_board) 3) day_facts.found

  -- of jobs that lie apart: a gap of 0, a gap above 0, and none for an invalid job
  abbrev apart_board : Board
  apart_board = final_board empty_books apart

  apart_pair : (x y : ℕ) → x < apart_board.jobs → y < apart_board.jobs → x ≢ y
      → PairShows (view apart_board) x y (pair_reply_of (Looking.pair apart_board (pos x) (pos y)))
  apart_pair = (demands.second_after empty_books within_empty_books apart).pairs

  pub gap_zero : (n : ℕ) × (pair_reply_of (Looking.pair apart_board (pos 0) (pos 1)) ≡ shows_pair n (pos 0))
  gap_zero =
      let facts = computed.apart in
      let p = apart_pair 0 1 facts.live.0.0 facts.live.1.0 (different 0 1 (omega arith)) in
      (p.arcs, p.is ∙ ap (shows_pair p.arcs) ((p.live facts.live.0 facts.live.1).1.at.1 (facts.next ∙ sym facts.ends)))

  pub gap_fifteen : (n : ℕ) × (pair_reply_of (Looking.pair apart_board (pos 0) (pos 2)) ≡ shows_pair n (pos 15)) × (pos 0 <ℤ pos 15)
  gap_fifteen =
      let facts = computed.apart in
      let p = apart_pair 0 2 facts.live.0.0 facts.live.2.0 (different 0 2 (omega arith)) in
      let gap = (p.live facts.live.0 facts.live.2).1 in
      let fifteen : p.gap ≡ pos 15 = gap.is ∙ rw (facts.later, facts.ends) in (
        p.arcs,
        p.is ∙ ap (shows_pair p.arcs) fifteen,
        subst (λ z. pos 0 <ℤ z) fifteen (gap.above.1 (omega (whole, facts.later, facts.ends))),
      )

  pub invalid_pair : pair_reply_of (Looking.pair apart_board (pos 0) (pos 3)) ≡ shows_pair 0 (pos 0)
  invalid_pair =
      let facts = computed.apart in
      let p = apart_pair 0 3 facts.live.0.0 facts.invalid.0 (different 0 3 (omega arith)) in
      let (arcs, gap) = p.invalid (inr facts.invalid) in
      p.is ∙ rw (arcs, gap)

  -- ---- demand 3

  the_day : Demand3 empty_books day
  the_day = demands.third empty_books within_empty_books day

  -- on every closed board, and in every schedule, job 2 starts at 30 or later
  pub closed_later : (c : Board) → Closed day_entries c → ((view c).row 2).mark ≢ 2 → pos 30 ≤ℤ E (view c) 2
  closed_later c k live =
      subst (λ z. z ≤ℤ E (view c) 2) day_facts.earliest ((the_day.least.least c k).raised 2 day_facts.third.0 live)

  pub scheduled_later : (p : Placing) → Schedule day_entries p → Placed p 2 → pos 30 ≤ℤ p.start 2
  scheduled_later p s placed = subst (λ z. z ≤ℤ p.start 2) day_facts.earliest ((the_day.nothing_lost p s).earliest 2 placed)

  -- the arcs 0 to 1 and 1 to 2 give 0 to 2
  pub through : Arc (view day_board) 0 2
  through =
      the_day.joined 0 1 2 day_facts.arcs.0 day_facts.arcs.1 day_facts.second day_facts.first day_facts.third

  -- the phones rang in another order, on a board with a full tally: job 2 has the same E; and one of them rang twice
  pub day_swapped : (row_of (final_board full_books swapped) 2).earliest ≡ pos 30
  day_swapped =
      let same = any_order empty_books day the_day full_books within_full_books swapped booked [] (arc (pos 1) (pos 2)) (arrow 0 1) computed.accepted computed.swapped in
      sym (ap (λ r. r.earliest) (same.alike.rows 2)) ∙ day_facts.earliest

  pub day_repeated : (row_of (final_board full_books repeated) 2).earliest ≡ pos 30
  day_repeated =
      let same =
      any_repeat full_books repeated (demands.third full_books within_full_books repeated) full_books within_full_books swapped
      (booked ++ arrow 1 2 ∷ arrow 0 1 ∷ []) [] (arc (pos 1) (pos 2))
      (Memᴰ.tail (Memᴰ.tail (Memᴰ.tail (Memᴰ.tail (Memᴰ.head refl)))))
      computed.repeated computed.swapped in
      ap (λ r. r.earliest) (same.alike.rows 2) ∙ day_swapped

  -- two tries are not enough; three are, and the plan that they find is a schedule of the day
  pub two_spent : plan_reply_of (Planner.plan day_board (pos 2)) ≡ plan_spent 2
  two_spent = (the_day.planner (pos 2) (budget 2 (omega arith))).spent.1 (subst⁻¹ (λ o. 2 < taken o) day_facts.found (omega arith))

  abbrev Found : List ℕ → Type 0
  Found ps =
      (plan_reply_of (Planner.plan day_board (pos 3)) ≡ plan_found (tries_taken (view day_board)) (plan_of (view day_board) ps))
      × Schedule day_entries (plan_of (view day_board) ps)

  pub three_found : Found (2 ∷ 1 ∷ 0 ∷ [])
  three_found =
      let plan =
      (the_day.planner (pos 3) (budget 3 (omega arith))).found
      (subst⁻¹ (λ o. taken o ≤ 3) day_facts.found (omega arith))
      λ q. found_is_not_none (sym plan_three ∙ q) in
      let same : plan.jobs ≡ 2 ∷ 1 ∷ 0 ∷ [] = same_jobs (sym plan.tried ∙ day_facts.found) in
      subst Found same (plan.given, plan.schedule)
    where
      found_is_not_none : {t u : ℕ} {p : Placing} → plan_found t p ≡ plan_none u → ⊥
      found_is_not_none {t} {u} {p} q = clash (cc)

      same_jobs : {t u : ℕ} {ps qs : List ℕ} → Tries.found t ps ≡ Tries.found u qs → ps ≡ qs
      same_jobs {t} {u} {ps} {qs} q = cc

  -- of the day's board handed in: spent only where the tries take more
  pub handed_spent : plan_reply_of (Planner.plan day_board (pos 2)) ≡ plan_spent 2 → 2 < tries_taken (view day_board)
  handed_spent = (demands.handed day_board day_in_order (pos 2) (budget 2 (omega arith))).spent.0

  -- of two calls, the second has no closed board and no schedule with the first
  second_entered : Demand3 empty_books too_long
  second_entered = demands.third empty_books within_empty_books too_long

  pub second_contradicts : Contradiction (with_entry (entries (job 10 0 100 ∷ [])) (job 10000 0 9999))
  unfolding Each
  second_contradicts =
      let b = (enter (empty_board empty_books) (job 10 0 100)).board in
      let ends : Outcome (entries (job 10 0 100 ∷ [])) b (job 10000 0 9999) (enter b (job 10000 0 9999)) =
      subst (λ r. Outcome (entries (kept r (job 10 0 100))) b (job 10000 0 9999) (enter b (job 10000 0 9999))) computed.first second_entered.answers.1.0 in
      (answered_impossible b (job 10000 0 9999) _ _ (enter b (job 10000 0 9999)) ends computed.second).1

  pub second_unscheduled : Contradiction (entries (job 10 0 100 ∷ job 10000 0 9999 ∷ []))
      × ((p : Placing) → Schedule (entries (job 10 0 100 ∷ job 10000 0 9999 ∷ [])) p → ⊥)
  unfolding Each
  second_unscheduled =
      subst
      (λ r. Contradiction (entries (kept r (job 10 0 100) ++ job 10000 0 9999 ∷ []))
      × ((p : Placing) → Schedule (entries (kept r (job 10 0 100) ++ job 10000 0 9999 ∷ [])) p → ⊥))
      computed.first
      (second_entered.impossible.1.0 computed.second)

  -- fifteen tries are just enough to see that three jobs of 10 minutes don't fit into 25
  the_crowd : PlanEnds (entries (accepted_by empty_books crowded)) (final_board empty_books crowded) (pos 15)
  the_crowd = (demands.third empty_books within_empty_books crowded).planner (pos 15) (budget 15 (omega arith))

  enough : tries_taken (view (final_board empty_books crowded)) ≤ 15
  enough = subst⁻¹ (λ o. taken o ≤ 15) computed.none (omega arith)

  pub crowd_unscheduled : (p : Placing) → Schedule (entries (accepted_by empty_books crowded)) p → ⊥
  crowd_unscheduled =
      (the_crowd.none enough).0
      ((demands.second_after empty_books within_empty_books crowded).plans (pos 15) (budget 15 (omega arith))
      ∙ ap (reply_within (view (final_board empty_books crowded)) 15) computed.none
      ∙ ap (λ o. plan_none (taken o)) (sym computed.none))

  pub crowd_none : plan_reply_of (Planner.plan (final_board empty_books crowded) (pos 15)) ≡ plan_none 15
  crowd_none = (the_crowd.none enough).1 crowd_unscheduled ∙ ap (λ o. plan_none (taken o)) computed.none

  -- a full tally stays
  pub tally_full : (final_board full_books day).books.tally ≡ 1000000
  tally_full = (demands.third full_books within_full_books day).tally ∙ rw computed.impossibles
