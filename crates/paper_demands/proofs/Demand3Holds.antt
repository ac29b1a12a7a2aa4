-- Demand 3 holds of every sequence of calls, from an empty board with any books within their limits: `demand3`; and its clause on the
-- planner of every board handed in: `handed_ends`.
use Rattle.std.specs.Prelude.{◌≡◌, refl, ◌↔◌, true, List, [], ◌∷◌, ◌++◌, ℕ, ◌≤◌, ℤ}
use Rattle.std.proofs.Common.{sym, ap, subst, ◌∙◌, arith}
use Rattle.std.proofs.Math.Decide.{ℕ_discrete}
use Rattle.ground_arithmetic.specs.Bools.{clash}
use Rattle.paper_board.specs.declared.Board.{Board}
use Rattle.paper_board.specs.declared.Books.{Books}
use Rattle.paper_rules.proofs.ObeysRules.{obeys_rules}
use Rattle.paper_rules.proofs.LeastClosed.{least_closed}
use Rattle.paper_rules.proofs.Leastness.{impossible_contradiction}
use Rattle.paper_rules.specs.Paper.Closed.{Least, Contradiction}
use Rattle.paper_rules.specs.Paper.Entries.{Entries, Admissible, shown}
use Rattle.paper_board.specs.Paper.Limits.{BooksWithin, empty_board}
use Rattle.paper_rules.specs.Paper.Rules.{Rules}
use Rattle.paper_rules.specs.Paper.Schedules.{Placing, Schedule}
use Rattle.paper_board.specs.Paper.View.{View, Live, Valid, Arc, view}
use Rattle.paper_rules.proofs.ScheduleClosed.{least_keeps, contradiction_unscheduled}
use Rattle.paper_closure.specs.Passes.{passes}
use Rattle.paper_closure.proofs.PassesClosed.{passes_closed, passes_least, obeys_passes, empty_passes}
use Rattle.paper_entries.specs.AnsweredImpossible.{answered_impossible}
use Rattle.paper_entries.proofs.HandedKeeps.{admissible_shown}
use Rattle.paper_entries.proofs.EntriesAgree.{agree_snoc, agreed}
use Rattle.paper_entries.proofs.LeastOrderless.{least_orderless}
use Rattle.paper_entries.specs.Paper.Replies.{no_number, reply_of}
use Rattle.paper_entries.specs.Paper.Enter.{enter}
use Rattle.paper_entries.specs.Paper.Entry.{Entry, number, entries}
use Rattle.paper_entries.specs.Paper.Sequence.{Call, final_board}
use Rattle.paper_entries.proofs.Played.{Held, admissible_snoc, each_held}
use Rattle.paper_entries.proofs.EnterOutcome.{step, enter_outcome, reached_least}
use Rattle.paper_entries.proofs.Tallied.{tallied}
use Rattle.paper_plans.proofs.PlanEnding.{within_spent, within_found, within_none, plan_ending, found_schedule, none_scheduled}
use Rattle.paper_plans.specs.Paper.PlanReply.{plan_none, plan_reply_of}
use Rattle.paper_plans.specs.Paper.ReplyWithin.{IsBudget, taken, tries_taken, reply_within}
use Rattle.paper_plans.specs.Paper.Planner.{valid_jobs, plan}
use Rattle.paper_plans.specs.Paper.Tries.{Ending, found, none, tries}
use Rattle.paper_demands.specs.Demands.{InOrder, PlanFound, PlanEnds, Demand3}
use Rattle.paper_demands.specs.Held.{held_empty, held}

-- R1 asks that A and C differ; an arc back to A would make A invalid (R2)
join : (v : View) → Rules v → (a b c : ℕ) → Arc v a b → Arc v b c → Valid v b → Live v a → Live v c → Arc v a c
join v rules a b c ab bc vb la lc = go (ℕ_discrete a c)
  where
    go : Dec (a ≡ c) → Arc v a c
    go (no n) = rules.join a b c ab bc vb la lc n
    go (yes e) =
        let ba : Arc v b a = subst (λ x. Arc v b x) (sym e) bc in
        absurd (la.1 (rules.exclude b a (vb.0, λ m. omega (arith, vb.1)) la ba ab vb).1)

-- of an entry answered 8, no board is closed over it and those accepted before it, and it has no schedule with them
contradicted : (b : Board) (l : List Entry) (e : Entry) → Held l b → reply_of (enter b e).answer ≡ no_number 8
    → Contradiction (entries (l ++ e ∷ [])) × ((p : Placing) → Schedule (entries (l ++ e ∷ [])) p → ⊥)
contradicted b l e h q =
    let (g, i) = answered_impossible b e _ _ (enter b e) (step (entries l) b e h.reached) q in
    let none = impossible_contradiction (entries (l ++ e ∷ [])) λ w a. i w (agreed _ _ w (agree_snoc l e) a) in
    (none, contradiction_unscheduled _ (admissible_snoc l b h e g) none)

-- the planner on the least closed board over some entries, by how its tries end
module _ (es : Entries) (b : Board) (ok : Admissible es) (least : Least es b) (p : passes b ≡ true) (z : ℤ) (h : IsBudget z) where
  says : plan_reply_of (plan b z) ≡ reply_within (view b) (number z) (tries (view b) (valid_jobs (view b)))
  says = plan_ending b p z h

  none_exactly : (o : Ending) → tries (view b) (valid_jobs (view b)) ≡ o → taken o ≤ number z
      → (reply_within (view b) (number z) o ≡ plan_none (taken o)) ↔ ((s : Placing) → Schedule es s → ⊥)
  none_exactly (found t ps) e l =
      (λ q. clash (cc (within_found (view b) (number z) t ps l)), λ n. absurd (n _ (found_schedule es b least t ps e)))
  none_exactly (none t) e l = (λ q. none_scheduled es b least ok t e, λ n. within_none (view b) (number z) t l)

  finds : (o : Ending) → tries (view b) (valid_jobs (view b)) ≡ o → taken o ≤ number z
      → (reply_within (view b) (number z) o ≡ plan_none (taken o) → ⊥) → PlanFound es b z
  finds (found t ps) e l some =
      let same : t ≡ tries_taken (view b) = ap taken (sym e) in
      record {
        jobs = ps;
        tried = e ∙ ap (λ n. found n ps) same;
        given = says ∙ ap (reply_within (view b) (number z)) e ∙ within_found (view b) (number z) t ps l ∙ rw same;
        schedule = found_schedule es b least t ps e;
      }
  finds (none t) e l some = absurd (some (within_none (view b) (number z) t l))

  plan_ends : PlanEnds es b z
  plan_ends =
      let o = tries (view b) (valid_jobs (view b)) in
      record {
        spent = rw says (within_spent (view b) (number z) o);
        none = λ l. rw says (none_exactly o refl l);
        found = λ l n. finds o refl l λ q. n (says ∙ q);
      }

-- the same of a board handed in, over the entries that it shows
pub handed_ends : (b : Board) → InOrder b → (z : ℤ) → IsBudget z → PlanEnds (shown (view b)) b z
handed_ends b c =
    let p : passes b ≡ true = (passes_closed b).1 c in
    plan_ends (shown (view b)) b (admissible_shown b c.within) (passes_least b p) p

pub demand3 : (books : Books) → BooksWithin books → (cs : List Call) → Demand3 books cs
demand3 books fits cs =
    let h = held books fits cs in
    let r = h.reached in
    let least = reached_least _ _ r in
    let p : passes (final_board books cs) ≡ true = obeys_passes (final_board books cs) r.within r.books r.obeys in
    record {
      least = least_closed _ _ least;
      in_order = (passes_least (final_board books cs) p).closed;
      nothing_lost = least_keeps _ _ h.admissible least;
      joined = join _ (obeys_rules _ r.obeys);
      answers = each_held _ (λ b l c h. enter_outcome _ _ c.entry h.reached) (empty_board books) [] cs (held_empty books fits);
      impossible = each_held _ (λ b l c h. contradicted b l c.entry h) (empty_board books) [] cs (held_empty books fits);
      orderless = λ books' cs' fits' same. least_orderless _ _ _ _ same least (reached_least _ _ (held books' fits' cs').reached);
      planner = plan_ends _ _ h.admissible least p;
      tally = tallied (empty_board books) cs (empty_passes books fits);
    }
