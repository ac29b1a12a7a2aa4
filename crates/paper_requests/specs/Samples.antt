-- Small sequences of calls, a day at a dock among them, and what is computed of each, for what the demands say of them.
use Rattle.std.specs.Prelude.{◌≡◌, refl, false, List, [], ◌∷◌, ◌++◌, pos, replicate}
use Rattle.std.proofs.Math.Path.{subst⁻¹}
use Rattle.std.proofs.Math.Option.{none, some}
use Rattle.std.proofs.Common.{arith}
use Rattle.ground_sets.specs.Bit.{bit, with, without, union, difference, singleton}
use Rattle.ground_arithmetic.specs.Linear.{eq_z}
use Rattle.ground_arithmetic.specs.Sum.{sum, count}
use Rattle.paper_board.specs.declared.Board.{Board}
use Rattle.paper_board.specs.declared.Refusal.TheVariants as Refused
use Rattle.paper_board.specs.declared.Books.{Books}
use Rattle.paper_board.specs.Paper.Limits.{empty_board}
use Rattle.paper_board.specs.Paper.Parts.{of_parts, empty_books, with_tally}
use Rattle.paper_board.specs.Paper.Tests.{live, valid, between, implies}
use Rattle.paper_rules.specs.Paper.Rules.{E, D}
use Rattle.paper_board.specs.Paper.View.{Live, Valid, Invalid, Arc, view}
use Rattle.paper_board.specs.BoardTests.WithinLimits.{all, is_zero, fits, is_zero_row, full, shape, holds_job, holds_nothing, joinable, agrees, within_limits}
use Rattle.paper_rules.specs.Update.Updates.{exclude, tighten, update, ◌and_then◌}
use Rattle.paper_closure.specs.Find.{guard, ◌or_else◌, first, any, beyond, too_late, joined, pushers, pushed, push, next, find}
use Rattle.paper_closure.specs.Closure.{close, closure}
use Rattle.paper_closure.specs.Passes.{nothing_left, passes}
use Rattle.paper_entries.specs.Paper.Replies.{ok_number, no_number, reply_of}
use Rattle.paper_entries.specs.Paper.Entry.{Entry}
use Rattle.paper_entries.specs.Paper.Checks.{checks, first_refusal}
use Rattle.paper_entries.specs.Paper.Enter.{update_all, raw, closure_with, enter}
use Rattle.paper_entries.specs.Paper.Sequence.{byValue, inPlace, Call, after, accepted, impossibles, final_board, accepted_by}
use Rattle.paper_plans.specs.Paper.Lists.{range, keep, every, among}
use Rattle.paper_plans.specs.Paper.Tries
use Rattle.paper_plans.specs.Paper.Tries.{add, start_after, from, search, tries}
use Rattle.paper_plans.specs.Paper.Planner.{valid_jobs}
use Rattle.paper_requests.specs.Paper.Requests.{entry, refusal}
use Rattle.paper_requests.specs.SampleEntries.{job, undecided, arrow, marked, cut_to}

-- ---- sequences

abbrev pub called : Entry → Call
called e = record { manner = byValue; entry = e }

abbrev pub called_in_place : Entry → Call
called_in_place e = record { manner = inPlace; entry = e }

abbrev pub calls : List Entry → List Call
calls [] = []
calls (e ∷ es) = called e ∷ calls es

-- three valid jobs and an undecided one
abbrev pub booked : List Entry
booked = job 10 0 100 ∷ job 20 0 100 ∷ job 5 0 100 ∷ undecided 5 0 100 ∷ []

-- then job 0 before job 1 before job 2; an arc from a job to itself is refused (3), and a cut that leaves job 2 too little room (8)
abbrev pub day : List Call
day = calls booked ++ called_in_place (arrow 0 1) ∷ called (arrow 2 2) ∷ called (arrow 1 2) ∷ called_in_place (cut_to 2 0 34) ∷ []

-- the arcs the other way round, and one of them once more
abbrev pub swapped : List Call
swapped = calls (booked ++ arrow 1 2 ∷ arrow 0 1 ∷ [])

abbrev pub repeated : List Call
repeated = calls (booked ++ arrow 1 2 ∷ arrow 0 1 ∷ arrow 1 2 ∷ [])

abbrev pub computed_day : Board
computed_day =
    of_parts 4
    (pos 10 ∷ pos 20 ∷ pos 5 ∷ pos 5 ∷ replicate 60 (pos 0))
    (pos 0 ∷ pos 10 ∷ pos 30 ∷ pos 0 ∷ replicate 60 (pos 0))
    (pos 75 ∷ pos 95 ∷ pos 100 ∷ pos 100 ∷ replicate 60 (pos 0))
    (1 ∷ 1 ∷ 1 ∷ 0 ∷ replicate 60 0)
    (6 ∷ 4 ∷ replicate 62 0)
    (0 ∷ 1 ∷ 3 ∷ replicate 61 0)
    (with_tally empty_books 1)

-- books with a full tally
abbrev pub full_books : Books
full_books = with_tally empty_books 1000000

-- a job, and one that is longer than its window (8)
abbrev pub too_long : List Call
too_long = calls (job 10 0 100 ∷ job 10000 0 9999 ∷ [])

-- a job whose window ends where the next one's begins, one later, and an undecided job that doesn't fit its own
abbrev pub apart : List Call
apart = calls (job 10 0 10 ∷ job 10 10 20 ∷ job 10 25 35 ∷ undecided 10 0 9 ∷ [])

-- three jobs of 10 minutes in 25
abbrev pub crowded : List Call
crowded = calls (job 10 0 25 ∷ job 10 0 25 ∷ job 10 0 25 ∷ [])

-- ---- what is computed

-- of the board after the day
pub record DayFacts (b : Board) : Type 0 where
  pub jobs : b.jobs ≡ 4
  pub tally : b.books.tally ≡ 1
  pub earliest : E (view b) 2 ≡ pos 30
  pub latest : D (view b) 0 ≡ pos 75
  pub first : Live (view b) 0
  pub second : Valid (view b) 1
  pub third : Live (view b) 2
  pub mark : ((view b).row 2).mark ≡ 1
  pub end : D (view b) 2 ≡ pos 100
  pub arcs : Arc (view b) 0 1 × Arc (view b) 1 2 × Arc (view b) 0 2
  pub back : (view b).arc 2 0 ≡ false
  -- an addition, a mark, and the cut once more
  pub added : refusal b (entry (job 1 0 100)) ≡ none
  pub validated : refusal b (entry (marked 3 1)) ≡ none
  pub cut : refusal b (entry (cut_to 2 0 34)) ≡ some 8
  pub mark_checks : first_refusal (checks b.jobs (marked 3 1)) ≡ none
  pub cut_checks : first_refusal (checks b.jobs (cut_to 2 0 34)) ≡ none
  pub same_checks : first_refusal (checks b.jobs (arrow 2 2)) ≡ some Refused.Same
  pub found : tries (view b) (valid_jobs (view b)) ≡ Tries.found 3 (2 ∷ 1 ∷ 0 ∷ [])

-- of the board after jobs that lie apart
pub record ApartFacts (b : Board) : Type 0 where
  pub live : Live (view b) 0 × Live (view b) 1 × Live (view b) 2
  pub invalid : Invalid (view b) 3
  pub ends : D (view b) 0 ≡ pos 10
  pub next : E (view b) 1 ≡ pos 10
  pub later : E (view b) 2 ≡ pos 25

pub record Computed : Type 0 where
  pub board : final_board empty_books day ≡ computed_day
  pub facts : DayFacts computed_day
  pub apart : ApartFacts (final_board empty_books apart)
  pub accepted : accepted_by empty_books day ≡ booked ++ arrow 0 1 ∷ arrow 1 2 ∷ []
  pub swapped : accepted_by full_books swapped ≡ booked ++ arrow 1 2 ∷ arrow 0 1 ∷ []
  pub repeated : accepted_by full_books repeated ≡ (booked ++ arrow 1 2 ∷ arrow 0 1 ∷ []) ++ arrow 1 2 ∷ []
  pub impossibles : impossibles (empty_board full_books) day ≡ 1
  -- of two calls, the first is accepted and the second impossible
  pub first : reply_of (enter (empty_board empty_books) (job 10 0 100)).answer ≡ ok_number 0
  pub second : reply_of (enter (enter (empty_board empty_books) (job 10 0 100)).board (job 10000 0 9999)).answer ≡ no_number 8
  pub none : tries (view (final_board empty_books crowded)) (valid_jobs (view (final_board empty_books crowded))) ≡ Tries.none 15

pub computed : Computed
unfolding eq_z bit with without union difference singleton sum all implies between is_zero fits is_zero_row full shape holds_job holds_nothing joinable agrees within_limits live valid exclude tighten update ◌and_then◌ guard ◌or_else◌ first any beyond too_late joined pushers pushed push next find close closure nothing_left passes first_refusal update_all raw closure_with enter after accepted impossibles count range keep every among add Tries.◌or_else◌ start_after from search
computed =
    record {
      board = refl;
      facts =
          record {
            jobs = refl;
            tally = refl;
            earliest = refl;
            latest = refl;
            first = (omega arith, λ m. omega (arith, m));
            second = (omega arith, refl);
            third = (omega arith, λ m. omega (arith, m));
            mark = refl;
            end = refl;
            arcs = (refl, refl, refl);
            back = refl;
            added = refl;
            validated = refl;
            cut = refl;
            mark_checks = refl;
            cut_checks = refl;
            same_checks = refl;
            found = refl;
          };
      apart =
          record {
            live = ((omega arith, λ m. omega (arith, m)), (omega arith, λ m. omega (arith, m)), (omega arith, λ m. omega (arith, m)));
            invalid = (omega arith, refl);
            ends = refl;
            next = refl;
            later = refl;
          };
      accepted = refl;
      swapped = refl;
      repeated = refl;
      impossibles = refl;
      first = refl;
      second = refl;
      none = refl;
    }

pub day_facts : DayFacts (final_board empty_books day)
day_facts = subst⁻¹ DayFacts computed.board computed.facts
