-- The least closed board in the paper's own list is the least one in the order of boards, and the other way round: `least_closed`
-- and `closed_least`.
use Rattle.std.specs.Prelude.{◌≡◌, ◌≢◌, ℕ, ◌<◌}
use Rattle.std.proofs.Common.{sym, ◌∙◌, arith}
use Rattle.std.proofs.Math.Decide.{ℕ_discrete}
use Rattle.paper_board.specs.declared.Board.{Board}
use Rattle.paper_board.specs.Paper.View.{view}
use Rattle.paper_board.specs.Paper.Facts.{Fact, is_arc, is_valid, Holds}
use Rattle.paper_rules.specs.Paper.Entries.{Entries, Drawn, drawn, ◌⊑◌}
use Rattle.paper_rules.specs.Paper.Closed.{Closed, Included, LeastClosed, Least}
use Rattle.paper_rules.proofs.LeastEntered.{least_entered}

module _ (es : Entries) (b : Board) where
  pub least_closed : Least es b → LeastClosed es b
  least_closed h =
      record {
        closed = h.closed;
        least = λ c k.
            let up = h.least c k in
            record {
              arcs = λ i j a li lj. (up.facts (is_arc i j) (drawn i j a)).2 li lj;
              raised = λ j l m. (up.rows j l).earliest m;
              lowered = λ j l m. (up.rows j l).latest m;
              invalid = λ j l m. (up.rows j l).invalid m;
            };
        entered = least_entered es b h;
      }

  -- a job of b that is valid or live is an added one, so that every closed board has its mark and its length too
  module _ (h : LeastClosed es b) (c : Board) (k : Closed es c) where
    valid_too : (j : ℕ) → j < b.jobs → ((view b).row j).mark ≡ 1 → Dec (((view c).row j).mark ≡ 1) → ((view c).row j).mark ≡ 1
    valid_too j l m (yes e) = e
    valid_too j l m (no n) =
        let shows = k.shows.at_least in
        absurd (h.entered j (λ li r. n ((shows.rows j li).valid r)) (λ f. n (shows.facts (is_valid j) f).1) (l, m))

    same_length : (j : ℕ) → j < es.jobs → ((view b).row j).mark ≢ 2 → ((view c).row j).mark ≢ 2
        → ((view c).row j).length ≡ ((view b).row j).length
    same_length j l live live' = (k.shows.at_least.rows j l).length live' ∙ sym ((h.closed.shows.at_least.rows j l).length live)

    below : Included (view b) (view c) → view b ⊑ view c
    below up =
        record {
          jobs = omega (arith, h.closed.shows.count, k.shows.count);
          rows = λ j l.
              record {
                valid = λ m. valid_too j l m (ℕ_discrete ((view c).row j).mark 1);
                invalid = up.invalid j l;
                length = λ m. same_length j (omega (arith, h.closed.shows.count)) (λ e. m (up.invalid j l e)) m;
                earliest = up.raised j l;
                latest = up.lowered j l;
              };
          facts = shows;
        }
      where
        shows : (f : Fact) → Drawn (view b) f → Holds (view c) f
        shows _ (drawn i j a) =
            let (la, lb, ne) = h.closed.within.limits.arcs i j a in
            let same : (view c).jobs ≡ (view b).jobs = k.shows.count ∙ sym h.closed.shows.count in
            (omega (arith, la.0), omega (arith, lb.0), up.arcs i j a)

  pub closed_least : LeastClosed es b → Least es b
  closed_least h = record { closed = h.closed; least = λ c k. below h c k (h.least c k) }
