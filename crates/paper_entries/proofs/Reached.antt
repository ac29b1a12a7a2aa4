-- A board reached by entries: within its limits, with books within theirs, and the least one over them that obeys the rules. Each accepted entry
-- leads to such a board again, and an entry refused as impossible leaves none that shows it.
use Rattle.std.specs.Prelude.{◌≡◌, ◌≢◌, List, ℕ, suc, ◌<◌}
use Rattle.std.proofs.Common.{◌∙◌, subst, ⊎_elim, arith, eq-eqb, ne_eqb}
use Rattle.std.proofs.Math.Path.{subst⁻¹}
use Rattle.std.proofs.Math.Option.{none}
use Rattle.std.proofs.Math.Decide.{ℕ_discrete}
use Rattle.paper_board.specs.declared.Board.{Board}
use Rattle.paper_board.specs.Paper.View.{Row, View, view}
use Rattle.paper_board.specs.Paper.Facts.{Fact, AboutJobs}
use Rattle.paper_rules.specs.Inference.Infers.{Obeys}
use Rattle.paper_rules.specs.Inference.AboutMore.{about_more}
use Rattle.paper_rules.specs.Paper.Entries.{Entries, Admissible, Shows, shown}
use Rattle.paper_board.specs.Paper.Limits.{job_limit, Fits, Within, BooksWithin}
use Rattle.paper_rules.proofs.Leastness.{Below, Impossible}
use Rattle.paper_rules.specs.Order.OrderLaws.{at_least_up}
use Rattle.paper_rules.specs.Update.StoreWithin.{within_books, within_tally}
use Rattle.paper_entries.specs.Paper.Entry.{Entry, addition, other, added_row, stated, add_row, stating, with_entry}
use Rattle.paper_entries.specs.ShowsEntry.{ShowsEntry, with_split, with_join, with_jobs}
use Rattle.paper_entries.proofs.EntriesAgree.{EntriesAgree, agree_sym, agreed}
use Rattle.paper_entries.proofs.Allowed.{AllAboutJobs, Allowed}
use Rattle.paper_entries.specs.Paper.Enter.{counted}
use Rattle.paper_entries.proofs.ClosesWith.{ClosedWith, ClosedToWith}

pub record Reached (es : Entries) (b : Board) : Type 0 where
  pub within : Within b
  pub books : BooksWithin b.books
  pub shows : Shows es (view b)
  pub obeys : Obeys (view b)
  pub below : Below es (view b)

admissible_row : (es : Entries) (r : Row) → Admissible es → es.jobs < job_limit → Fits r → Admissible (add_row es r)
admissible_row es r h free fits =
    record { jobs = free; rows = λ k l. row k l (ℕ_discrete k es.jobs); about = λ f i. about_more (omega arith) f (h.about f i) }
  where
    row : (k : ℕ) → k < suc es.jobs → Dec (k ≡ es.jobs) → ((add_row es r).row k).mark ≢ 2 → Fits ((add_row es r).row k)
    row k l (yes e) = rw (eq-eqb k es.jobs e) λ n. fits
    row k l (no n) = rw (ne_eqb k es.jobs n) (h.rows k (omega (arith, n)))

admissible_stated : (es : Entries) (fs : List Fact) → Admissible es → AllAboutJobs es.jobs fs → Admissible (stating es fs)
admissible_stated es fs h k = record { jobs = h.jobs; rows = h.rows; about = λ f. ⊎_elim (h.about f) (k f) }

pub admissible_with : (es : Entries) (e : Entry) → Admissible es → Allowed es.jobs e → Admissible (with_entry es e)
admissible_with es (addition l e d m) h ok = admissible_row es (added_row l e d m) h ok.0 ok.1
admissible_with es (other s) h ok = admissible_stated es (stated s) h ok

pub admissible_agree : (es es' : Entries) → EntriesAgree es es' → Admissible es → Admissible es'
admissible_agree es es' a h =
    record {
      jobs = omega (arith, a.jobs, h.jobs);
      rows = λ k l.
          let l' : k < es.jobs = omega (arith, a.jobs) in
          subst (λ r. r.mark ≢ 2 → Fits r) (a.rows k l') (h.rows k l');
      about = λ f i. subst (λ n. AboutJobs n f) a.jobs (h.about f (a.from f i));
    }

-- entries that agree reach the same boards
pub reached_agree : (es es' : Entries) (b : Board) → EntriesAgree es es' → Reached es b → Reached es' b
reached_agree es es' b a r =
    record {
      within = r.within;
      books = r.books;
      shows = record { count = r.shows.count ∙ a.jobs; at_least = agreed es es' (view b) a r.shows.at_least };
      obeys = r.obeys;
      below = λ w h ob. r.below w (agreed es' es w (agree_sym es es' a) h) ob;
    }

module _ (es : Entries) (b : Board) (e : Entry) (r : Reached es b) where
  -- the board's count of jobs is the entries'
  moved : (w : View) → ShowsEntry es.jobs e w → ShowsEntry b.jobs e w
  moved w s = subst⁻¹ (λ n. ShowsEntry n e w) r.shows.count s

  pub reached_with : (c : Board) → ClosedWith b e c → Reached (with_entry es e) c
  reached_with c s =
      record {
        within = s.more.within;
        books = subst⁻¹ BooksWithin s.more.books r.books;
        shows =
            record {
              count = s.more.jobs ∙ with_jobs (shown (view b)) es e r.shows.count;
              at_least =
                  with_join es (view c) e (at_least_up (view b) (view c) s.more.above es r.shows.at_least)
                  (subst (λ n. ShowsEntry n e (view c)) r.shows.count s.meets.0);
            };
        obeys = s.meets.1;
        below = λ w h ob.
            let (h', k) = with_split es w e h in
            s.least w (r.below w h' ob) ob (moved w k, ob);
      }

  pub impossible_with : ClosedToWith b e none → Impossible (with_entry es e)
  impossible_with s w h ob =
      let (h', k) = with_split es w e h in
      s w (r.below w h' ob) ob (moved w k, ob)

-- the tally is no part of what is reached
pub reached_counted : (es : Entries) (b : Board) → Reached es b → Reached es (counted b)
reached_counted es b r =
    record {
      within = within_books b _ r.within;
      books = within_tally b.books _ r.books (omega arith);
      shows = r.shows;
      obeys = r.obeys;
      below = r.below;
    }
