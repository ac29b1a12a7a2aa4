-- Entries made after others: what they add to what has to be shown.
use Rattle.std.specs.Prelude.{◌≡◌, refl, cond, ℕ, suc, ◌<◌, eqb}
use Rattle.std.proofs.Common.{sym, ap, subst, inl, inr, ⊎_elim, arith, eq-eqb, ne_eqb}
use mathlib.Core.List.{List, Memᴰ}
use Rattle.std.proofs.Math.Decide.{ℕ_discrete}
use Rattle.paper_board.specs.Paper.View.{Row, View}
use Rattle.paper_board.specs.Paper.Facts.{Fact, Holds}
use Rattle.paper_rules.specs.Paper.Entries.{Entries, Shown, AtLeast, ◌⊑◌}
use Rattle.paper_rules.specs.Update.Extension.{HasRow}
use Rattle.paper_rules.specs.Order.OrderLaws.{shown_trans, holds_up, below_up}
use Rattle.paper_entries.specs.Paper.Entry.{Entry, addition, other, added_row, stated, add_row, stating, with_entry}

-- facts that hold one and all
abbrev pub HoldAll : List Fact → View → Type 0
HoldAll fs w = (f : Fact) → Memᴰ f fs → Holds w f

-- a view shows the entry, made on a board of n jobs: the row that it adds at place n, or the facts that it states
abbrev pub ShowsEntry : ℕ → Entry → View → Type 0
ShowsEntry n (addition l e d m) w = HasRow n (added_row l e d m) w
ShowsEntry n (other s) w = HoldAll (stated s) w

pub entry_up : (n : ℕ) (e : Entry) (v w : View) → v ⊑ w → ShowsEntry n e v → ShowsEntry n e w
entry_up n (addition l e d m) v w up (b, s) = (below_up v w up n b, shown_trans s (up.rows n b))
entry_up n (other s) v w up h = λ f i. holds_up v w up f (h f i)

module _ (es : Entries) (w : View) where
  split_row : (r : Row) → AtLeast (add_row es r) w → AtLeast es w × HasRow es.jobs r w
  split_row r h = (
    record {
      jobs = omega (arith, h.jobs);
      rows = λ k l. subst (λ t. Shown (cond t r (es.row k)) (w.row k)) (ne_eqb k es.jobs (λ e. omega arith)) (h.rows k (omega arith));
      facts = h.facts;
    },
    (
      h.jobs,
      subst (λ t. Shown (cond t r (es.row es.jobs)) (w.row es.jobs)) (eq-eqb es.jobs es.jobs refl) (h.rows es.jobs (omega arith)),
    ),
  )

  join_row : (r : Row) → AtLeast es w → HasRow es.jobs r w → AtLeast (add_row es r) w
  join_row r h (l, s) = record { jobs = l; rows = at; facts = h.facts }
    where
      at : (k : ℕ) → k < suc es.jobs → Shown (cond (eqb k es.jobs) r (es.row k)) (w.row k)
      at k b = go (ℕ_discrete k es.jobs)
        where
          go : Dec (k ≡ es.jobs) → Shown (cond (eqb k es.jobs) r (es.row k)) (w.row k)
          go (yes e) = rw (eq-eqb k es.jobs e) (subst (λ n. Shown r (w.row n)) (sym e) s)
          go (no n) = rw (ne_eqb k es.jobs n) (h.rows k (omega (arith, n)))

  split_facts : (fs : List Fact) → AtLeast (stating es fs) w → AtLeast es w × HoldAll fs w
  split_facts fs h =
      (record { jobs = h.jobs; rows = h.rows; facts = λ f m. h.facts f (inl m) }, λ f m. h.facts f (inr m))

  join_facts : (fs : List Fact) → AtLeast es w → HoldAll fs w → AtLeast (stating es fs) w
  join_facts fs h k = record { jobs = h.jobs; rows = h.rows; facts = λ f. ⊎_elim (h.facts f) (k f) }

  -- the entries with one more ask of a view what the others ask, and that it shows the entry besides
  pub with_split : (e : Entry) → AtLeast (with_entry es e) w → AtLeast es w × ShowsEntry es.jobs e w
  with_split (addition l e d m) h = split_row (added_row l e d m) h
  with_split (other s) h = split_facts (stated s) h

  pub with_join : (e : Entry) → AtLeast es w → ShowsEntry es.jobs e w → AtLeast (with_entry es e) w
  with_join (addition l e d m) h k = join_row (added_row l e d m) h k
  with_join (other s) h k = join_facts (stated s) h k

-- how many jobs there are then depends on how many there were
pub with_jobs : (es es' : Entries) (e : Entry) → es.jobs ≡ es'.jobs → (with_entry es e).jobs ≡ (with_entry es' e).jobs
with_jobs es es' (addition l e d m) h = ap suc h
with_jobs es es' (other s) h = h
