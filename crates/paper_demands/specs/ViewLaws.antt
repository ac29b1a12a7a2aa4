-- What row and pair show of a board that passes check 0.
use Rattle.std.specs.Prelude.{◌≡◌, refl, ◌≢◌, Bool, true, false, cond, ◌&&◌, [], ◌∷◌, ℕ, ◌+◌, ◌<◌, pos, neg_ℤ, ◌-ℤ◌}
use Rattle.std.proofs.Common.{◌∙◌, ⊎_elim, arith}
use Rattle.std.proofs.Math.Option.{none}
use Rattle.std.proofs.Math.ListN.{get_or}
use Rattle.std.specs.Int.Signed.{le_z, lt_z}
use Rattle.ground_arithmetic.specs.Bools.{refuted, is_false, and_parts, and_both}
use Rattle.ground_arithmetic.specs.Linear.{whole, plus, minus, eq_z, eq_z_true}
use Rattle.paper_board.specs.declared.Board.{Board}
use Rattle.paper_board.specs.Paper.Tests.{live}
use Rattle.paper_board.specs.Paper.View.{View, view, arc_of}
use Rattle.paper_rules.specs.Paper.Rules.{E, D}
use Rattle.paper_board.specs.BoardTests.Live.{live_yes, live_show}
use Rattle.paper_closure.specs.Passes.{passes}
use Rattle.paper_closure.proofs.PassesClosed.{passes_within}
use Rattle.paper_entries.specs.CheckLines.{no_line, passes_on}
use Rattle.paper_entries.specs.Paper.Replies.{row_reply_of, pair_reply_of}
use Rattle.paper_entries.specs.Paper.Checks.{is_job, job_check, pair_checks, first_refusal}
use Rattle.paper_entries.specs.Paper.Looking.{row, pair_shown, pair}
use Rattle.paper_demands.specs.Paper.Views.{RowShows, Arcs, no_arc, forth, back, both, Gap, PairShows}

-- ---- the checks that a job's number passes

job_known : (n j : ℕ) → j < n → is_job n (pos j) ≡ true
job_known n j l = and_both (le_z (pos 0) (pos j)) (lt_z (pos j) (pos n)) (omega whole) (omega whole)

job_passes : (n j : ℕ) → j < n → none ≡ first_refusal (job_check n (pos j) ∷ [])
job_passes n j l = no_line ∙ passes_on (job_check n (pos j)) [] (rw (job_known n j l))

pair_passes : (n x y : ℕ) → x < n → y < n → x ≢ y → none ≡ first_refusal (pair_checks n (pos x) (pos y))
pair_passes n x y l m ne =
    no_line ∙ passes_on _ [] (is_false (eq_z (pos x) (pos y)) λ e. ne (omega (arith, eq_z_true (pos x) (pos y) e)))
    ∙ passes_on _ _ (rw (job_known n x l, job_known n y m))

-- ---- row and pair

module _ (b : Board) (p : passes b ≡ true) where
  pub row_shows : (j : ℕ) → j < b.jobs → RowShows (view b) j (row_reply_of (row b (pos j)))
  unfolding row
  row_shows j l =
      record {
        before = get_or b.before j 0;
        after = get_or b.after j 0;
        is = rw (row, p, ← job_passes b.jobs j l);
        mark = ((passes_within b p).limits.rows j).mark;
        sources = λ k. (passes_within b p).twice k j;
        targets = λ k. refl;
      }

arcs_number : (v : View) (x y : ℕ) (s t : Bool) → v.arc x y ≡ s → v.arc y x ≡ t → Arcs v x y (cond s 1 0 + cond t 2 0)
arcs_number v x y true true e f = both e f
arcs_number v x y true false e f = forth e (refuted f)
arcs_number v x y false true e f = back (refuted e) f
arcs_number v x y false false e f = no_arc (refuted e) (refuted f)

gap_means : (v : View) (x y : ℕ) → Gap v x y (E v y -ℤ D v x)
gap_means v x y =
    let sum = plus (E v y) (neg_ℤ (D v x)) in
    let turned = minus (D v x) in
    record {
      is = refl;
      minutes = omega (whole, sum, turned, plus (D v x) (E v y -ℤ D v x));
      below = (λ h. omega (whole, sum, turned), λ h. omega (whole, sum, turned));
      at = (λ h. omega (whole, sum, turned), λ h. omega (whole, sum, turned));
      above = (λ h. omega (whole, sum, turned), λ h. omega (whole, sum, turned));
    }

module _ (b : Board) (x y : ℕ) where
  shown : (t : Bool) → live (view b) x && live (view b) y ≡ t → PairShows (view b) x y (pair_reply_of (pair_shown b x y))
  shown true e =
      let (lx, ly) = and_parts (live (view b) x) (live (view b) y) e in
      record {
        arcs = cond (arc_of b x y) 1 0 + cond (arc_of b y x) 2 0;
        gap = E (view b) y -ℤ D (view b) x;
        is = rw e;
        live = λ _ _. (arcs_number (view b) x y (arc_of b x y) (arc_of b y x) refl refl, gap_means (view b) x y);
        invalid = ⊎_elim
            (λ i. absurd ((live_yes (view b) x lx).1 i.1))
            (λ i. absurd ((live_yes (view b) y ly).1 i.1));
      }
  shown false e =
      record {
        arcs = 0;
        gap = pos 0;
        is = rw e;
        live = λ lx ly. absurd (refuted e (and_both _ _ (live_show (view b) x lx) (live_show (view b) y ly)));
        invalid = λ _. (refl, refl);
      }

pub pair_shows : (b : Board) → passes b ≡ true → (x y : ℕ) → x < b.jobs → y < b.jobs → x ≢ y
    → PairShows (view b) x y (pair_reply_of (pair b (pos x) (pos y)))
unfolding pair
pair_shows b p x y l m ne = rw (pair, p, ← pair_passes b.jobs x y l m ne) (shown b x y (live (view b) x && live (view b) y) refl)
