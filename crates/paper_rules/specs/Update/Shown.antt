-- What an update comes to where the board shows its fact already, and where not.
use Rattle.std.specs.Prelude.{◌≡◌, Bool, ◌&&◌, ◌||◌, List, ℕ, ◌<◌, ℤ, get_or, set}
use Rattle.std.proofs.Math.Path.{refl}
use Rattle.std.proofs.Common.{sym, ap, ◌∙◌}
use Rattle.std.proofs.Math.Bool.{true, false, cond, not, or-false, and-false}
use Rattle.std.proofs.Math.Option.{some}
use Rattle.std.proofs.Math.Dec.{eqb}
use Rattle.std.proofs.lemmas.List.{set-get_or}
use Rattle.std.specs.Int.Signed.{lt_z}
use borrow.Author.Tests.{eqb-true, lt-ltb, not-false}
use Rattle.ground_arithmetic.specs.Bools.{clash}
use Rattle.ground_sets.specs.Bit.{bit, with}
use Rattle.ground_sets.specs.BitLaws.{bit_with, bit_ext}
use Rattle.paper_board.specs.declared.Board.{Board}
use Rattle.paper_board.specs.Paper.Parts.{filled}
use Rattle.paper_board.specs.Paper.View.{Side, Row, bound, row_of, view, arc_of}
use Rattle.paper_board.specs.Paper.Facts.{is_arc, is_bound, is_valid, is_invalid}
use Rattle.paper_board.specs.Paper.Limits.{Within}
use Rattle.paper_board.specs.Paper.Tests.{live}
use Rattle.paper_rules.specs.Update.Updates.{link, store, marked, raised, exclude, tighten, update}

-- the arc stands, or one of its jobs is not live
abbrev pub arc_shown : Board → ℕ → ℕ → Bool
arc_shown b i k = eqb (row_of b i).mark 2 || (eqb (row_of b k).mark 2 || arc_of b i k)

-- the window is no wider than the bound, or its job is not live
abbrev pub bound_shown : Side → ℤ → Row → Bool
bound_shown s z r = eqb r.mark 2 || not (lt_z (bound s r) z)

or_parts : (s t : Bool) → (s || t) ≡ false → (s ≡ false) × (t ≡ false)
or_parts true t e = clash (cc)
or_parts false t e = (refl, e)

-- a member put in again
with_member : (w k : ℕ) → bit w k ≡ true → with w k ≡ w
with_member w k e = bit_ext (with w k) w λ x. bit_with w k x ∙ go x (eqb k x) refl
  where
    go : (x : ℕ) (t : Bool) → eqb k x ≡ t → (bit w x || t) ≡ bit w x
    go x false _ = or-false _
    go x true h = rw (← eqb-true k x h, e)

again : (words : List ℕ) (i k : ℕ) → bit (get_or words i 0) k ≡ true → set words i (with (get_or words i 0) k) ≡ words
again words i k e = rw (with_member (get_or words i 0) k e, set-get_or)

not_live : (b : Board) (j : ℕ) → eqb (row_of b j).mark 2 ≡ true → live (view b) j ≡ false
unfolding live
not_live b j e = rw (e, and-false)

is_live : (b : Board) (j : ℕ) → j < b.jobs → eqb (row_of b j).mark 2 ≡ false → live (view b) j ≡ true
unfolding live
is_live b j job e = rw (e, lt-ltb j b.jobs job)

module _ (b : Board) where
  link_again : Within b → (i k : ℕ) → arc_of b i k ≡ true → link b i k ≡ b
  link_again h i k e x =
      filled b b.lengths b.earliest b.latest b.marks (again b.after i k e x) (again b.before k i (h.twice i k ∙ e) x)

  same : (t : Bool) → cond t b b ≡ b
  same true = refl
  same false = refl

  pub arc_shown_before : Within b → (i k : ℕ) → arc_shown b i k ≡ true → update b (is_arc i k) ≡ some b
  unfolding update
  arc_shown_before h i k = go (eqb (row_of b i).mark 2) (eqb (row_of b k).mark 2) refl refl
    where
      go : (s t : Bool) → eqb (row_of b i).mark 2 ≡ s → eqb (row_of b k).mark 2 ≡ t → (s || (t || arc_of b i k)) ≡ true
          → some (cond (live (view b) i && live (view b) k) (link b i k) b) ≡ some b
      go true t p q a = rw (not_live b i p)
      go false true p q a = rw (not_live b k q, and-false)
      go false false p q a = rw (link_again h i k a) (ap some (same (live (view b) i && live (view b) k)))

  pub arc_new : (i k : ℕ) → i < b.jobs → k < b.jobs → arc_shown b i k ≡ false → update b (is_arc i k) ≡ some (link b i k)
  unfolding update
  arc_new i k job-i job-k e =
      let (p, rest) = or_parts (eqb (row_of b i).mark 2) _ e in
      let (q, _) = or_parts (eqb (row_of b k).mark 2) _ rest in
      rw (is_live b i job-i p, is_live b k job-k q)

  module _ (s : Side) (j : ℕ) (z : ℤ) where
    pub bound_shown_before : bound_shown s z (row_of b j) ≡ true → update b (is_bound s j z) ≡ some b
    unfolding update
    bound_shown_before = go (eqb (row_of b j).mark 2) (lt_z (bound s (row_of b j)) z) refl refl
      where
        go : (t u : Bool) → eqb (row_of b j).mark 2 ≡ t → lt_z (bound s (row_of b j)) z ≡ u → (t || not u) ≡ true
            → cond (live (view b) j && lt_z (bound s (row_of b j)) z) (tighten b j (raised s z (row_of b j))) (some b) ≡ some b
        go true u p q a = rw (not_live b j p)
        go false true p q a = clash (cc)
        go false false p q a = rw (q, and-false)

    pub bound_new : j < b.jobs → bound_shown s z (row_of b j) ≡ false → update b (is_bound s j z) ≡ tighten b j (raised s z (row_of b j))
    unfolding update
    bound_new job e =
        let (p, q) = or_parts (eqb (row_of b j).mark 2) _ e in
        rw (is_live b j job p, not-false (lt_z (bound s (row_of b j)) z) q)

  module _ (j : ℕ) where
    pub valid_shown : (row_of b j).mark ≡ 1 → update b (is_valid j) ≡ some b
    unfolding update
    valid_shown e = rw e (ap (λ m. some (store b j (marked m (row_of b j)))) (sym e) ∙ simp set-get_or)

    pub invalid_shown : (row_of b j).mark ≡ 2 → update b (is_invalid j) ≡ some b
    unfolding update exclude
    invalid_shown e = rw e

-- a fact put on a board: what it shows already, and what it doesn't
pub ruleset showing = (arc_shown_before, arc_new, bound_shown_before, bound_new, valid_shown, invalid_shown)
