-- All jobs of a set become invalid at once: "An invalid job holds length 0, E 0, D 0 and no arcs". What it means is in
-- StrikeLaws; here, that the code does it place by place.
use Rattle.std.specs.Prelude.{◌≡◌, refl, true, false, cond, ℕ, ◌+◌, pos, get_or}
use Rattle.std.proofs.Common.{ap, ◌∙◌}
use Rattle.std.proofs.Math.ListN as lists
use Rattle.std.proofs.lemmas.List.{set-get_or}
use Rattle.ground_sets.specs.Bit.{bit, difference}
use Rattle.paper_board.specs.declared.Board.{Board}
use Rattle.paper_board.specs.Paper.Limits.{job_limit}
use Rattle.paper_board.specs.Paper.Parts.{filled}
use Rattle.paper_rules.specs.Update.PartlyChanged.{changed, partly, partly_more}

-- what stands at place k, where the jobs of the set get `blank`
abbrev pub cleared : {A : Type 0} → A → ℕ → ℕ → A → A
cleared blank set k x = cond (bit set k) blank x

-- the arcs of job k, where the jobs of the set have none
abbrev pub thinned : ℕ → ℕ → ℕ → ℕ
thinned set k w = cond (bit set k) 0 (difference job_limit w set)

-- what becomes of job k
abbrev pub strike_at : Board → ℕ → ℕ → Board
strike_at b set k =
    filled b
    (changed (cleared (pos 0) set) k (pos 0) b.lengths)
    (changed (cleared (pos 0) set) k (pos 0) b.earliest)
    (changed (cleared (pos 0) set) k (pos 0) b.latest)
    (changed (cleared 2 set) k 0 b.marks)
    (changed (thinned set) k 0 b.after)
    (changed (thinned set) k 0 b.before)

-- what becomes of the jobs below n
unfoldable pub strike_below : Board → ℕ → ℕ → Board
strike_below b set n =
    filled b
    (partly (cleared (pos 0) set) n b.lengths)
    (partly (cleared (pos 0) set) n b.earliest)
    (partly (cleared (pos 0) set) n b.latest)
    (partly (cleared 2 set) n b.marks)
    (partly (thinned set) n b.after)
    (partly (thinned set) n b.before)

abbrev pub strike : Board → ℕ → Board
strike b set = strike_below b set b.jobs

-- ---- the code: one place, and a loop over the jobs

module _ (b : Board) (set k : ℕ) where
  pub at_member : bit set k ≡ true
      → filled b
      (lists.set b.lengths k (pos 0))
      (lists.set b.earliest k (pos 0))
      (lists.set b.latest k (pos 0))
      (lists.set b.marks k 2)
      (lists.set b.after k 0)
      (lists.set b.before k 0)
      ≡ strike_at b set k
  at_member e = rw e

  -- to store again what is there changes nothing
  pub at_other : (after before : ℕ) → bit set k ≡ false → after ≡ difference job_limit (get_or b.after k 0) set
      → before ≡ difference job_limit (get_or b.before k 0) set
      → filled b b.lengths b.earliest b.latest b.marks (lists.set b.after k after) (lists.set b.before k before)
      ≡ strike_at b set k
  at_other after before e onward into = rw (e, ← onward, ← into) (simp set-get_or)

pub none_below : (b : Board) (set : ℕ) → b ≡ strike_below b set 0
unfolding strike_below partly
none_below b set = refl

pub one_below : (b c d : Board) (set k : ℕ) → c ≡ strike_below b set k → d ≡ strike_at c set k → d ≡ strike_below b set (k + 1)
unfolding strike_below
one_below b c d set k e step = step ∙ ap (λ x. strike_at x set k) e ∙ more
  where
    more : strike_at (strike_below b set k) set k ≡ strike_below b set (k + 1)
    more = λ i. filled b
        (partly_more (cleared (pos 0) set) k b.lengths (pos 0) i)
        (partly_more (cleared (pos 0) set) k b.earliest (pos 0) i)
        (partly_more (cleared (pos 0) set) k b.latest (pos 0) i)
        (partly_more (cleared 2 set) k b.marks 0 i)
        (partly_more (thinned set) k b.after 0 i)
        (partly_more (thinned set) k b.before 0 i)

pub ruleset striking = (none_below, one_below)
