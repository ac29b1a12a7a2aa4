-- Dominance in R4 and R5: where the valid jobs beyond job j on one side lie beyond job p too, and j's own bound is no lower, the rule is
-- settled at j once it is at p (`dominated`). So one job's sums serve for all jobs that it dominates (`represented`).
use Rattle.std.specs.Prelude.{◌≡◌, ◌≢◌, ◌⊎◌, Bool, true, false, List, ℕ, ◌<◌, ℤ, pos, get_or, ◌≤ℤ◌}
use Rattle.std.proofs.Common.{ap, ◌∙◌, inl, inr}
use Rattle.std.specs.Int.Signed.{lt_z}
use Rattle.ground_sets.specs.Bit.{bit}
use Rattle.ground_sets.specs.BitLaws.{bit_zero}
use Rattle.ground_arithmetic.specs.Bools.{refuted}
use Rattle.ground_arithmetic.specs.Linear.{whole}
use Rattle.paper_board.specs.declared.Board.{Board}
use Rattle.paper_board.specs.Paper.View.{View, Valid, Side, bound, Beyond, view}
use Rattle.paper_board.specs.Paper.Limits.{job_limit}
use Rattle.paper_board.specs.Paper.Values.{turned}
use Rattle.paper_rules.specs.Inference.Infers.{Pushing}
use Rattle.paper_board.specs.BoardTests.Sets.{Subset}
use Rattle.engine_sums.specs.RaiseExact.{times_of, bound_is}
use Rattle.engine_bound_beyond.specs.BoundBeyond.{pushing}
use Rattle.engine_job_rules.specs.SideSettled.{SideSettled}
use Rattle.engine_job_rules.specs.JobSearched.{side_words, SideRead, Represented, beyond_bit, pushing_bit}

-- the jobs of the set w lie in the word w', and as bounds on side s the time t is no lower than t'
pub record Dominated (s : Side) (w w' : ℕ) (t t' : ℤ) : Type 0 where
  pub shared : Subset w w'
  pub low : turned s t' ≤ℤ turned s t

-- as the code tests it
pub tested : {s : Side} {w w' : ℕ} {t t' : ℤ} → Subset w w' → lt_z (turned s t) (turned s t') ≡ false
    → Dominated s w w' t t'
tested shared e = record { shared = shared; low = omega whole }

-- r is job j itself, or one of the jobs done that dominates it, or any job where no valid jobs lie beyond j
abbrev pub Represents : Side → List ℤ → List ℕ → ℕ → ℕ → ℕ → ℕ → Type 0
Represents s times beyond valids done j r =
    let w = pushing beyond valids j in
    (r < job_limit)
    × (r ≢ j → (w ≡ 0) ⊎ ((bit done r ≡ true) × Dominated s w (get_or beyond r 0) (get_or times j (pos 0)) (get_or times r (pos 0))))

-- ---- over views

module _ (v : View) (s : Side) (p j : ℕ) (shared : (k : ℕ) → Valid v k → Beyond v s k j → Beyond v s k p)
    (low : bound s (v.row p) ≤ℤ bound s (v.row j)) where
  -- what pushes j pushes p
  pushes_both : (S : ℕ → Bool) (m : ℤ) → Pushing v s j S m → Pushing v s p S m
  pushes_both S m q =
      record {
        member = q.member;
        inside = q.inside;
        valid = q.valid;
        beyond = λ k e. shared k (q.valid k e) (q.beyond k e);
        low = q.low;
      }

  pub dominated : SideSettled v s p → SideSettled v s j
  dominated (inl obeyed) = inl λ S m q. omega (whole, obeyed S m (pushes_both S m q))
  dominated (inr l) =
      inr
      (record {
        last = l.last;
        valid = l.valid;
        apart = l.apart;
        others = λ k valid beyond. l.others k valid (shared k valid beyond);
        together = omega (whole, l.together);
        sums = λ S m q inside. omega (whole, l.sums S m (pushes_both S m q) inside);
      })

-- ---- over the numbers and words of a board

module _ {b : Board} {s : Side} {times lengths : List ℤ} {beyond : List ℕ} {valids : ℕ} (h : SideRead b s times lengths beyond valids) where
  pub represented : (done j r : ℕ) → ((k : ℕ) → bit done k ≡ true → SideSettled (view b) s k) → Represents s times beyond valids done j r
      → Represented (view b) s r j
  represented done j r settled (_, serves) other = go (rw (h.is_times, h.is_beyond) at (serves other))
    where
      pushes : (k : ℕ) → Valid (view b) k → Beyond (view b) s k j → bit (pushing (side_words b s) valids j) k ≡ true
      pushes k valid far = (pushing_bit b h.within valids h.is_valid s j k).show (valid, far)

      go : let w = pushing (side_words b s) valids j in
          (w ≡ 0) ⊎ ((bit done r ≡ true) × Dominated s w (get_or (side_words b s) r 0) (get_or (times_of b s) j (pos 0)) (get_or (times_of b s) r (pos 0)))
          → SideSettled (view b) s j
      go (inl none) = inl λ S m q.
          let k = q.member in
          absurd (refuted (ap (λ w. bit w k) none ∙ bit_zero k) (pushes k (q.valid k q.inside) (q.beyond k q.inside)))
      go (inr (e, d)) =
          dominated (view b) s r j (λ k valid far. (beyond_bit b h.within s r k).yes (d.shared k (pushes k valid far)))
          (omega (whole, d.low, bound_is b s r, bound_is b s j))
          (settled r e)
