-- The walks over the rows of the pairs and over the jobs alone: the rows that are left, and the jobs that are left. All others have been
-- searched, and nothing is left to infer there.
use Rattle.std.specs.Prelude.{◌≡◌, refl, List, ◌≢◌, Bool, true, false, ℕ, ◌<◌, ◌^◌, ℤ, pos, ◌+ℤ◌, get_or}
use Rattle.std.specs.Prelude as std
use Rattle.std.proofs.Common.{ap, ◌∙◌, subst, arith, ne_eqb}
use Rattle.std.proofs.Math.Decide.{ℕ_discrete}
use Rattle.std.proofs.Math.Option.{Option, none, some}
use Rattle.ground_sets.specs.Bit.{bit, difference, with}
use Rattle.ground_sets.specs.BitLaws.{bit_difference, bit_with, part_at_most}
use Rattle.ground_walks.specs.Walk.{Left}
use Rattle.ground_arithmetic.specs.Bools.{is_false, refuted}
use Rattle.paper_board.specs.declared.Board.{Board}
use Rattle.paper_board.specs.Paper.View.{View, Live, Side, view}
use Rattle.paper_board.specs.Paper.Facts.{Fact}
use Rattle.paper_board.specs.Paper.Limits.{job_limit, Within}
use Rattle.paper_board.specs.Paper.Tests.{live}
use Rattle.paper_board.specs.BoardTests.Decides.{Decides, retested, ◌and◌, negated, holds, live_is}
use Rattle.paper_rules.specs.Inference.Infers.{Obeys}
use Rattle.engine_job_rules.specs.JobSearched.{JobRead, JobSettled}
use Rattle.engine_job_rules.specs.JobSearched as jobs
use Rattle.engine_job_rules.specs.SideSettled.{SideSettled}
use Rattle.engine_findings.specs.Searched.{Searched, PairObeys}
use Rattle.engine_pair_rules.specs.declared.Pair.{Pair}
use Rattle.engine_pair_rules.specs.PairSearched.{PairRead}
use Rattle.engine_partners.specs.RowRead.{RowRead}
use Rattle.engine_partners.specs.PairSettled.{PairsSettled, RowSettled, pairs_settled_obey}

-- the numbers and words are those of the board, `lives` and `valids` its live jobs and its valid jobs
pub record BoardRead (b : Board) (lives valids : ℕ) (earliest latest lengths : List ℤ) (before after : List ℕ) : Type 0 where
  pub is_live : (x : ℕ) → bit lives x ≡ live (view b) x
  pub arrays : JobRead b earliest latest lengths before after valids

-- what a search says of any board that these are read from
abbrev pub ReadSearched : (View → Type 0) → ℕ → ℕ → List ℤ → List ℤ → List ℤ → List ℕ → List ℕ → Option Fact → Type 0
ReadSearched Q lives valids earliest latest lengths before after o =
    (b : Board) → BoardRead b lives valids earliest latest lengths before after → Searched (view b) (Q (view b)) o

-- i and k are places of jobs, and on any board that these are read from two live jobs that don't obey the rules
pub record AppliesAt (lives valids : ℕ) (earliest latest lengths : List ℤ) (before after : List ℕ) (i k : ℕ) : Type 0 where
  pub first : i < job_limit
  pub second : k < job_limit
  pub applies : (b : Board) → BoardRead b lives valids earliest latest lengths before after
      → (PairObeys (view b) i k → ⊥) × Live (view b) i × (Live (view b) k × (i ≢ k))

-- what the loop over the pairs yields: a pair at which a rule applies, with what is read there, or none where all pairs are settled
abbrev pub PairFound : ℕ → ℕ → List ℤ → List ℤ → List ℤ → List ℕ → List ℕ → std.Option Pair → Type 0
PairFound lives valids earliest latest lengths before after std.None =
    (b : Board) → BoardRead b lives valids earliest latest lengths before after → PairsSettled (view b)
PairFound lives valids earliest latest lengths before after (std.Some p) =
    AppliesAt lives valids earliest latest lengths before after p.first p.second
    × ((b : Board) → BoardRead b lives valids earliest latest lengths before after
    → PairRead (view b) p.first p.second p.valid p.after p.before p.onward p.late)

-- what is said where nothing is found, in other words
pub searched_with : (v : View) (P Q : Type 0) → (P → Q) → (o : Option Fact) → Searched v P o → Searched v Q o
searched_with v P Q f none h = f h
searched_with v P Q f (some _) h = h

-- the rows that are left
abbrev pub RowsLeft : View → ℕ → Type 0
RowsLeft v = Left (Live v) (RowSettled v)

-- the jobs that are left
abbrev pub JobsSettled : View → Type 0
JobsSettled v = (i : ℕ) → Live v i → JobSettled v i

abbrev pub JobsLeft : View → ℕ → Type 0
JobsLeft v = Left (Live v) (JobSettled v)

module _ {b : Board} {lives valids : ℕ} {earliest latest lengths : List ℤ} {before after : List ℕ} (h : BoardRead b lives valids earliest latest lengths before after)
    (width : lives < 2 ^ job_limit) where
  live_bit : (x : ℕ) → Decides (bit lives x) (Live (view b) x)
  live_bit x = retested (h.is_live x) (live_is (view b) x)

  -- at first all live jobs are left
  pub all_left : (Q : ℕ → Type 0) → Left (Live (view b)) Q lives
  all_left Q =
      record {
        member = λ x e. (live_bit x).yes e;
        done = λ x l e. absurd (refuted e ((live_bit x).show l));
      }

  -- the live jobs that are left no more are settled
  pub done_settled : {left done : ℕ} → JobsLeft (view b) left → done ≡ difference job_limit lives left
      → (s : Side) (x : ℕ) → bit done x ≡ true → SideSettled (view b) s x
  done_settled {left} {done} jobs e s x member =
      let fits : left < 2 ^ job_limit = omega (arith, width, part_at_most left lives λ y m. (live_bit y).show (jobs.member y m)) in
      let visited = retested (ap (λ w. bit w x) e ∙ bit_difference job_limit lives left x width fits) (live_bit x and negated (holds (bit left x))) in
      let (live, out) = visited.yes member in
      (jobs.done x live (is_false (bit left x) out)).settled s

-- one more job is settled
pub settled_with : (v : View) (done i : ℕ) → ((k : ℕ) → bit done k ≡ true → JobSettled v k) → JobSettled v i
    → (k : ℕ) → bit (with done i) k ≡ true → JobSettled v k
settled_with v done i settled now k e = go (bit done k) refl (ℕ_discrete i k)
  where
    go : (t : Bool) → bit done k ≡ t → Dec (i ≡ k) → JobSettled v k
    go true d _ = settled k d
    go false d (yes same) = subst (JobSettled v) same now
    go false d (no ne) = absurd (refuted (bit_with done i k ∙ rw (d, ne_eqb i k ne)) e)

-- what the row of job i reads
pub row_read : {b : Board} {lives valids : ℕ} {earliest latest lengths : List ℤ} {before after : List ℕ}
    → BoardRead b lives valids earliest latest lengths before after → (i : ℕ) → Live (view b) i
    → (end : ℤ) → end ≡ get_or earliest i (pos 0) +ℤ get_or lengths i (pos 0)
    → RowRead b i lives valids (get_or before i 0) (get_or after i 0) end latest lengths after
row_read h i live end e =
    let a = h.arrays in
    record {
      within = a.within;
      here = live;
      is_live = h.is_live;
      is_valid = a.is_valid;
      is_before = ap (λ ws. get_or ws i 0) a.is_before;
      is_after = ap (λ ws. get_or ws i 0) a.is_after;
      is_end = rw (a.is_earliest, a.is_lengths) at e;
      is_latest = a.is_latest;
      is_lengths = a.is_lengths;
      is_afters = a.is_after;
    }

-- where the pairs are settled, what is found at the jobs is found in the whole view
pub jobs_searched : (b : Board) → Within b → PairsSettled (view b) → (o : Option Fact)
    → Searched (view b) (JobsSettled (view b)) o → Searched (view b) (Obeys (view b)) o
jobs_searched b h pairs = searched_with (view b) _ _ λ settled. pairs_settled_obey b h pairs (jobs.jobs_settled_obey b h settled)
