-- What a search for the next inference says, at one job, at one pair of jobs and over the whole view. Any way of searching
-- that says this serves the closure and check 0.
use Rattle.std.specs.Prelude.{◌≢◌, Bool, ℕ, ℤ, ◌+ℤ◌, ◌≤ℤ◌, ◌<ℤ◌}
use Rattle.std.proofs.Math.Option.{Option, none, some}
use Rattle.paper_board.specs.Paper.View.{View, Live, Valid, Arc, Side, bound}
use Rattle.paper_board.specs.Paper.Facts.{Fact, Holds}
use Rattle.paper_rules.specs.Paper.Rules.{E, D, L, energy}
use Rattle.paper_rules.specs.Inference.Infers.{Pushing, Infers, r1, r2, r3, r45, r6, Obeys}

-- what is found is inferred and not shown yet; where nothing is found, Q holds
abbrev pub Searched : View → Type 0 → Option Fact → Type 0
Searched v Q none = Q
Searched v Q (some f) = Infers v f × (Holds v f → ⊥)

-- the view shows what R4 or R5 infers of job j on side s
abbrev pub SideObeys : View → Side → ℕ → Type 0
SideObeys v s j = (S : ℕ → Bool) (m : ℤ) → Pushing v s j S m → (m +ℤ energy v S) ≤ℤ bound s (v.row j)

module _ (v : View) where
  -- the view shows what R4, R5 and R6 infer of job i
  pub record JobObeys (i : ℕ) : Type 0 where
    pub room : D v i <ℤ (E v i +ℤ L v i) → ⊥
    pub pushed : (s : Side) → SideObeys v s i

  -- the view shows what R1, through k, R2 and R3 infer of i and another job k
  pub record PairObeys (i k : ℕ) : Type 0 where
    pub join : Valid v k → Arc v i k → (c : ℕ) → Arc v k c → i ≢ c → Arc v i c
    pub exclude : Valid v i → Arc v i k → Arc v k i → ⊥
    pub order : D v k <ℤ (E v i +ℤ L v i +ℤ L v k) → Arc v k i

  -- a row of the pairs, and all of them
  abbrev RowObeys : ℕ → Type 0
  RowObeys i = (k : ℕ) → Live v k × (i ≢ k) → PairObeys i k

  abbrev pub PairsObey : Type 0
  PairsObey = (i : ℕ) → Live v i → RowObeys i

  abbrev pub JobsObey : Type 0
  JobsObey = (i : ℕ) → Live v i → JobObeys i

  -- at each pair and at each job, the rules are obeyed
  pub all_obey : ((i k : ℕ) → Arc v i k → Live v i × Live v k × (i ≢ k)) → PairsObey → JobsObey → Obeys v
  all_obey joins pairs jobs _ (r1 a b c la vb lc ne ab bc) =
      let (_, lb, ab-ne) = joins a b ab in
      (la.0, lc.0, λ _ _. (pairs a la b (lb, ab-ne)).join vb ab c bc ne)
  all_obey joins pairs jobs _ (r2 a b va lb ab ba) =
      let (la, _, ne) = joins a b ab in
      absurd ((pairs a la b (lb, ne)).exclude va ab ba)
  all_obey joins pairs jobs _ (r3 a b la lb ne h) = (lb.0, la.0, λ _ _. (pairs a la b (lb, ne)).order h)
  all_obey joins pairs jobs _ (r45 s j S m lj p) = (lj.0, λ _. (jobs j lj).pushed s S m p)
  all_obey joins pairs jobs _ (r6 j lj h) = absurd ((jobs j lj).room h)
