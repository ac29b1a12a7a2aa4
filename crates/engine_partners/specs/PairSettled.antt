-- The pairs settled: what is known of a pair that is left out, and that the rules are obeyed once this is known of each pair, and R4
-- to R6 of each job. R1 needs no test through a job that lies after another one tested, nor R3 one of a pair that R4 to R6 keep apart.
use Rattle.std.specs.Prelude.{◌≡◌, refl, ◌≢◌, ◌⊎◌, ℕ, zero, suc, ◌<◌, eqb, neg_ℤ, ◌+ℤ◌, get_or, ◌≤ℤ◌, ◌<ℤ◌}
use Rattle.std.proofs.Common.{sym, subst, inl, inr, ⊎_elim, arith, eq-eqb, eqb-true}
use Rattle.std.proofs.Math.Path.{subst⁻¹}
use Rattle.std.proofs.Math.Decide.{ℕ_discrete}
use Rattle.ground_sets.specs.BitLaws.{part_below}
use Rattle.ground_walks.specs.Walk.{Left}
use Rattle.ground_arithmetic.specs.Linear.{whole, plus, minus}
use Rattle.paper_board.specs.declared.Board.{Board}
use Rattle.paper_board.specs.Paper.View.{View, Live, Valid, Arc, Side, early, late, bound, Beyond, view}
use Rattle.paper_board.specs.Paper.Limits.{Within}
use Rattle.paper_rules.specs.Paper.Rules.{E, D, L}
use Rattle.paper_rules.specs.Inference.Infers.{Obeys}
use Rattle.engine_sums.specs.Single.{total_single}
use Rattle.engine_findings.specs.Searched.{PairObeys, PairsObey, JobsObey, all_obey}

module _ (v : View) where
  -- there are arcs from i to all jobs after m
  abbrev Joins : ℕ → ℕ → Type 0
  Joins i m = (c : ℕ) → Arc v m c → i ≢ c → Arc v i c

  pub record PairSettled (i k : ℕ) : Type 0 where
    pub join : Valid v k → Arc v i k → Joins i k ⊎ ((m : ℕ) × Valid v m × Arc v i m × Arc v m k × Joins i m)
    pub exclude : Valid v i → Arc v i k → Arc v k i → ⊥
    pub order : D v k <ℤ (E v i +ℤ L v i +ℤ L v k) → Arc v k i ⊎ (Arc v i k × (Valid v i ⊎ Valid v k))

  pub obeys_settled : (i k : ℕ) → PairObeys v i k → PairSettled i k
  obeys_settled i k h =
      record { join = λ vk forth. inl (h.join vk forth); exclude = h.exclude; order = λ l. inl (h.order l) }

  -- a row of the pairs, and what is left of it
  abbrev pub RowSettled : ℕ → Type 0
  RowSettled i = (k : ℕ) → Live v k × (i ≢ k) → PairSettled i k

  abbrev pub PairsSettled : Type 0
  PairsSettled = (i : ℕ) → Live v i → RowSettled i

  abbrev pub PairsLeft : ℕ → ℕ → Type 0
  PairsLeft i = Left (λ k. Live v k × (i ≢ k)) (PairSettled i)

-- ---- R1

module _ (b : Board) (h : Within b) (pairs : PairsSettled (view b)) where
  abbrev v : View
  v = view b

  -- fewer jobs lie after m than after i, of which m is one
  fewer : (i m : ℕ) → Valid v m → Arc v i m → Joins v i m → get_or b.after m 0 < get_or b.after i 0
  fewer i m vm forth joins =
      let (li, lm, ne) = h.limits.arcs i m forth in
      part_below _ _ m
      (λ x e. joins x e λ same. (pairs m lm i (li, λ s. ne (sym s))).exclude vm (subst⁻¹ (λ y. Arc v m y) same e) forth)
      forth (λ e. (h.limits.arcs m m e).2 refl)

  joins_below : (n i k : ℕ) → get_or b.after i 0 < n → Valid v k → Arc v i k → Joins v i k
  joins_below zero i k l vk forth = absurd (omega arith)
  joins_below (suc n) i k l vk forth =
      let (li, lk, ne) = h.limits.arcs i k forth in
      go ((pairs i li k (lk, ne)).join vk forth) (joins_below n)
    where
      go : Joins v i k ⊎ ((m : ℕ) × Valid v m × Arc v i m × Arc v m k × Joins v i m)
          → ((j x : ℕ) → get_or b.after j 0 < n → Valid v x → Arc v j x → Joins v j x) → Joins v i k
      go (inl joins) below = joins
      go (inr (m, vm, im, mk, joins)) below = λ c e ne. at c e ne (ℕ_discrete m c)
        where
          at : (c : ℕ) → Arc v k c → i ≢ c → Dec (m ≡ c) → Arc v i c
          at c e ne (yes same) = subst (Arc v i) same im
          at c e ne (no other) = joins c (below m k (omega (arith, fewer i m vm im joins)) vk mk c e other) ne

-- ---- R3

module _ (v : View) (jobs : JobsObey v) where
  -- one valid job beyond another
  single_obeyed : (s : Side) (j k : ℕ) → Live v j → Valid v k → Beyond v s k j → (bound s (v.row k) +ℤ L v k) ≤ℤ bound s (v.row j)
  single_obeyed s j k live valid beyond =
      subst (λ x. (bound s (v.row k) +ℤ x) ≤ℤ bound s (v.row j)) (total_single v.jobs (λ x. (v.row x).length) k valid.0)
      ((jobs j live).pushed s (eqb k) (bound s (v.row k))
      (record {
        member = k;
        inside = eq-eqb k k refl;
        valid = λ x e. subst (Valid v) (eqb-true k x e) valid;
        beyond = λ x e. subst (λ y. Beyond v s y j) (eqb-true k x e) beyond;
        low = λ x e. let same = eqb-true k x e in rw (← same) (omega whole);
      }))

  -- a job after i ends in time where one of the two is valid
  apart_ends : (i k : ℕ) → Live v i → Live v k → Arc v i k → Valid v i ⊎ Valid v k → D v k <ℤ (E v i +ℤ L v i +ℤ L v k) → ⊥
  apart_ends i k li lk arc (inl vi) h =
      (jobs k lk).room (omega (whole, h, single_obeyed early k i lk vi arc, plus (E v i) (L v i), plus (E v i +ℤ L v i) (L v k), plus (E v k) (L v k)))
  apart_ends i k li lk arc (inr vk) h =
      (jobs i li).room (omega (whole, h, single_obeyed late i k li vk arc, plus (E v i) (L v i), plus (E v i +ℤ L v i) (L v k), minus (D v i), minus (D v k), plus (neg_ℤ (D v k)) (L v k)))

-- ---- all rules

pub pairs_settled_obey : (b : Board) → Within b → PairsSettled (view b) → JobsObey (view b) → Obeys (view b)
pairs_settled_obey b h pairs jobs = all_obey (view b) h.limits.arcs obeyed jobs
  where
    obeyed : PairsObey (view b)
    obeyed i li k (lk, ne) =
        let p = pairs i li k (lk, ne) in
        record {
          join = λ vk forth. joins_below b h pairs (suc (get_or b.after i 0)) i k (omega arith) vk forth;
          exclude = p.exclude;
          order = λ l. ⊎_elim (λ arc. arc) (λ (arc, one). absurd (apart_ends (view b) jobs i k li lk arc one l)) (p.order l);
        }
