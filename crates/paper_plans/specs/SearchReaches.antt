-- The lists that tries reach, each job placed by a try, and where the jobs of a list start. What the tries find is such a list
-- with all jobs placed.
use Rattle.std.specs.Prelude.{◌≡◌, refl, ◌≢◌, true, false, ◌&&◌, List, [], ◌∷◌, ℤ, length}
use Rattle.std.proofs.Common.{sym, ◌∙◌, arith, eq-eqb, ne_eqb}
use Prim.Native.Nat.{ℕ, zero, suc}
use Rattle.std.proofs.Math.Decide.{ℕ_discrete}
use Rattle.ground_arithmetic.specs.Bools.{and_parts, by_test}
use Rattle.paper_board.specs.Paper.View.{View}
use Rattle.paper_plans.specs.Paper.Lists.{among}
use Rattle.paper_plans.specs.Paper.Tries.{none, start_after, start_in, in_time, ready, unplaced, search}
use Rattle.paper_plans.specs.ListLaws.{Distinct, among_rest}
use Rattle.paper_plans.specs.Unplaced.{unplaced_is, one_placed}
use Rattle.paper_plans.specs.EndingLaws.{IfFound, from_if}

module _ (v : View) where
  pub start_first : (j : ℕ) (ps : List ℕ) → start_in v (j ∷ ps) j ≡ start_after v ps j
  unfolding start_in
  start_first j ps = rw (eq-eqb j j refl)

  pub start_rest : (j : ℕ) (ps : List ℕ) (k : ℕ) → j ≢ k → start_in v (j ∷ ps) k ≡ start_in v ps k
  unfolding start_in
  start_rest j ps k ne = rw (ne_eqb j k ne)

  -- what holds of the last job and of those before it holds of each
  pub last_and_before : (P : ℕ → ℤ → Type 0) (j : ℕ) (ps : List ℕ) → P j (start_after v ps j)
      → ((k : ℕ) → among ps k ≡ true → P k (start_in v ps k)) → (k : ℕ) → among (j ∷ ps) k ≡ true → P k (start_in v (j ∷ ps) k)
  last_and_before P j ps last before k a = go (ℕ_discrete j k)
    where
      go : Dec (j ≡ k) → P k (start_in v (j ∷ ps) k)
      go (yes d) = rw (← d) (rw (start_first j ps) last)
      go (no ne) = rw (start_rest j ps k ne) (before k (sym (among_rest j ps k ne) ∙ a))

module _ (v : View) (order : List ℕ) where
  -- the try of j from the list ps places it
  pub record TryPlaces (ps : List ℕ) (j : ℕ) : Type 0 where
    pub member : among order j ≡ true
    pub unplaced : among ps j ≡ false
    pub ready : ready v order ps j ≡ true
    pub in_time : in_time v ps j ≡ true

  abbrev pub Reachable : List ℕ → Type 0
  Reachable [] = Unit {0}
  Reachable (j ∷ ps) = TryPlaces ps j × Reachable ps

  pub search_reaches : Distinct order → (n : ℕ) (ps : List ℕ) → Reachable ps → length (unplaced v order ps) ≡ n
      → IfFound (λ qs. Reachable qs × (length (unplaced v order qs) ≡ 0)) (search v order n ps)
  unfolding search
  search_reaches d zero ps r e = (r, e)
  search_reaches d (suc n) ps r e =
      from_if v order (search v order n) ps _ (unplaced v order ps) λ j a.
      let (fresh, member) = (unplaced_is v order ps j).yes a in
      by_test (IfFound _) (ready v order ps j && in_time v ps j) (search v order n (j ∷ ps)) (none 0)
      (λ h.
      let (after, fits) = and_parts (ready v order ps j) (in_time v ps j) h in
      search_reaches d n (j ∷ ps)
      (record { member = member; unplaced = fresh; ready = after; in_time = fits }, r)
      (omega (arith, one_placed v order ps d j member fresh)))
      (λ h. tt)
