-- Each rule is forced: what the rules infer from a board holds in every board above it that obeys them.
use Rattle.std.specs.Prelude.{◌≡◌, Bool, true, false, ℕ, ◌<◌, ◌≤◌, ℤ, ◌+ℤ◌, ◌≤ℤ◌, ◌<ℤ◌}
use Rattle.std.proofs.Common.{◌∙◌, subst, arith}
use Rattle.std.proofs.Math.Decide.{ℕ_discrete}
use Rattle.ground_arithmetic.specs.Bools.{is_false}
use Rattle.ground_arithmetic.specs.Linear.{whole, plus}
use Rattle.ground_arithmetic.specs.Sum.{total_same, total_more}
use Rattle.paper_board.specs.Paper.View.{View, Live, Valid, Invalid, Side, bound}
use Rattle.paper_board.specs.Paper.Facts.{Fact, is_arc, is_bound, is_invalid, Holds}
use Rattle.paper_rules.specs.Paper.Rules.{E, D, L, energy}
use Rattle.paper_rules.specs.Inference.Infers.{Pushing, Infers, r1, r2, r3, r45, r6, Obeys}
use Rattle.paper_rules.specs.Paper.Entries.{◌⊑◌}
use Rattle.paper_rules.specs.Order.OrderLaws.{below_up, valid_up, arc_up, bound_up, length_up, beyond_up}

-- a job that is not live is invalid
pub invalid_unless : (v : View) (j : ℕ) → j < v.jobs → (Live v j → Invalid v j) → Invalid v j
invalid_unless v j l h = go (ℕ_discrete (v.row j).mark 2)
  where
    go : Dec ((v.row j).mark ≡ 2) → Invalid v j
    go (yes e) = (l, e)
    go (no n) = h (l, n)

pub valid_live : (v : View) (j : ℕ) → Valid v j → Live v j
valid_live v j h = (h.0, λ e. omega (arith, e, h.1))

module _ (v w : View) (up : v ⊑ w) (obeys : Obeys w) where
  -- the sum of lengths of valid jobs is the same above
  energy_up : (S : ℕ → Bool) → ((k : ℕ) → S k ≡ true → Valid v k) → energy w S ≡ energy v S
  energy_up S valid =
      total_more v.jobs w.jobs S (λ k. (w.row k).length) up.jobs outside
      ∙ total_same v.jobs S (λ k. (w.row k).length) (λ k. (v.row k).length) λ k l e.
      length_up v w up k l (valid_live w k (valid_up v w up k (valid k e)))
    where
      outside : (k : ℕ) → v.jobs ≤ k → S k ≡ false
      outside k l = is_false (S k) λ e. omega (arith, (valid k e).0)

  push_up : (s : Side) (j : ℕ) (S : ℕ → Bool) {m : ℤ} → Live w j → Pushing v s j S m → Pushing w s j S m
  push_up s j S lj p =
      let live : (k : ℕ) → S k ≡ true → Live w k = λ k e. valid_live w k (valid_up v w up k (p.valid k e)) in
      record {
        member = p.member;
        inside = p.inside;
        valid = λ k e. valid_up v w up k (p.valid k e);
        beyond = λ k e. beyond_up v w up s k j (p.beyond k e) (live k e) lj;
        low = λ k e. omega (whole, p.low k e, bound_up v w up s k (p.valid k e).0 (live k e));
      }

  tight : (a b : ℕ) → Live v a → Live v b → Live w a → Live w b
      → D v b <ℤ (E v a +ℤ L v a +ℤ L v b)
      → D w b <ℤ (E w a +ℤ L w a +ℤ L w b)
  tight a b la lb la' lb' h =
      let r = v.row a in
      let s = w.row a in
      let up-a = up.rows a la.0 in
      let up-b = up.rows b lb.0 in
      omega (
        whole,
        up-b.latest lb'.1,
        up-b.length lb'.1,
        up-a.earliest la'.1,
        up-a.length la'.1,
        plus r.earliest r.length,
        plus s.earliest s.length,
        plus (r.earliest +ℤ r.length) (v.row b).length,
        plus (s.earliest +ℤ s.length) (w.row b).length,
      )

  short : (j : ℕ) → Live v j → Live w j
      → D v j <ℤ (E v j +ℤ L v j)
      → D w j <ℤ (E w j +ℤ L w j)
  short j lj lj' h =
      let r = v.row j in
      let s = w.row j in
      let up-j = up.rows j lj.0 in
      omega (whole, up-j.latest lj'.1, up-j.earliest lj'.1, up-j.length lj'.1, plus r.earliest r.length, plus s.earliest s.length)

  pub forced : (f : Fact) → Infers v f → Holds w f
  forced _ (r1 a b c la vb lc ne ab bc) =
      let vb' = valid_up v w up b vb in
      let lb = valid_live w b vb' in (
        below_up v w up a la.0,
        below_up v w up c lc.0,
        λ la' lc'.
            (obeys (is_arc a c) (r1 a b c la' vb' lc' ne (arc_up v w up a b ab la' lb) (arc_up v w up b c bc lb lc'))).2 la' lc',
      )
  forced _ (r2 a b va lb ab ba) =
      let va' = valid_up v w up a va in
      let la' = valid_live w a va' in
      invalid_unless w b (below_up v w up b lb.0) λ lb'.
      obeys (is_invalid b) (r2 a b va' lb' (arc_up v w up a b ab la' lb') (arc_up v w up b a ba lb' la'))
  forced _ (r3 a b la lb ne h) =
      let a'' = below_up v w up a la.0 in
      let b'' = below_up v w up b lb.0 in
      (b'', a'', λ lb' la'. (obeys (is_arc b a) (r3 a b la' lb' ne (tight a b la lb la' lb' h))).2 lb' la')
  forced _ (r45 s j S m lj p) = (
    below_up v w up j lj.0,
    λ lj'.
        subst (λ e. (m +ℤ e) ≤ℤ bound s (w.row j)) (energy_up S p.valid) ((obeys (is_bound s j (m +ℤ energy w S)) (r45 s j S m lj' (push_up s j S lj' p))).1 lj'),
  )
  forced _ (r6 j lj h) =
      invalid_unless w j (below_up v w up j lj.0) λ lj'. obeys (is_invalid j) (r6 j lj' (short j lj lj' h))
