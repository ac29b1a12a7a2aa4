-- The paper's words and the inference rules say the same: a view keeps R1 to R6 exactly when it obeys what they infer.
use Rattle.std.specs.Prelude.{◌≡◌, Bool, true, ℕ, ℤ, neg_ℤ, ◌+ℤ◌, ◌≤ℤ◌}
use Rattle.ground_arithmetic.specs.Linear.{whole, plus, minus}
use Rattle.ground_arithmetic.specs.Sum.{least_member}
use Rattle.paper_board.specs.Paper.View.{View, Live, Valid, Side, early, late, bound, Beyond}
use Rattle.paper_board.specs.Paper.Facts.{is_arc, is_bound, is_invalid, Holds}
use Rattle.paper_rules.specs.Paper.Rules.{energy, R4, R5, Rules}
use Rattle.paper_rules.specs.Inference.Infers.{Pushing, r1, r2, r3, r45, r6, Obeys}
use Rattle.paper_rules.specs.Inference.Forced.{valid_live}

-- R4 and R5 as one statement with a side, so that the inference rule is related to both at once: on side early it is R4, on
-- side late R5 with the signs turned.
abbrev Pushes : View → Side → Type 0
Pushes v s = (j : ℕ) → Live v j → (S : ℕ → Bool) → ((k : ℕ) → S k ≡ true → Valid v k × Beyond v s k j)
    → (x : ℕ) → S x ≡ true → ((k : ℕ) → S k ≡ true → bound s (v.row x) ≤ℤ bound s (v.row k))
    → (bound s (v.row x) +ℤ energy v S) ≤ℤ bound s (v.row j)

early_raise : (v : View) → Pushes v early → R4 v
early_raise v pushes b lb S h = pushes b lb S λ k e. ((h k e).0, (h k e).1)

raise_early : (v : View) → R4 v → Pushes v early
raise_early v raise b lb S h = raise b lb S λ k e. search

late_lower : (v : View) → Pushes v late → R5 v
late_lower v pushes a la S h x sx high =
    let D : ℕ → ℤ = λ k. (v.row k).latest in
    let e = energy v S in
    let pushed = pushes a la S h x sx λ k i. omega (whole, high k i, minus (D x), minus (D k)) in
    omega (whole, pushed, minus (D a), minus (D x), minus e, plus (neg_ℤ (D x)) e, plus (D x) (neg_ℤ e))

lower_late : (v : View) → R5 v → Pushes v late
lower_late v lower a la S h x sx low =
    let D : ℕ → ℤ = λ k. (v.row k).latest in
    let e = energy v S in
    let lowered = lower a la S h x sx λ k i. omega (whole, low k i, minus (D x), minus (D k)) in
    omega (whole, lowered, minus (D a), minus (D x), minus e, plus (neg_ℤ (D x)) e, plus (D x) (neg_ℤ e))

obeys_pushes : (v : View) → Obeys v → (s : Side) → Pushes v s
obeys_pushes v obeys s j lj S h x sx low =
    (obeys (is_bound s j (bound s (v.row x) +ℤ energy v S)) (r45 s j S (bound s (v.row x)) lj pushing)).1 lj
  where
    pushing : Pushing v s j S (bound s (v.row x))
    pushing = record { member = x; inside = sx; valid = λ k e. (h k e).0; beyond = λ k e. (h k e).1; low = low }

-- the member x of S with the least bound has a bound of m or more, so what it pushes is enough
pushes_holds : (v : View) (s : Side) → Pushes v s
    → (j : ℕ) (S : ℕ → Bool) (m : ℤ) → Live v j → Pushing v s j S m → Holds v (is_bound s j (m +ℤ energy v S))
pushes_holds v s pushes j S m lj p =
    let (x, l, sx, least) = least_member v.jobs S (λ k. bound s (v.row k)) p.member (p.valid p.member p.inside).0 p.inside in
    let pushed = pushes j lj S (λ k e. (p.valid k e, p.beyond k e)) x sx (λ k e. least k (p.valid k e).0 e) in
    (lj.0, λ l'. omega (whole, pushed, p.low x sx, plus m (energy v S), plus (bound s (v.row x)) (energy v S)))

pub obeys_rules : (v : View) → Obeys v → Rules v
obeys_rules v obeys =
    record {
      join = λ a b c ab bc vb la lc ne. (obeys (is_arc a c) (r1 a b c la vb lc ne ab bc)).2 la lc;
      exclude = λ a b la lb ab ba va. obeys (is_invalid b) (r2 a b va lb ab ba);
      order = λ a b la lb ne h. (obeys (is_arc b a) (r3 a b la lb ne h)).2 lb la;
      raise = early_raise v (obeys_pushes v obeys early);
      lower = late_lower v (obeys_pushes v obeys late);
      room = λ j lj h. obeys (is_invalid j) (r6 j lj h);
    }

pub rules_obey : (v : View) → Rules v → Obeys v
rules_obey v rules _ (r1 a b c la vb lc ne ab bc) = (la.0, lc.0, λ la' lc'. rules.join a b c ab bc vb la lc ne)
rules_obey v rules _ (r2 a b va lb ab ba) = rules.exclude a b (valid_live v a va) lb ab ba va
rules_obey v rules _ (r3 a b la lb ne h) = (lb.0, la.0, λ lb' la'. rules.order a b la lb ne h)
rules_obey v rules _ (r45 early j S m lj p) = pushes_holds v early (raise_early v rules.raise) j S m lj p
rules_obey v rules _ (r45 late j S m lj p) = pushes_holds v late (lower_late v rules.lower) j S m lj p
rules_obey v rules _ (r6 j lj h) = rules.room j lj h
