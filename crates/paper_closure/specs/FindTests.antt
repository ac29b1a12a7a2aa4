-- What the tests of the search decide: the premises of each rule, and that the view does not show yet what it infers. Both
-- that the search is sound and that it is complete go by these.
use Rattle.std.specs.Prelude.{◌≢◌, not, ◌&&◌, ℕ, ◌<◌, eqb, ◌+ℤ◌, ◌≤ℤ◌, ◌<ℤ◌}
use Rattle.std.specs.Int.Signed.{lt_z}
use Rattle.ground_arithmetic.specs.Linear.{whole}
use Rattle.paper_board.specs.Paper.View.{View, Live, Valid, Arc, Side, early, late, bound, Beyond}
use Rattle.paper_rules.specs.Paper.Rules.{E, D, L}
use Rattle.paper_board.specs.Paper.Tests.{live, valid}
use Rattle.paper_board.specs.BoardTests.Live.{roomy}
use Rattle.paper_board.specs.BoardTests.Decides.{Decides, ◌and◌, negated, holds, eq, live_is, valid_is, at_most, earlier, not_at_most}
use Rattle.paper_closure.specs.Find.{beyond, too_late, joined, pushers, pushed}
use Rattle.paper_closure.specs.Finds.{some_below}

module _ (v : View) where
  beyond_is : (s : Side) (k j : ℕ) → Decides (beyond v s k j) (Beyond v s k j)
  unfolding beyond
  beyond_is early k j = holds (v.arc k j)
  beyond_is late k j = holds (v.arc j k)

  differ : (a b : ℕ) → Decides (not (eqb a b)) (a ≢ b)
  differ a b = negated (eq a b)

  no_arc : (a b : ℕ) → Decides (not (v.arc a b)) (Arc v a b → ⊥)
  no_arc a b = negated (holds (v.arc a b))

  -- R6
  pub room_is : (j : ℕ) → Decides (live v j && not (roomy (v.row j))) (Live v j × (D v j <ℤ (E v j +ℤ L v j)))
  room_is j = live_is v j and not_at_most (E v j +ℤ L v j) (D v j)

  -- R2
  pub exclude_is : (a b : ℕ) → Decides (valid v a && live v b && v.arc a b && v.arc b a) (((Valid v a × Live v b) × Arc v a b) × Arc v b a)
  exclude_is a b = valid_is v a and live_is v b and holds (v.arc a b) and holds (v.arc b a)

  -- R3
  late_is : (a b : ℕ) → Decides (too_late v a b) (D v b <ℤ (E v a +ℤ L v a +ℤ L v b))
  unfolding too_late
  late_is a b = record { yes = λ e. omega whole; show = λ h. omega whole }

  pub order_is : (a b : ℕ)
      → Decides (live v a && live v b && not (eqb a b) && too_late v a b && not (v.arc b a))
      ((((Live v a × Live v b) × (a ≢ b)) × (D v b <ℤ (E v a +ℤ L v a +ℤ L v b))) × (Arc v b a → ⊥))
  order_is a b = live_is v a and live_is v b and differ a b and late_is a b and no_arc b a

  -- R1
  abbrev Joined : ℕ → ℕ → Type 0
  Joined a c = (b : ℕ) × (b < v.jobs) × ((Valid v b × Arc v a b) × Arc v b c)

  joined_is : (a c : ℕ) → Decides (joined v a c) (Joined a c)
  unfolding joined
  joined_is a c = some_below v.jobs λ b. valid_is v b and holds (v.arc a b) and holds (v.arc b c)

  pub join_is : (a c : ℕ)
      → Decides (live v a && live v c && not (eqb a c) && joined v a c && not (v.arc a c))
      ((((Live v a × Live v c) × (a ≢ c)) × Joined a c) × (Arc v a c → ⊥))
  join_is a c = live_is v a and live_is v c and differ a c and joined_is a c and no_arc a c

  -- R4 and R5
  pub pusher_is : (s : Side) (x j k : ℕ)
      → Decides (pushers v s x j k) ((Valid v k × Beyond v s k j) × (bound s (v.row x) ≤ℤ bound s (v.row k)))
  unfolding pushers
  pusher_is s x j k = valid_is v k and beyond_is s k j and at_most (bound s (v.row x)) (bound s (v.row k))

  pub push_is : (s : Side) (x j : ℕ)
      → Decides (live v j && valid v x && beyond v s x j && lt_z (bound s (v.row j)) (pushed v s x j))
      (((Live v j × Valid v x) × Beyond v s x j) × (bound s (v.row j) <ℤ pushed v s x j))
  push_is s x j = live_is v j and valid_is v x and beyond_is s x j and earlier (bound s (v.row j)) (pushed v s x j)
