-- What the tests of live and of valid decide; and the test of R6.
use Rattle.std.specs.Prelude.{◌≡◌, Bool, true, not, ℕ, ◌+ℤ◌, eqb, ltb}
use Rattle.std.specs.Int.Signed.{le_z}
use borrow.Author.Tests.{ltb-true, lt-ltb, eqb-true, eq-eqb, eqb-false, ne_eqb, not-true}
use Rattle.ground_arithmetic.specs.Bools.{and_parts}
use Rattle.paper_board.specs.Paper.View.{Row, View, Live, Valid}
use Rattle.paper_board.specs.Paper.Tests.{live, valid}

-- R6: does the job fit its window?
abbrev pub roomy : Row → Bool
roomy r = le_z (r.earliest +ℤ r.length) r.latest

module _ (v : View) (j : ℕ) where
  pub live_yes : live v j ≡ true → Live v j
  unfolding live
  live_yes e =
      let (l, m) = and_parts (ltb j v.jobs) (not (eqb (v.row j).mark 2)) e in
      (ltb-true j v.jobs l, eqb-false (v.row j).mark 2 (not-true _ m))

  pub live_show : Live v j → live v j ≡ true
  unfolding live
  live_show (l, m) = rw (lt-ltb j v.jobs l, ne_eqb (v.row j).mark 2 m)

  pub valid_yes : valid v j ≡ true → Valid v j
  unfolding valid
  valid_yes e =
      let (l, m) = and_parts (ltb j v.jobs) (eqb (v.row j).mark 1) e in
      (ltb-true j v.jobs l, eqb-true (v.row j).mark 1 m)

  pub valid_show : Valid v j → valid v j ≡ true
  unfolding valid
  valid_show (l, m) = rw (lt-ltb j v.jobs l, eq-eqb (v.row j).mark 1 m)
