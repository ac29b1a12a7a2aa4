-- Propagation on a board, and the jobs struck out that can't stay: it is a run of inferences.
use Rattle.std.specs.Prelude.{◌≡◌, refl, Bool, true, false, cond, not, ◌&&◌, List, ◌≢◌, ℕ, ◌<◌, ◌^◌, eqb, ltb, ℤ, get_or}
use Rattle.std.specs.Prelude as std
use Rattle.std.proofs.Common.{sym, ap, ◌∙◌, arith, le-ltb}
use Rattle.std.proofs.Math.Bool.{and-true, and-false}
use Rattle.std.proofs.Math.Option.{none}
use Rattle.std.proofs.Math.Decide.{dec_lt}
use Rattle.ground_sets.specs.Bit.{bit, intersection, difference, set_of}
use Rattle.ground_walks.specs.Takes.{Lowest}
use Rattle.ground_sets.specs.BitLaws.{bit_zero, bit_intersection, bit_difference, bit_set_of, bit_ext, bits_bound}
use Rattle.ground_walks.specs.Walk.{trailing_lowest}
use Rattle.ground_arithmetic.specs.Bools.{and_parts, is_false, refuted}
use Rattle.paper_board.specs.declared.Board.{Board}
use Rattle.paper_board.specs.Paper.View.{Live, Valid, view, row_of}
use Rattle.paper_board.specs.Paper.Limits.{job_limit, Within}
use Rattle.paper_board.specs.BoardTests.Live.{live_yes, valid_yes, valid_show}
use Rattle.paper_board.specs.Paper.Parts.{filled}
use Rattle.paper_rules.specs.Update.Strike.{strike, strike_below}
use Rattle.paper_rules.specs.Update.StrikeLaws.{strike_member, strike_other}
use Rattle.paper_rules.specs.Update.Derives.{Derived, Derives, derived_self}
use Rattle.engine_marks.specs.declared.Marks.{Marks}
use Rattle.engine_marks.specs.Marked.{marked, unmarked, bit_live, bit_valid}
use Rattle.engine_exclusion.specs.Gone.{AllGone, gone_valid, struck_all}
use Rattle.engine_propagation.specs.Turns.{Turns, Onward, Shut}

-- ---- the words of live and of valid jobs, where some are struck out

module _ (c : Board) (within : Within c) (set : ℕ) where
  -- a test of each job's mark: those struck out have mark 2, the others their own
  tested : (t : ℕ → Bool) (x : ℕ) → bit (set_of c.jobs (λ k. t (get_or (strike c set).marks k 0))) x
      ≡ (ltb x c.jobs && t (cond (bit set x) 2 (get_or c.marks x 0)))
  tested t x = bit_set_of c.jobs _ x ∙ go (bit set x) refl (dec_lt x c.jobs)
    where
      go : (s : Bool) → bit set x ≡ s → Dec (x < c.jobs)
          → (ltb x c.jobs && t (get_or (strike c set).marks x 0)) ≡ (ltb x c.jobs && t (cond s 2 (get_or c.marks x 0)))
      go s e (no l) = rw (le-ltb x c.jobs (omega arith))
      go true e (yes l) = ap (λ m. ltb x c.jobs && t m) (strike_member c within set x e l)
      go false e (yes l) = ap (λ r. ltb x c.jobs && t r.mark) (strike_other c within set x e)

  struck_live : set < 2 ^ job_limit → unmarked c.jobs (strike c set).marks 2 ≡ difference job_limit (unmarked c.jobs c.marks 2) set
  struck_live width = bit_ext _ _ λ x.
      tested (λ m. not (eqb m 2)) x ∙ go x (bit set x)
      ∙ sym (bit_difference job_limit (unmarked c.jobs c.marks 2) set x lives_fit width ∙ ap (λ t. t && not (bit set x)) (bit_set_of c.jobs _ x))
    where
      lives_fit : unmarked c.jobs c.marks 2 < 2 ^ job_limit
      lives_fit = bits_bound job_limit _ λ k l. bit_set_of c.jobs _ k ∙ rw (le-ltb k c.jobs (omega (arith, within.limits.jobs)))

      go : (x : ℕ) (s : Bool) → (ltb x c.jobs && not (eqb (cond s 2 (get_or c.marks x 0)) 2))
          ≡ ((ltb x c.jobs && not (eqb (get_or c.marks x 0) 2)) && not s)
      go x true = and-false (ltb x c.jobs) ∙ sym (and-false (ltb x c.jobs && not (eqb (get_or c.marks x 0) 2)))
      go x false = sym (and-true (ltb x c.jobs && not (eqb (get_or c.marks x 0) 2)))

  struck_valid : intersection set (marked c.jobs c.marks 1) ≡ 0 → marked c.jobs (strike c set).marks 1 ≡ marked c.jobs c.marks 1
  struck_valid apart = bit_ext _ _ λ x.
      tested (λ m. eqb m 1) x ∙ go x (bit set x) refl ∙ sym (bit_set_of c.jobs _ x)
    where
      go : (x : ℕ) (s : Bool) → bit set x ≡ s → (ltb x c.jobs && eqb (cond s 2 (get_or c.marks x 0)) 1) ≡ (ltb x c.jobs && eqb (get_or c.marks x 0) 1)
      go x false e = refl
      go x true e =
          let valids = marked c.jobs c.marks 1 in
          let none_both = sym (bit_intersection set valids x) ∙ ap (λ w. bit w x) apart ∙ bit_zero x in
          let none-valid = sym (bit_set_of c.jobs (λ k. eqb (get_or c.marks k 0) 1) x) ∙ (rw e at none_both) in
          and-false (ltb x c.jobs) ∙ sym none-valid

-- Inferences lead from the board b to the board c, which has these live and valid jobs; or there is no board.
abbrev pub Advances : Board → std.Option Marks → Board → Type 0
Advances b std.None c = Derives b none
Advances b (std.Some sets) c = Derived b c × (sets.live ≡ unmarked c.jobs c.marks 2) × (sets.valid ≡ marked c.jobs c.marks 1)

-- what propagation promises of a board within its limits, with the words of its live and its valid jobs
module _ (start end : Board) (within : Within start) (lives valids : ℕ)
    (is_live : lives ≡ unmarked start.jobs start.marks 2) (is_valid : valids ≡ marked start.jobs start.marks 1)
    (kept : end ≡ filled start start.lengths end.earliest end.latest start.marks end.after end.before) (stuck : ℕ)
    (onward : Onward lives valids start.lengths start.earliest start.latest start.before start.after end.earliest end.latest end.before end.after)
    (shut : Shut lives valids start.lengths start.earliest start.latest start.before start.after stuck) where
  lives_are : (x : ℕ) → bit lives x ≡ true → Live (view start) x
  lives_are x e = live_yes (view start) x (sym (ap (λ w. bit w x) is_live ∙ bit_live start x) ∙ e)

  valids_are : (x : ℕ) → bit valids x ≡ true → Valid (view start) x
  valids_are x e = valid_yes (view start) x (sym (ap (λ w. bit w x) is_valid ∙ bit_valid start x) ∙ e)

  begun : Turns start lives valids start.earliest start.latest start.before start.after
  begun = record { lives = lives_are; sound = valids_are; derived = derived_self start within }

  led : Derived start end
  led = rw kept (onward start refl begun).derived

  gone : AllGone start stuck
  gone = shut start refl begun

  -- those that can't stay are jobs of the board
  stuck_fits : stuck < 2 ^ job_limit
  stuck_fits = bits_bound job_limit stuck λ k l. is_false (bit stuck k) λ e. omega (arith, (gone.gone k e).0.0, within.limits.jobs)

  -- none of those that can't stay is valid
  undecided : intersection stuck valids ≡ 0 → (x : ℕ) → bit stuck x ≡ true → (row_of end x).mark ≢ 1
  undecided apart x e one =
      let valid : bit valids x ≡ true = ap (λ w. bit w x) is_valid ∙ bit_valid start x ∙ valid_show (view start) x ((gone.gone x e).0.0, rw kept at one) in
      refuted (sym (bit_intersection stuck valids x) ∙ ap (λ w. bit w x) apart ∙ bit_zero x) (rw (e, valid))

  live_end : lives ≡ unmarked end.jobs end.marks 2
  live_end = rw kept is_live

  valid_end : valids ≡ marked end.jobs end.marks 1
  valid_end = rw kept is_valid

  -- all jobs can stay
  pub advanced : Derived start end × (lives ≡ unmarked end.jobs end.marks 2) × (valids ≡ marked end.jobs end.marks 1)
  advanced = (led, live_end, valid_end)

  -- a valid one can't
  pub advanced_none : (both : ℕ) → both ≡ intersection stuck valids → both ≢ 0 → both < 2 ^ job_limit → Derives start none
  advanced_none both e some-job width = excluded _ (trailing_lowest job_limit both some-job width)
    where
      excluded : (x : ℕ) → Lowest job_limit both x → Derives start none
      excluded x low =
          let (out, valid) = and_parts (bit stuck x) (bit valids x) (sym (ap (λ w. bit w x) e ∙ bit_intersection stuck valids x) ∙ low.member) in
          gone_valid start stuck x gone out (valids_are x valid)

  -- others can't, and are struck out
  pub advanced_struck : intersection stuck valids ≡ 0 → (rest : ℕ) → rest ≡ difference job_limit lives stuck
      → (c : Board) → c ≡ strike end stuck → Derived start c × (rest ≡ unmarked c.jobs c.marks 2) × (valids ≡ marked c.jobs c.marks 1)
  unfolding strike_below
  advanced_struck apart rest e c is =
      let struck : Derived start (strike end stuck) =
      struck_all start end led stuck gone (undecided apart) (λ x e two. (gone.gone x e).0.1 (rw kept at two)) in
      rw is (
        struck,
        e ∙ ap (λ w. difference job_limit w stuck) live_end ∙ sym (struck_live end led.more.within stuck stuck_fits),
        valid_end ∙ sym (struck_valid end led.more.within stuck (ap (intersection stuck) (sym valid_end) ∙ apart)),
      )
