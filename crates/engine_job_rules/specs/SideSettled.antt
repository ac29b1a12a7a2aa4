-- R4 and R5 at each job by a last one of the valid jobs beyond it: those that lie beyond the last one push it too, so that its end is no
-- earlier than any of their sums. Where this or the rule itself is known at every job, the rule holds at every job.
use Rattle.std.specs.Prelude.{◌≡◌, refl, ◌≢◌, ◌⊎◌, Bool, true, false, not, ◌&&◌, ℕ, zero, suc, ◌<◌, eqb, ℤ, pos, ◌+ℤ◌, ◌≤ℤ◌, ◌<ℤ◌}
use Rattle.std.proofs.Common.{sym, ap, ◌∙◌, inl, inr, ⊎_elim, below_more, ne_eqb, arith}
use Rattle.std.proofs.Math.Bool.{and-true}
use Rattle.ground_arithmetic.specs.Bools.{is_true, is_false, refuted, and_parts}
use Rattle.ground_arithmetic.specs.Linear.{whole, plus}
use Rattle.ground_arithmetic.specs.Sum.{sum, total_member, total_more, total_split, total_subset, total_range}
use Rattle.paper_board.specs.declared.Board.{Board}
use Rattle.paper_board.specs.Paper.View.{View, Live, Valid, Side, bound, Beyond, view, row_of}
use Rattle.paper_board.specs.Paper.Limits.{Within, IsTime, first_minute}
use Rattle.paper_rules.specs.Paper.Rules.{energy}
use Rattle.paper_board.specs.BoardTests.Ranges.{ranges}
use Rattle.paper_board.specs.BoardTests.Decides.{Decides, ◌and◌, negated, holds, eq}
use Rattle.paper_rules.specs.Inference.Infers.{Pushing}
use Rattle.paper_board.specs.BoardTests.BoundTime.{turned_time}
use Rattle.engine_sums.specs.RaiseExact.{times_within, bound_is}
use Rattle.engine_findings.specs.Searched.{SideObeys}

-- The valid jobs beyond j lie beyond a last one, but for some that stand apart. With all of these the last one ends by the bound of j, and
-- sets of these push j no further.
pub record LastEnds (v : View) (s : Side) (j : ℕ) : Type 0 where
  pub last : ℕ
  pub valid : Valid v last
  pub apart : ℕ → Bool
  pub others : (k : ℕ) → Valid v k → Beyond v s k j → last ≢ k → Beyond v s k last ⊎ (apart k ≡ true)
  pub together : (bound s (v.row last) +ℤ (v.row last).length +ℤ energy v apart) ≤ℤ bound s (v.row j)
  pub sums : (S : ℕ → Bool) (m : ℤ) → Pushing v s j S m → ((k : ℕ) → S k ≡ true → apart k ≡ true) → (m +ℤ energy v S) ≤ℤ bound s (v.row j)

abbrev pub SideSettled : View → Side → ℕ → Type 0
SideSettled v s j = SideObeys v s j ⊎ LastEnds v s j

some_or_none : (n : ℕ) (S : ℕ → Bool) → ((x : ℕ) × (S x ≡ true)) ⊎ ((k : ℕ) → k < n → S k ≡ false)
some_or_none zero S = inr λ k l. absurd (omega arith)
some_or_none (suc n) S = go (S n) refl (some_or_none n S)
  where
    go : (t : Bool) → S n ≡ t → ((x : ℕ) × (S x ≡ true)) ⊎ ((k : ℕ) → k < n → S k ≡ false)
        → ((x : ℕ) × (S x ≡ true)) ⊎ ((k : ℕ) → k < suc n → S k ≡ false)
    go true e below = inl (n, e)
    go false e (inl x) = inl x
    go false e (inr none) = inr λ k l. below_more (λ x. S x ≡ false) n none e k (omega arith)

-- a set of jobs that lie beyond k, or are k itself, comes to the end of k at most
module _ (v : View) (s : Side) (j k : ℕ) (place : k < v.jobs) (obeyed : SideObeys v s k) (S : ℕ → Bool) (m : ℤ) (p : Pushing v s j S m)
    (others : (x : ℕ) → S x ≡ true → k ≢ x → Beyond v s x k) where
  abbrev rest : ℕ → Bool
  rest x = S x && not (eqb k x)

  is_rest : (x : ℕ) → Decides (rest x) ((S x ≡ true) × (k ≢ x))
  is_rest x = holds (S x) and negated (eq k x)

  pushes_last : (R : ℕ → Bool) → ((x : ℕ) → R x ≡ true → (S x ≡ true) × (k ≢ x)) → (x : ℕ) → R x ≡ true
      → (m +ℤ energy v R) ≤ℤ bound s (v.row k)
  pushes_last R part x e =
      obeyed R m
      (record {
        member = x;
        inside = e;
        valid = λ y i. p.valid y (part y i).0;
        beyond = λ y i. let (w, ne) = part y i in others y w ne;
        low = λ y i. p.low y (part y i).0;
      })

  none_rest : S k ≡ true → ((x : ℕ) → x < v.jobs → rest x ≡ false) → (m +ℤ energy v rest) ≤ℤ bound s (v.row k)
  unfolding sum
  none_rest e out =
      let nothing = total_more 0 v.jobs rest (λ x. (v.row x).length) (omega arith) λ x _. is_false (rest x) λ i.
      refuted (out x (p.valid x ((is_rest x).yes i).0).0) i in
      omega (whole, nothing, p.low k e, plus m (energy v rest))

  rest_under : S k ≡ true → (m +ℤ energy v rest) ≤ℤ bound s (v.row k)
  rest_under e = ⊎_elim (λ (x, i). pushes_last rest (λ y. (is_rest y).yes) x i) (none_rest e) (some_or_none v.jobs rest)

  ends_last : pos 0 ≤ℤ (v.row k).length → (m +ℤ energy v S) ≤ℤ (bound s (v.row k) +ℤ (v.row k).length)
  ends_last long = go (S k) refl
    where
      length : ℕ → ℤ
      length x = (v.row x).length

      go : (t : Bool) → S k ≡ t → (m +ℤ energy v S) ≤ℤ (bound s (v.row k) +ℤ length k)
      go true e =
          let more = total_member v.jobs S rest length k place e (is_false (rest k) λ i. ((is_rest k).yes i).1 refl)
          (λ x ne. rw (ne_eqb k x λ same. ne (sym same)) (and-true (S x))) in
          omega (whole, rest_under e, more, plus (length k) (energy v rest), plus m (energy v S), plus m (energy v rest), plus (bound s (v.row k)) (length k))
      go false e =
          let under = pushes_last S (λ x i. (i, λ same. refuted (ap S (sym same) ∙ e) i)) p.member p.inside in
          omega (whole, under, plus (bound s (v.row k)) (length k))

-- what stands apart adds no more than all its lengths; a set that stands apart as a whole pushes j no further
module _ (v : View) (s : Side) (j : ℕ) (l : LastEnds v s j) (obeyed : SideObeys v s l.last) (long : (x : ℕ) → pos 0 ≤ℤ (v.row x).length)
    (S : ℕ → Bool) (m : ℤ) (p : Pushing v s j S m) where
  abbrev near : ℕ → Bool
  near x = S x && not (l.apart x)

  is_near : (x : ℕ) → Decides (near x) ((S x ≡ true) × (l.apart x ≡ true → ⊥))
  is_near x = holds (S x) and negated (holds (l.apart x))

  near_ends : (x : ℕ) → near x ≡ true → (m +ℤ energy v near) ≤ℤ (bound s (v.row l.last) +ℤ (v.row l.last).length)
  near_ends x e =
      ends_last v s j l.last l.valid.0 obeyed near m
      (record {
        member = x;
        inside = e;
        valid = λ y i. p.valid y ((is_near y).yes i).0;
        beyond = λ y i. p.beyond y ((is_near y).yes i).0;
        low = λ y i. p.low y ((is_near y).yes i).0;
      })
      (λ y i ne. let (w, far) = (is_near y).yes i in ⊎_elim (λ b. b) (λ a. absurd (far a)) (l.others y (p.valid y w) (p.beyond y w) ne))
      (long l.last)

  last_obeys : (m +ℤ energy v S) ≤ℤ bound s (v.row j)
  last_obeys = ⊎_elim some_near none_near (some_or_none v.jobs near)
    where
      length : ℕ → ℤ
      length x = (v.row x).length

      some_near : ((x : ℕ) × (near x ≡ true)) → (m +ℤ energy v S) ≤ℤ bound s (v.row j)
      some_near (x, e) =
          let split = total_split v.jobs S l.apart length in
          let far = total_subset v.jobs (λ k. S k && l.apart k) l.apart length (λ k _ i. (and_parts (S k) (l.apart k) i).1) (λ k _ _. long k) in
          let end = bound s (v.row l.last) +ℤ length l.last in
          omega (
            whole,
            near_ends x e,
            split,
            far,
            l.together,
            plus m (energy v S),
            plus m (energy v near),
            plus end (energy v l.apart),
            plus (energy v λ k. S k && l.apart k) (energy v near),
          )

      none_near : ((k : ℕ) → k < v.jobs → near k ≡ false) → (m +ℤ energy v S) ≤ℤ bound s (v.row j)
      none_near out = l.sums S m p λ k e. is_true (l.apart k) λ far. refuted (out k (p.valid k e).0) ((is_near k).show (e, refuted far))

module _ (b : Board) (h : Within b) (s : Side) (settled : (j : ℕ) → Live (view b) j → SideSettled (view b) s j) where
  abbrev bound_of : ℕ → ℤ
  bound_of j = bound s (row_of b j)

  in_time : (j : ℕ) → IsTime (bound_of j)
  in_time j = rw (← bound_is b s j) (turned_time s _ ((times_within b h s).time j))

  spare : (S : ℕ → Bool) → pos 0 ≤ℤ energy (view b) S
  spare S = (total_range b.jobs 10000 S (λ x. (row_of b x).length) (λ x. ((ranges b h x).low, (ranges b h x).high))).0

  -- the last one's bound is less, since a valid job has a length
  obeys_below : (n j : ℕ) → Live (view b) j → bound_of j <ℤ (first_minute +ℤ pos n) → SideObeys (view b) s j
  obeys_below zero j live under = absurd (omega (whole, (in_time j).low, plus first_minute (pos 0)))
  obeys_below (suc n) j live under = go (settled j live) (obeys_below n)
    where
      go : SideSettled (view b) s j → ((k : ℕ) → Live (view b) k → bound_of k <ℤ (first_minute +ℤ pos n) → SideObeys (view b) s k) → SideObeys (view b) s j
      go (inl obeyed) below S m p = obeyed S m p
      go (inr l) below S m p =
          let (place, mark) = l.valid in
          let alive : Live (view b) l.last = (place, λ e. omega arith) in
          let some-time = ((h.limits.rows l.last).live place alive.1).length.low in
          let end = bound_of l.last +ℤ (row_of b l.last).length in
          let less : bound_of l.last <ℤ (first_minute +ℤ pos n) =
          omega (whole, l.together, spare l.apart, some-time, plus (bound_of l.last) (row_of b l.last).length, plus end (energy (view b) l.apart), plus first_minute (pos n), plus first_minute (pos (suc n))) in
          last_obeys (view b) s j l (below l.last alive less) (λ x. (ranges b h x).low) S m p

  pub all_obeyed : (j : ℕ) → Live (view b) j → SideObeys (view b) s j
  all_obeyed j live = obeys_below 1000001 j live (omega (whole, (in_time j).high, plus first_minute (pos 1000001)))
