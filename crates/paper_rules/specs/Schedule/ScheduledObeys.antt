-- A schedule's board obeys the rules: its live jobs stand in line, and every board of which that is true obeys them.
use Rattle.std.specs.Prelude.{◌≡◌, ◌≢◌, ◌⊎◌, Bool, true, ℕ, ℤ, pos, ◌+ℤ◌, ◌≤ℤ◌, ◌<ℤ◌}
use Rattle.std.proofs.Common.{sym, ⊎_elim}
use Rattle.std.proofs.Math.Logic.{⊎_map}
use Rattle.ground_arithmetic.specs.Bools.{refuted}
use Rattle.ground_arithmetic.specs.Linear.{whole, plus, minus}
use Rattle.ground_arithmetic.specs.Packing.{Apart, packing}
use Rattle.paper_board.specs.Paper.View.{View, Live, Arc, Side, early, late, bound, Beyond}
use Rattle.paper_rules.specs.Paper.Rules.{energy}
use Rattle.paper_rules.specs.Inference.Infers.{Pushing, r1, r2, r3, r45, r6, Obeys}
use Rattle.paper_rules.specs.Inference.Forced.{valid_live}
use Rattle.paper_rules.specs.Paper.Entries.{Entries, Admissible}
use Rattle.paper_rules.specs.Paper.Schedules.{Placing, Schedule}
use Rattle.paper_rules.specs.Schedule.Scheduled.{scheduled, live_placed, arc_read, arc_show}

-- Each live job takes time and fills its window, and of any two one has an arc to the other. A job that has an arc to
-- another ends no later than the other starts.
record InLine (v : View) : Type 0 where
  positive : (j : ℕ) → Live v j → pos 1 ≤ℤ (v.row j).length
  filled : (j : ℕ) → Live v j → (v.row j).latest ≡ (v.row j).earliest +ℤ (v.row j).length
  follows : (i k : ℕ) → Live v i → Live v k → Arc v i k → (v.row i).latest ≤ℤ (v.row k).earliest
  linked : (i k : ℕ) → Live v i → Live v k → i ≢ k → Arc v i k ⊎ Arc v k i

module _ (v : View) (line : InLine v) where
  -- Seen from either side, a job beyond another ends no later than the other starts: late, with the signs turned, a job
  -- starts where it ends.
  clear : (s : Side) (k j : ℕ) → Live v k → Live v j → Beyond v s k j
      → (bound s (v.row k) +ℤ (v.row k).length) ≤ℤ bound s (v.row j)
  clear early k j lk lj a = omega (whole, line.filled k lk, line.follows k j lk lj a)
  clear late k j lk lj a =
      let r = v.row k in
      omega (
        whole,
        line.filled k lk,
        line.follows j k lj lk a,
        plus r.earliest r.length,
        plus (bound late r) r.length,
        minus r.latest,
        minus (v.row j).latest,
      )

  sooner : (s : Side) (k j : ℕ) → Live v k → Live v j → Beyond v s k j → bound s (v.row k) <ℤ bound s (v.row j)
  sooner s k j lk lj a =
      omega (whole, clear s k j lk lj a, line.positive k lk, plus (bound s (v.row k)) (v.row k).length)

  -- of two live jobs the first lies beyond the second, unless it is the other way round
  beyond_unless : (s : Side) (k j : ℕ) → Live v k → Live v j → j ≢ k → (Beyond v s j k → ⊥) → Beyond v s k j
  beyond_unless early k j lk lj ne other = ⊎_elim (λ a. absurd (other a)) (λ a. a) (line.linked j k lj lk ne)
  beyond_unless late k j lk lj ne other = ⊎_elim (λ a. a) (λ a. absurd (other a)) (line.linked j k lj lk ne)

  -- R4 and R5: jobs beyond j are packed before it
  packed : (s : Side) (j : ℕ) (S : ℕ → Bool) (m : ℤ) → Live v j → Pushing v s j S m
      → (m +ℤ energy v S) ≤ℤ bound s (v.row j)
  packed s j S m lj p =
      packing v.jobs S start length m (start j) first (λ k b. p.low k) (λ k b e. clear s k j (live k e) lj (p.beyond k e)) apart
    where
      start : ℕ → ℤ
      start k = bound s (v.row k)

      length : ℕ → ℤ
      length k = (v.row k).length

      live : (k : ℕ) → S k ≡ true → Live v k
      live k e = valid_live v k (p.valid k e)

      first : m ≤ℤ start j
      first =
          let x = p.member in
          let e = p.inside in
          omega (whole, p.low x e, sooner s x j (live x e) lj (p.beyond x e))

      apart : Apart v.jobs S start length
      apart i k bi bk ei ek ne h =
          clear s k i (live k ek) (live i ei)
          (beyond_unless s k i (live k ek) (live i ei) ne λ a. omega (whole, clear s i k (live i ei) (live k ek) a))

  in_line_obeys : Obeys v
  in_line_obeys _ (r1 a b c la vb lc ne ab bc) =
      let lb = valid_live v b vb in (
        la.0,
        lc.0,
        λ _ _. beyond_unless early a c la lc (λ e. ne (sym e)) λ ca.
            omega (whole, sooner early a b la lb ab, sooner early b c lb lc bc, sooner early c a lc la ca),
      )
  in_line_obeys _ (r2 a b va lb ab ba) =
      let la = valid_live v a va in
      absurd (omega (whole, sooner early a b la lb ab, sooner early b a lb la ba))
  in_line_obeys _ (r3 a b la lb ne h) =
      let r = v.row a in
      let s = v.row b in (
        lb.0,
        la.0,
        λ _ _. beyond_unless early b a lb la ne λ ab.
            omega (
              whole,
              clear early a b la lb ab,
              line.filled b lb,
              plus (r.earliest +ℤ r.length) s.length,
              plus s.earliest s.length,
            ),
      )
  in_line_obeys _ (r45 s j S m lj p) = (lj.0, λ _. packed s j S m lj p)
  in_line_obeys _ (r6 j lj h) = absurd (omega (whole, line.filled j lj))

pub scheduled_obeys : (es : Entries) (p : Placing) → Admissible es → Schedule es p → Obeys (scheduled es p)
scheduled_obeys es p ok h = in_line_obeys (scheduled es p) in_line
  where
    in_line : InLine (scheduled es p)
    in_line =
        record {
          positive = λ j l. let placed = live_placed es p j l in rw placed (ok.rows j l.0 (λ m. refuted (h.invalid j l.0 m) placed)).length.low;
          filled = λ j l. rw (live_placed es p j l);
          follows = λ i k li lk a. let (ei, ek, apart) = arc_read es p i k a in rw (ei, ek) apart;
          linked = λ i k li lk ne.
              ⊎_map (arc_show es p i k li lk) (arc_show es p k i lk li) (h.apart i k (live_placed es p i li) (live_placed es p k lk) ne);
        }
