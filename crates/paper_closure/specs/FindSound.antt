-- What is found is inferred by a rule, and not shown yet.
use Rattle.std.specs.Prelude.{◌≡◌, ℕ}
use Rattle.std.proofs.Math.Option.{some}
use Rattle.ground_arithmetic.specs.Linear.{whole}
use Rattle.paper_board.specs.Paper.View.{View, Live, Valid, Arc, Side, early, late, bound, Beyond}
use Rattle.paper_board.specs.Paper.Facts.{Fact, is_arc, is_invalid, Holds}
use Rattle.paper_rules.specs.Inference.Infers.{Pushing, Infers, r1, r2, r3, r45, r6}
use Rattle.paper_closure.specs.Find.{pushers, pushed, push, next, find}
use Rattle.paper_closure.specs.Finds.{Finds, guard_finds, ◌else◌, first_finds}
use Rattle.paper_closure.specs.FindTests.{room_is, exclude_is, order_is, join_is, pusher_is, push_is}

-- a rule infers it, and the view does not show it
abbrev Unshown : View → Fact → Type 0
Unshown v f = Infers v f × (Holds v f → ⊥)

module _ (v : View) where
  invalid_unshown : (j : ℕ) → Live v j → Infers v (is_invalid j) → Unshown v (is_invalid j)
  invalid_unshown j lj h = (h, λ m. lj.1 m.1)

  arc_unshown : (a b : ℕ) → Live v a → Live v b → (Arc v a b → ⊥) → Infers v (is_arc a b) → Unshown v (is_arc a b)
  arc_unshown a b la lb none h = (h, λ m. none (m.2 la lb))

  -- the pushers of j are a set as R4 and R5 ask for
  pushing : (s : Side) (x j : ℕ) → Valid v x → Beyond v s x j → Pushing v s j (pushers v s x j) (bound s (v.row x))
  pushing s x j vx bx =
      record {
        member = x;
        inside = (pusher_is v s x j x).show ((vx, bx), omega whole);
        valid = λ k e. ((pusher_is v s x j k).yes e).0.0;
        beyond = λ k e. ((pusher_is v s x j k).yes e).0.1;
        low = λ k e. ((pusher_is v s x j k).yes e).1;
      }

  push_sound : (s : Side) (x j : ℕ) → Finds (Unshown v) (push v s x j)
  unfolding push pushed
  push_sound s x j = guard_finds (push_is v s x j) _ λ (((lj, vx), bx), higher).
      (r45 s j (pushers v s x j) (bound s (v.row x)) lj (pushing s x j vx bx), λ m. omega (whole, m.1 lj))

  next_sound : (i k : ℕ) → Finds (Unshown v) (next v i k)
  unfolding next
  next_sound i k =
      guard_finds (room_is v i) _ (λ (l, short). invalid_unshown i l (r6 i l short))
      else guard_finds (exclude_is v i k) _ (λ (((vi, lk), ik), ki). invalid_unshown k lk (r2 i k vi lk ik ki))
      else guard_finds (order_is v i k) _ (λ ((((li, lk), ne), h), none). arc_unshown k i lk li none (r3 i k li lk ne h))
      else guard_finds (join_is v i k) _ (λ ((((li, lk), ne), (b, _, ((vb, ib), bk))), none).
      arc_unshown i k li lk none (r1 i b k li vb lk ne ib bk))
      else push_sound early i k
      else push_sound late i k

pub find_sound : (v : View) (f : Fact) → find v ≡ some f → Infers v f × (Holds v f → ⊥)
unfolding find
find_sound v = (first_finds v.jobs _ (λ i. first_finds v.jobs _ (next_sound v i))).found
