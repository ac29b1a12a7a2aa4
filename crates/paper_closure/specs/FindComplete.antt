-- Where nothing is found, the view shows all that the rules infer from it.
use Rattle.std.specs.Prelude.{◌≡◌, Bool, ℕ, ◌<◌, ℤ, pos, ◌+ℤ◌, ◌≤ℤ◌}
use Rattle.std.proofs.Math.Option.{Option, none}
use Rattle.std.specs.Int.Signed.{lt_z}
use Rattle.ground_arithmetic.specs.Bools.{is_true, is_false, refuted}
use Rattle.ground_arithmetic.specs.Linear.{whole, plus}
use Rattle.ground_arithmetic.specs.Sum.{total_subset}
use Rattle.paper_board.specs.Paper.View.{View, Live, Valid, Side, early, late, bound, Beyond}
use Rattle.paper_board.specs.Paper.Facts.{Fact}
use Rattle.paper_rules.specs.Paper.Rules.{energy}
use Rattle.paper_rules.specs.Inference.Infers.{Pushing, r1, r2, r3, r45, r6, Obeys}
use Rattle.paper_rules.specs.Inference.SumBeyond.{SumBeyond, pushing_sum}
use Rattle.paper_closure.specs.Find.{◌or_else◌, pushers, pushed, push, next, find}
use Rattle.paper_closure.specs.FindTests.{room_is, exclude_is, order_is, join_is, pusher_is, push_is}
use Rattle.paper_closure.specs.Finds.{guard_none, or_else_none, first_none}

-- no part of `next` finds anything
record Nothing (a b c d e f : Option Fact) : Type 0 where
  room : a ≡ none
  exclude : b ≡ none
  order : c ≡ none
  join : d ≡ none
  raise : e ≡ none
  lower : f ≡ none

no_part : {a b c d e f : Option Fact} → (a or_else b or_else c or_else d or_else e or_else f) ≡ none → Nothing a b c d e f
no_part {a} {b} {c} {d} {e} {f} all =
    let (to-e, lower) = or_else_none (a or_else b or_else c or_else d or_else e) f all in
    let (to-d, raise) = or_else_none (a or_else b or_else c or_else d) e to-e in
    let (to-c, join) = or_else_none (a or_else b or_else c) d to-d in
    let (to-b, order) = or_else_none (a or_else b) c to-c in
    let (room, exclude) = or_else_none a b to-b in
    record { room = room; exclude = exclude; order = order; join = join; raise = raise; lower = lower }

module _ (v : View) (lengths : (k : ℕ) → Valid v k → pos 0 ≤ℤ (v.row k).length) (nothing : find v ≡ none) where
  next_none : (i k : ℕ) → i < v.jobs → k < v.jobs → next v i k ≡ none
  unfolding find
  next_none i k li lk = first_none v.jobs _ (first_none v.jobs _ nothing i li) k lk

  push_none : (s : Side) (x j : ℕ) → x < v.jobs → j < v.jobs → push v s x j ≡ none
  unfolding next
  push_none early x j lx lj = (no_part (next_none x j lx lj)).raise
  push_none late x j lx lj = (no_part (next_none x j lx lj)).lower

  pushed_low : (s : Side) (x j : ℕ) → Valid v x → Live v j → Beyond v s x j → pushed v s x j ≤ℤ bound s (v.row j)
  unfolding push
  pushed_low s x j vx lj bx =
      let low = is_false (lt_z (bound s (v.row j)) (pushed v s x j)) λ e.
      guard_none (push_is v s x j) _ (push_none s x j vx.0 lj.0) (((lj, vx), bx), omega whole)
      in
      omega whole

  -- a set that starts at x lies among the pushers that start at x
  energy_low : (s : Side) (j : ℕ) (z : ℤ) (p : SumBeyond v s j z) → energy v p.set ≤ℤ energy v (pushers v s p.first j)
  energy_low s j z p =
      total_subset v.jobs p.set (pushers v s p.first j) (λ k. (v.row k).length)
      (λ k lk sk. (pusher_is v s p.first j k).show (p.beyond k sk, p.least k sk))
      (λ k lk e. lengths k ((pusher_is v s p.first j k).yes e).0.0)

  push_kept : (s : Side) (j : ℕ) (S : ℕ → Bool) (m : ℤ) → Live v j → Pushing v s j S m → (m +ℤ energy v S) ≤ℤ bound s (v.row j)
  unfolding pushed
  push_kept s j S m lj p =
      let (z, sum, l, _) = pushing_sum v s j S m p in
      let x = sum.first in
      let (vx, bx) = sum.beyond x sum.member in
      let start = bound s (v.row x) in
      omega (
        whole,
        l,
        sum.is,
        energy_low s j z sum,
        pushed_low s x j vx lj bx,
        plus start (energy v sum.set),
        plus start (energy v (pushers v s x j)),
      )

  pub find_complete : Obeys v
  unfolding next
  find_complete _ (r1 a b c la vb lc ne ab bc) = (
    la.0,
    lc.0,
    λ _ _. is_true (v.arc a c) λ e.
        guard_none (join_is v a c) _ (no_part (next_none a c la.0 lc.0)).join
        ((((la, lc), ne), (b, vb.0, ((vb, ab), bc))), refuted e),
  )
  find_complete _ (r2 a b va lb ab ba) =
      absurd (guard_none (exclude_is v a b) _ (no_part (next_none a b va.0 lb.0)).exclude (((va, lb), ab), ba))
  find_complete _ (r3 a b la lb ne h) = (
    lb.0,
    la.0,
    λ _ _. is_true (v.arc b a) λ e.
        guard_none (order_is v a b) _ (no_part (next_none a b la.0 lb.0)).order ((((la, lb), ne), h), refuted e),
  )
  find_complete _ (r45 s j S m lj p) = (lj.0, λ _. push_kept s j S m lj p)
  find_complete _ (r6 j lj h) = absurd (guard_none (room_is v j) _ (no_part (next_none j j lj.0 lj.0)).room (lj, h))
