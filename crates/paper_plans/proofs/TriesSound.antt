-- A list that tries reach places its jobs apart, inside their windows and along the arcs. So the plan found, "as a schedule,
-- holds the placed jobs with their starts and no others": it keeps what the board shows, and its jobs are the valid ones.
use Rattle.std.specs.Prelude.{◌≡◌, ◌≢◌, ◌⊎◌, true, ℕ, ℤ, pos, ◌+ℤ◌, ◌≤ℤ◌, length}
use Rattle.std.proofs.Common.{sym, ap, subst, ◌∙◌, inl, inr, arith}
use mathlib.Core.List.{List, [], ◌∷◌}
use Rattle.std.proofs.Math.Decide.{ℕ_discrete}
use Rattle.ground_arithmetic.specs.Bools.{is_false, refuted, same_tests}
use Rattle.ground_arithmetic.specs.Linear.{whole, plus}
use Rattle.ground_arithmetic.specs.Time.{greater_left, greater_right}
use Rattle.paper_board.specs.Paper.View.{View, Valid, Arc}
use Rattle.paper_rules.specs.Paper.Rules.{E, D, L}
use Rattle.paper_board.specs.Paper.Limits.{Limited}
use Rattle.paper_rules.specs.Paper.Entries.{Drawn, drawn, shown}
use Rattle.paper_board.specs.Paper.Facts.{Fact}
use Rattle.paper_rules.specs.Paper.Schedules.{Respects, Keeps}
use Rattle.paper_board.specs.Paper.Tests.{valid}
use Rattle.paper_board.specs.BoardTests.Live.{valid_yes, valid_show}
use Rattle.paper_plans.specs.Paper.Lists.{among}
use Rattle.paper_plans.specs.Paper.Tries.{found, start_after, start_in, plan_of, unplaced, tries}
use Rattle.paper_plans.specs.ListLaws.{Distinct, none_among, among_rest, among_later}
use Rattle.paper_plans.specs.Unplaced.{none_placed, ready_is, all_placed}
use Rattle.paper_plans.specs.EndingLaws.{IfFound}
use Rattle.paper_plans.specs.SearchReaches.{TryPlaces, Reachable, start_first, start_rest, last_and_before, search_reaches}

-- a job starts no earlier than E
not_early : (v : View) (ps : List ℕ) (j : ℕ) → E v j ≤ℤ start_after v ps j
unfolding start_after
not_early v [] j = omega whole
not_early v (i ∷ ps) j = greater_left (E v j) (start_after v ps i +ℤ L v i)

module _ (v : View) (order : List ℕ) (all : (k : ℕ) → among order k ≡ valid v k) (limits : Limited v) where
  pub member_valid : (k : ℕ) → among order k ≡ true → Valid v k
  member_valid k a = valid_yes v k (sym (all k) ∙ a)

  -- a job takes time
  pub member_takes : (k : ℕ) → among order k ≡ true → pos 1 ≤ℤ L v k
  member_takes k a = let (l, m) = member_valid k a in ((limits.rows k).live l (omega arith)).length.low

  -- what holds of each job where it is placed
  each_placed : (P : ℕ → ℤ → Type 0) → ((ps : List ℕ) (j : ℕ) → TryPlaces v order ps j → P j (start_after v ps j))
      → (ps : List ℕ) → Reachable v order ps → (k : ℕ) → among ps k ≡ true → P k (start_in v ps k)
  each_placed P h [] r k a = absurd (refuted (none_among k) a)
  each_placed P h (j ∷ ps) (t, r) k a = last_and_before v P j ps (h ps j t) (each_placed P h ps r) k a

  placed_valid : (ps : List ℕ) → Reachable v order ps → (k : ℕ) → among ps k ≡ true → Valid v k
  placed_valid = each_placed (λ k z. Valid v k) λ ps j t. member_valid j t.member

  start_earliest : (ps : List ℕ) → Reachable v order ps → (k : ℕ) → among ps k ≡ true → E v k ≤ℤ start_in v ps k
  start_earliest = each_placed (λ k z. E v k ≤ℤ z) λ ps j t. not_early v ps j

  end_latest : (ps : List ℕ) → Reachable v order ps → (k : ℕ) → among ps k ≡ true → (start_in v ps k +ℤ L v k) ≤ℤ D v k
  end_latest = each_placed (λ k z. (z +ℤ L v k) ≤ℤ D v k) λ ps j t. omega (whole, t.in_time)

  -- no job starts before those placed earlier have ended
  start_after_ends : (ps : List ℕ) → Reachable v order ps → (j k : ℕ) → among ps k ≡ true → (start_in v ps k +ℤ L v k) ≤ℤ start_after v ps j
  unfolding start_after
  start_after_ends [] r j k a = absurd (refuted (none_among k) a)
  start_after_ends (i ∷ ps) (t, r) j k a =
      omega (
        whole,
        last_and_before v (λ k z. (z +ℤ L v k) ≤ℤ (start_after v ps i +ℤ L v i)) i ps
            (omega whole)
            (λ k a. omega (whole, start_after_ends ps r i k a, member_takes i t.member, plus (start_after v ps i) (L v i)))
            k a,
        greater_right (E v j) (start_after v ps i +ℤ L v i),
      )

  -- the last job placed, and those placed before it
  module _ (j : ℕ) (ps : List ℕ) (t : TryPlaces v order ps j) (r : Reachable v order ps) where
    older : (k : ℕ) → among ps k ≡ true → j ≢ k
    older k a d = refuted t.unplaced (rw d a)

    before_last : (k : ℕ) → among ps k ≡ true → (start_in v (j ∷ ps) k +ℤ L v k) ≤ℤ start_in v (j ∷ ps) j
    before_last k a = rw (start_first v j ps, start_rest v j ps k (older k a)) (start_after_ends ps r j k a)

  apart : (ps : List ℕ) → Reachable v order ps → (i k : ℕ) → among ps i ≡ true → among ps k ≡ true → i ≢ k
      → ((start_in v ps i +ℤ L v i) ≤ℤ start_in v ps k) ⊎ ((start_in v ps k +ℤ L v k) ≤ℤ start_in v ps i)
  apart [] r i k a b ne = absurd (refuted (none_among i) a)
  apart (j ∷ ps) (t, r) i k a b ne =
      go (ℕ_discrete j i) (ℕ_discrete j k) λ m n. apart ps r i k (earlier i a m) (earlier k b n) ne
    where
      earlier : (m : ℕ) → among (j ∷ ps) m ≡ true → j ≢ m → among ps m ≡ true
      earlier m e d = sym (among_rest j ps m d) ∙ e

      Apart : ℤ → ℤ → Type 0
      Apart x y = ((x +ℤ L v i) ≤ℤ y) ⊎ ((y +ℤ L v k) ≤ℤ x)

      go : Dec (j ≡ i) → Dec (j ≡ k) → (j ≢ i → j ≢ k → Apart (start_in v ps i) (start_in v ps k))
          → Apart (start_in v (j ∷ ps) i) (start_in v (j ∷ ps) k)
      go (yes d) (yes e) ih = absurd (ne (sym d ∙ e))
      go (yes d) (no n) ih = inr (rw (← d) (before_last j ps t r k (earlier k b n)))
      go (no m) (yes e) ih = inl (rw (← e) (before_last j ps t r i (earlier i a m)))
      go (no m) (no n) ih = rw (start_rest v j ps i m, start_rest v j ps k n) (ih m n)

  -- every job with an arc to a placed job was placed before it
  along : (ps : List ℕ) → Reachable v order ps → (i k : ℕ) → Arc v i k → among order i ≡ true → among ps k ≡ true
      → (among ps i ≡ true) × ((start_in v ps i +ℤ L v i) ≤ℤ start_in v ps k)
  along [] r i k arc m a = absurd (refuted (none_among k) a)
  along (j ∷ ps) (t, r) i k arc m a = go (ℕ_discrete j k) λ n. along ps r i k arc m (sym (among_rest j ps k n) ∙ a)
    where
      go : Dec (j ≡ k) → (j ≢ k → (among ps i ≡ true) × ((start_in v ps i +ℤ L v i) ≤ℤ start_in v ps k))
          → (among (j ∷ ps) i ≡ true) × ((start_in v (j ∷ ps) i +ℤ L v i) ≤ℤ start_in v (j ∷ ps) k)
      go (yes d) ih =
          let b = (ready_is v order ps j).yes t.ready i m (rw d arc) in
          (among_later j ps i b, rw (← d) (before_last j ps t r i b))
      go (no n) ih =
          let (b, h) = ih n in
          (among_later j ps i b, rw (start_rest v j ps i (older j ps t r i b), start_rest v j ps k n) h)

  reachable_keeps : (ps : List ℕ) → Reachable v order ps → length (unplaced v order ps) ≡ 0 → Keeps v (plan_of v ps)
  reachable_keeps ps r e =
      record {
        added = λ j a. (placed_valid ps r j a).0;
        valid = λ j l m. all_placed v order ps e j (all j ∙ valid_show v j (l, m));
        invalid = λ j l m. is_false (among ps j) λ a. omega (arith, placed_valid ps r j a);
        earliest = start_earliest ps r;
        latest = end_latest ps r;
        facts = facts;
        apart = apart ps r;
      }
    where
      facts : (f : Fact) → Drawn v f → Respects (shown v) (plan_of v ps) f
      facts _ (drawn i k a) = λ pi pk. (along ps r i k a (all i ∙ valid_show v i (placed_valid ps r i pi)) pk).1

  -- the plan found is a schedule, of all valid jobs and no others
  pub tries_sound : Distinct order → (T : ℕ) (ps : List ℕ) → tries v order ≡ found T ps
      → Keeps v (plan_of v ps) × ((k : ℕ) → among ps k ≡ valid v k)
  tries_sound d T ps e =
      let (r, z) = subst (IfFound _) e (search_reaches v order d (length order) [] tt (ap length (none_placed v order))) in (
        reachable_keeps ps r z,
        λ k. same_tests (among ps k) (valid v k)
            (λ a. valid_show v k (placed_valid ps r k a))
            (λ h. all_placed v order ps z k (all k ∙ h)),
      )
