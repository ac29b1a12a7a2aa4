-- The placements of a plan, one job after the other.
use Rattle.std.specs.Prelude.{◌≡◌}
use Rattle.std.proofs.Math.Path.{refl, sym, ap}
use Rattle.std.proofs.Common.{◌∙◌, add-zero, zero-add, add-suc, add-one}
use mathlib.Core.List.{List, [], ◌++◌, append_assoc, append-nil}
use Prim.Native.Nat.{ℕ, zero, suc, ◌+◌}
use Rattle.std.proofs.Math.Nat.{suc-add}
use Rattle.paper_rules.specs.Paper.Schedules.{Placing}
use Rattle.paper_plans.specs.Paper.Lists.{range}
use Rattle.text_replies.specs.Paper.ReplyTexts.{placement_text, placements_text}

module _ (p : Placing) where
  -- the placement of one job
  abbrev placement : ℕ → List ℕ
  placement j = placement_text (p.placed j) j (p.start j)

  from_next : (i n : ℕ) → placements_text p (range i (suc n)) ≡ placements_text p (range i n) ++ placement (i + n)
  unfolding placements_text range
  from_next i zero = rw (add-zero, append-nil (placement i))
  from_next i (suc n) =
      let later : placements_text p (range (suc i) (suc n)) ≡ placements_text p (range (suc i) n) ++ placement (i + suc n)
      = rw (add-suc i n, ← suc-add i n) (from_next (suc i) n) in
      ap (λ x. placement i ++ x) later ∙ sym (append_assoc (placement i) (placements_text p (range (suc i) n)) (placement (i + suc n)))

  pub no_placements : placements_text p (range 0 0) ≡ []
  unfolding placements_text range
  no_placements = refl

  pub next_placement : (n : ℕ) → placements_text p (range 0 (n + 1)) ≡ placements_text p (range 0 n) ++ placement n
  next_placement n = rw (add-one n) (rw (zero-add n) at (from_next 0 n))
