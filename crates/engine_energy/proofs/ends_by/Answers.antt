-- `engine_energy::ends_by` meets its contract: the job's end with all the lengths, and then the sums. Assumes nothing.
use Rattle.std.proofs.Common.{◌≡◌, ◌∙◌, ap, false, not, ℤ, ◌≤ℤ◌, w32}
use Rattle.std.specs.Prelude as std
use Rattle.std.specs.Option.{is_some}
use Rattle.std.proofs.lemmas.Int.{to_z-of_z}
use Rattle.ground_arithmetic.specs.Linear.{whole}
use Rattle.paper_board.specs.Paper.View.{Side}
use Rattle.paper_board.specs.Paper.Values.{side_of}
use Rattle.engine_sums.specs.Sums.{bound_of, Exceeds}
use Rattle.engine_sums.specs.SumLaws.{end_at_moderate, load_moderate, load_back}
use Rattle.engine_energy.proofs.ends_by.Goals as goal

pub sum-together-requires : goal.sum-together-requires
sum-together-requires c =
    let b = c.args.bounds in
    rw (to_z-of_z w32 _ (record { sfits = c.end.type_inv }) ∙ c.end.ensures, load_back b.work _ _ c.whole-all.ensures.comes.loaded)
    (end_at_moderate (side_of b.side) b.hours b.work c.args.k, load_moderate b.work c.args.set)

-- where there is no bound, no number that has the property is above the floor
none_over : (P : ℤ → Type 0) (s : Side) (low : ℤ) (o : std.Option ℤ) → is_some o ≡ false → Exceeds P low (bound_of s o) → (z : ℤ) → P z → z ≤ℤ low
none_over P s low std.None e h = h
none_over P s low (std.Some t) e h = absurd (cc)

pub returns : goal.returns
returns c = λ e.
    let b = c.args.bounds in
    let end_is = to_z-of_z w32 _ (record { sfits = c.end.type_inv }) ∙ c.end.ensures in
    let together = to_z-of_z w32 _ (record { sfits = c.sum-together.type_inv }) ∙ (rw (end_is, load_back b.work _ _ c.whole-all.ensures.comes.loaded) at c.sum-together.ensures) in
    let low = to_z-of_z w32 _ (record { sfits = c.turned.type_inv }) ∙ simp (to_z-of_z, c.ranges.floor) at c.turned.ensures in
    let none : is_some c.energy_bound.result ≡ false = c.is_none.ensures ∙ ap not e in
    record {
      together = omega (whole, low, together);
      sums = simp (to_z-of_z, c.ranges.floor) at (none_over _ (side_of b.side) _ _ none c.energy_bound.ensures);
    }
