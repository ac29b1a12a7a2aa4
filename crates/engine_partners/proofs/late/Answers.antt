-- `engine_partners::late` meets its contract: the job that ends late and the rest of the walk are what was left before it. Assumes nothing.
use Rattle.std.proofs.Common.{◌≡◌, sym, ap, ◌∙◌, Bool, ℕ, eqb, eq-eqb, ne_eqb, ◌||◌, w32}
use Rattle.std.proofs.Math.Bool.{or-true, or-false}
use Rattle.std.proofs.Math.Decide.{ℕ_discrete}
use Rattle.std.proofs.lemmas.Int.{to_z-of_z}
use Rattle.ground_sets.specs.Bit.{bit, with}
use Rattle.ground_sets.specs.BitLaws.{bit_with, bit_ext}
use Rattle.ground_walks.specs.Takes.{Takes}
use Rattle.engine_partners.proofs.late.Goals as goal

-- a job put back where a walk has taken it out
put_back : {n left k rest : ℕ} {downward : Bool} → Takes n downward left k rest → with rest k ≡ left
put_back {left = left} {k = k} {rest = rest} taken = bit_ext (with rest k) left λ j. bit_with rest k j ∙ go j (ℕ_discrete k j)
  where
    go : (j : ℕ) → Dec (k ≡ j) → (bit rest j || eqb k j) ≡ bit left j
    go j (yes e) = rw (eq-eqb k j e) (or-true (bit rest j) ∙ sym (ap (bit left) (sym e) ∙ taken.member))
    go j (no ne) = rw (ne_eqb k j ne) (or-false (bit rest j) ∙ taken.others j λ e. ne (sym e))

pub returns-then-ends_late : goal.returns-then-ends_late
returns-then-ends_late c =
    rw (c.with.ensures ∙ put_back c.in-Some.ensures.steps.1) (rw (to_z-of_z w32 _ c.ranges.end) at c.loop-k.invariant)
