-- A step of a walk over the jobs of a set: the next one is taken out, or none is left.
use Rattle.std.specs.Prelude.{ℕ, ◌≡◌, Option, MatchOption}
use Rattle.ground_sets.specs.Bit.{width}
use Rattle.ground_walks.specs.declared.Members.{Members}
use Rattle.ground_walks.specs.Takes.{Takes}

abbrev pub Steps : Members → Option ℕ → Members → Type 0
Steps from step to =
    (to.downward ≡ from.downward)
    × MatchOption step ((from.left ≡ 0) × (to.left ≡ 0)) (λ k. Takes width from.downward from.left k to.left)
