-- Arrays alone are altered where a board is filled anew or jobs are struck out, and in one alteration after another.
use Rattle.std.specs.Prelude.{◌≡◌, List, ℕ, ℤ}
use Rattle.std.proofs.Common.{ap, ◌∙◌}
use Rattle.paper_board.specs.declared.Board.{Board}
use Rattle.paper_board.specs.Paper.Parts.{filled}
use Rattle.paper_rules.specs.Update.Strike.{strike, strike_below}
use Rattle.paper_rules.specs.Update.Alone.{ArraysAlone}

pub alone_filled : (b c : Board) (lengths earliest latest : List ℤ) (marks after before : List ℕ)
    → c ≡ filled b lengths earliest latest marks after before → ArraysAlone b c
alone_filled b c lengths earliest latest marks after before e = (ap (λ x. x.jobs) e, ap (λ x. x.books) e)

pub alone_struck : (b c : Board) (set : ℕ) → c ≡ strike b set → ArraysAlone b c
unfolding strike_below
alone_struck b c set e = (ap (λ x. x.jobs) e, ap (λ x. x.books) e)

pub alone_then : (b c d : Board) → ArraysAlone b c → ArraysAlone c d → ArraysAlone b d
alone_then b c d first second = (second.0 ∙ first.0, second.1 ∙ first.1)
