-- `engine_check0::passes` meets its contract: the test of check 0 holds exactly of the boards within their limits, with books within theirs,
-- that obey the rules.
use Rattle.std.specs.Prelude as std
use Rattle.std.specs.Prelude.{Bool, not}
use Rattle.std.specs.Option.{is_some}
use Rattle.std.proofs.lemmas.Bool.{not-true, not-false}
use Rattle.std.proofs.Common.{◌≡◌, sym, ◌∙◌}
use Rattle.ground_arithmetic.specs.Bools.{is_false, refuted}
use Rattle.paper_board.specs.declared.Board.{Board}
use Rattle.paper_board.specs.declared.facts.Fact.{Fact}
use Rattle.paper_board.specs.Paper.View.{view}
use Rattle.paper_board.specs.Paper.Limits.{Within, BooksWithin}
use Rattle.paper_board.proofs.LimitsDecided.{limits_yes, limits_show, decides_books}
use Rattle.paper_rules.specs.Inference.Infers.{Obeys}
use Rattle.paper_closure.specs.Passes.{passes}
use Rattle.paper_closure.proofs.PassesClosed.{passes_within, passes_books, passes_obeys, obeys_passes}
use Rattle.engine_findings.specs.Searched.{Searched}
use Rattle.engine_findings.specs.InferredOf.{inferred_of}
use Rattle.engine_search.specs.Reads.{arrays_hold, board_read}
use Rattle.engine_check0.proofs.passes.Goals as goal
use Rattle.engine_check0.proofs.passes.Goals.{then-not-within_limits-via-then-not-within_limits, then-not-within_limits-via-else-not-within_limits+then-not-books_within}

-- nothing is left to infer on a board that passes, and something on one that doesn't
settled : (b : Board) → Within b → BooksWithin b.books → (r : Bool) (o : std.Option Fact) → not r ≡ is_some o
    → Searched (view b) (Obeys (view b)) (inferred_of o) → r ≡ passes b
settled b within books r std.None e obeys = not-false r e ∙ sym (obeys_passes b within books obeys)
settled b within books r (std.Some f) e (infers, unshown) = not-true r e ∙ sym (is_false _ λ p. unshown (passes_obeys b p _ infers))

pub returns-then-not-within_limits : goal.returns-then-not-within_limits
returns-then-not-within_limits c =
    sym (is_false _ λ e.
    elim c.then-not-within_limits.branch [
      | then-not-within_limits-via-then-not-within_limits w ↦ refuted w.if-not-within_limits.true (c.within_limits.ensures ∙ limits_show _ (passes_within _ e))
      | then-not-within_limits-via-else-not-within_limits+then-not-books_within w ↦ refuted w.if-not-books_within.true (w.books_within.ensures ∙ (decides_books _).show (passes_books _ e))
    ])

pub of-requires : goal.of-requires
of-requires c = (limits_yes _ (sym c.within_limits.ensures ∙ c.if-not-within_limits.false)).limits.jobs

pub find-inferred-requires : goal.find-inferred-requires
find-inferred-requires c = arrays_hold _ (limits_yes _ (sym c.within_limits.ensures ∙ c.if-not-within_limits.false))

pub returns : goal.returns
returns c =
    let b = c.args.board.now in
    let within = limits_yes b (sym c.within_limits.ensures ∙ c.if-not-within_limits.false) in
    let books = (decides_books b.books).yes (sym c.books_within.ensures ∙ c.if-not-books_within.false) in
    settled b within books _ _ (sym c.is_none.ensures) (c.find-inferred.ensures b (board_read b within c.of.ensures.live c.of.ensures.valid))
