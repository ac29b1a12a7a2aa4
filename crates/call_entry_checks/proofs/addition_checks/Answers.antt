-- `call_entry_checks::addition_checks` meets its contract: where the window is refused, the lines before it let the entry pass. Assumes nothing.
use Rattle.std.proofs.Common.{◌≡◌, [], ◌∷◌, arith}
use Rattle.std.proofs.Math.Facts.{to_z-of_z}
use Rattle.std.proofs.lemmas.Result.{err_from_is_err_and}
use Rattle.std.proofs.Math.Option.{none, some}
use Rattle.paper_board.specs.declared.Refusal.{Refusal}
use Rattle.paper_entries.specs.Paper.Checks.{Check, first_refusal}
use Rattle.call_entry_checks.proofs.addition_checks.Goals as goal

third_refuses : (a b c d e : Check) (r : Refusal) → none ≡ first_refusal (a ∷ []) → none ≡ first_refusal (b ∷ [])
    → some r ≡ first_refusal (c ∷ d ∷ []) → some r ≡ first_refusal (a ∷ b ∷ c ∷ d ∷ e ∷ [])
unfolding first_refusal
third_refuses a b c d e r p q h = grind arith

pub returns-in_err-window_checks : goal.returns-in_err-window_checks
returns-in_err-window_checks c =
    let f = c.ranges in
    let length = simp (to_z-of_z, f.length) at c.is_length.ensures in
    let full = c.in_ok-refuse_if.ensures in
    let length' = rw length at c.in_ok-refuse_if-2.ensures in
    let window = simp (to_z-of_z, f.earliest, f.latest) at c.in_err-window_checks.ensures in
    let left = c.from_residual-in_err-window_checks in
    let e = err_from_is_err_and left.result left.ensures.1 in
    rw (e.1, e.2) (third_refuses _ _ _ _ _ _ full length' window)
