-- `scan` meets its contract: each byte of the format keeps the state of the loop.
use Rattle.std.proofs.Common.{sym, ◌∙◌}
use Rattle.std.specs.Int.{w32}
use Rattle.std.proofs.lemmas.Int.{to_z-of_z}
use Rattle.text_numerals.specs.NumberRead.{read_number}
use Rattle.text_numerals.specs.NaturalRead.{short_fits}
use Rattle.text_scans.specs.ScanState.{number_taken_at, number_missing_at, byte_taken_at, other_byte, no_byte, past_end}
use Rattle.text_scans.proofs.scan.Goals as goal
use Rattle.text_scans.proofs.scan.Goals.{then-byte-eq-NUMBER_MARK+in_ok-length, else-byte-eq-NUMBER_MARK+in_ok-first+else-first-byte}

pub returns-in_err-length : goal.returns-in_err-length
returns-in_err-length g c =
    c.from_residual.ensures
    ∙ number_missing_at _ _ _ _ _ _ _ c.loop-byte.invariant c.loop-byte-test.true c.if-byte-eq-NUMBER_MARK.true (sym c.number.ensures ∙ c.in_err-length.was)

pub slice_bounds-rest-count : goal.slice_bounds-rest-count
slice_bounds-rest-count g c = (read_number _ _ _ (sym c.number.ensures ∙ c.in_ok-length.was)).within

pub slice_bounds-rest-start : goal.slice_bounds-rest-start
slice_bounds-rest-start g c = (read_number _ _ _ (sym c.number.ensures ∙ c.in_ok-length.was)).within

pub returns-in_err-first : goal.returns-in_err-first
returns-in_err-first g c =
    c.from_residual-in_err-first.ensures
    ∙ no_byte _ _ _ _ _ _ _ c.loop-byte.invariant c.loop-byte-test.true c.if-byte-eq-NUMBER_MARK.false c.in_err-first.ensures.cases

pub returns-then-first-byte : goal.returns-then-first-byte
returns-then-first-byte g c =
    other_byte _ _ _ _ _ _ _ c.loop-byte.invariant c.loop-byte-test.true c.if-byte-eq-NUMBER_MARK.false _ _ c.in_ok-first.ensures.cases.0 c.if-first-byte.true

pub loop-byte-preserved : goal.loop-byte-preserved
loop-byte-preserved g c =
    elim c.if-byte-eq-NUMBER_MARK.branch [
      | then-byte-eq-NUMBER_MARK+in_ok-length w ↦
          let read = sym w.number.ensures ∙ w.in_ok-length.was in
          rw (w.rest-is, w.numbers-is, w.count-is, to_z-of_z w32 w.in_ok-length.field-0.value (short_fits w.in_ok-length.field-0.value (read_number _ _ _ read).short))
          (number_taken_at _ _ _ _ _ _ _ c.loop-byte.invariant c.loop-byte-test.true w.if-byte-eq-NUMBER_MARK.true _ _ read)
      | else-byte-eq-NUMBER_MARK+in_ok-first+else-first-byte w ↦
          rw (w.rest-is, w.numbers-is, w.count-is)
          (byte_taken_at _ _ _ _ _ _ _ c.loop-byte.invariant c.loop-byte-test.true w.if-byte-eq-NUMBER_MARK.false _ _ w.in_ok-first.ensures.cases.0 w.if-first-byte.false)
    ]

pub returns : goal.returns
returns g c = c.then_some.ensures ∙ rw c.is_empty.ensures (past_end _ _ _ _ _ _ _ c.loop-byte.invariant c.loop-byte-test.false)
