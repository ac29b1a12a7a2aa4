-- Jobs that can't stay: live jobs that every view above the board that obeys the rules has invalid. They may be struck out at any time later.
use Rattle.std.specs.Prelude.{◌≡◌, refl, Bool, true, false, ◌||◌, List, ◌≢◌, ◌⊎◌, ℕ, ◌<◌, eqb, ℤ, pos, ◌+ℤ◌, get_or, ◌<ℤ◌, ◌≤ℤ◌}
use Rattle.std.proofs.Common.{sym, ap, ◌∙◌, subst, inl, inr, arith, eqb-true, ne_eqb}
use Rattle.std.proofs.Math.Option.{none, some}
use Rattle.std.specs.Int.Signed.{le_z}
use Rattle.ground_sets.specs.Bit.{bit, with, union, intersection}
use Rattle.ground_sets.specs.BitLaws.{bit_zero, bit_with, bit_union, bit_intersection}
use Rattle.ground_arithmetic.specs.Bools.{and_parts, refuted}
use Rattle.ground_arithmetic.specs.Linear.{whole, plus, minus}
use Rattle.paper_board.specs.declared.Board.{Board}
use Rattle.paper_board.specs.Paper.View.{View, Live, Valid, Invalid, Side, early, late, view, row_of}
use Rattle.paper_board.specs.Paper.Facts.{is_bound, is_invalid}
use Rattle.paper_board.specs.Paper.Limits.{Within}
use Rattle.paper_rules.specs.Paper.Entries.{◌⊑◌}
use Rattle.paper_rules.specs.Paper.Rules.{E, D, L}
use Rattle.paper_board.specs.Paper.Values.{turned}
use Rattle.paper_rules.specs.Inference.Infers.{Infers, Obeys, r2, r6}
use Rattle.paper_rules.specs.Inference.Forced.{forced, invalid_unless}
use Rattle.paper_rules.specs.Order.OrderLaws.{live_down, valid_up, bound_up, length_up}
use Rattle.paper_rules.specs.Update.ExtendsThen.{extends_then}
use Rattle.paper_rules.specs.Update.Updates.{update, exclude, invalidate, ◌and_then◌}
use Rattle.paper_rules.specs.Update.Updated.{updated}
use Rattle.paper_rules.specs.Update.Strike.{strike}
use Rattle.paper_rules.specs.Update.StrikeLaws.{strike_induction}
use Rattle.paper_rules.specs.Update.Derives.{Derived, Derives}

abbrev pub Gone : Board → ℕ → Type 0
Gone b j = Live (view b) j × ((w : View) → view b ⊑ w → Obeys w → Invalid w j)

pub record AllGone (b : Board) (set : ℕ) : Type 0 where
  pub gone : (x : ℕ) → bit set x ≡ true → Gone b x

pub none_gone : (b : Board) → AllGone b 0
none_gone b = record { gone = λ x e. absurd (refuted (bit_zero x) e) }

-- gone from a board that was derived
pub gone_before : (b c : Board) → Derived b c → (set : ℕ) → AllGone c set → AllGone b set
gone_before b c derived set h =
    record {
      gone = λ x e.
          let (live, gone) = h.gone x e in
          let place : x < b.jobs = omega (arith, live.0, derived.more.jobs) in
          (live_down (view b) (view c) derived.more.above x place live, λ w up obeys. gone w (derived.least w up obeys tt) obeys);
    }

-- where a valid job can't stay there is no board
pub gone_valid : (b : Board) (set x : ℕ) → AllGone b set → bit set x ≡ true → Valid (view b) x → Derives b none
gone_valid b set x h member valid w up obeys _ =
    let one = (valid_up (view b) w up x valid).1 in
    let two = ((h.gone x member).1 w up obeys).1 in
    absurd (omega arith)

-- such a job struck out
struck : (b c : Board) → Derived b c → (j : ℕ) → Gone b j → Derives b (exclude c j)
unfolding update ◌and_then◌
struck b c derived j (live, gone) =
    extends_then b.jobs (λ w. Unit) (λ w. Invalid w j) (λ w. Unit) b
    (λ _ _ _ _. tt)
    (λ _ _ _. tt)
    (λ w up obeys _. (tt, gone w up obeys))
    (some c)
    (λ d. exclude d j)
    derived
    λ d x.
    updated d x.more.within (is_invalid j) (omega (arith, live.0, x.more.jobs))

exclude_open : (c : Board) (j : ℕ) → (row_of c j).mark ≢ 1 → (row_of c j).mark ≢ 2 → exclude c j ≡ some (invalidate c j)
unfolding exclude
exclude_open c j one two = rw (ne_eqb _ _ one, ne_eqb _ _ two)

-- all of them struck out, where none is valid
pub struck_all : (b c : Board) → Derived b c → (set : ℕ) → AllGone b set → ((x : ℕ) → bit set x ≡ true → (row_of c x).mark ≢ 1)
    → ((x : ℕ) → bit set x ≡ true → (row_of c x).mark ≢ 2) → Derived b (strike c set)
struck_all b c derived set h one two =
    strike_induction c derived.more.within set (λ x e. omega (arith, (h.gone x e).0.0, derived.more.jobs)) (Derived b) derived
    λ d j within e same run.
    subst (Derives b)
    (exclude_open d j (λ m. one j e (sym (ap (λ r. r.mark) same) ∙ m)) (λ m. two j e (sym (ap (λ r. r.mark) same) ∙ m)))
    (struck b d run j (h.gone j e))

either : (s t : Bool) → (s || t) ≡ true → (s ≡ true) ⊎ (t ≡ true)
either true t e = inl refl
either false t e = inr e

-- the one member of a set
pub only : (j x : ℕ) → bit (with 0 j) x ≡ true → j ≡ x
only j x e = go (either (bit 0 x) (eqb j x) (sym (bit_with 0 j x) ∙ e))
  where
    go : (bit 0 x ≡ true) ⊎ (eqb j x ≡ true) → j ≡ x
    go (inl h) = absurd (refuted (bit_zero x) h)
    go (inr h) = eqb-true j x h

pub both_gone : (b : Board) (s t : ℕ) → AllGone b s → AllGone b t → (u : ℕ) → u ≡ union s t → AllGone b u
both_gone b s t hs ht u e =
    record { gone = λ x m. go x (either (bit s x) (bit t x) (sym (ap (λ w. bit w x) e ∙ bit_union s t x) ∙ m)) }
  where
    go : (x : ℕ) → (bit s x ≡ true) ⊎ (bit t x ≡ true) → Gone b x
    go x (inl h) = hs.gone x h
    go x (inr h) = ht.gone x h

-- R4 or R5 leaves no room for a job
module _ (b : Board) (j : ℕ) (live : Live (view b) j) (w : View) (up : view b ⊑ w) (lw : Live w j) where
  short_early : (t : ℤ) → t ≤ℤ E w j → D (view b) j <ℤ (t +ℤ L (view b) j) → D w j <ℤ (E w j +ℤ L w j)
  short_early t above h =
      omega (whole, above, h, bound_up (view b) w up late j live.0 lw, length_up (view b) w up j live.0 lw, minus (D w j), minus (D (view b) j), plus t (L (view b) j), plus (E w j) (L w j))

  short_late : (t : ℤ) → turned late t ≤ℤ turned late (D w j) → t <ℤ (E (view b) j +ℤ L (view b) j) → D w j <ℤ (E w j +ℤ L w j)
  short_late t above h =
      omega (whole, above, h, bound_up (view b) w up early j live.0 lw, length_up (view b) w up j live.0 lw, minus (D w j), minus t, plus (E (view b) j) (L (view b) j), plus (E w j) (L w j))

-- what is left of a job's window, with the time t on side s
abbrev pub NoRoom : Side → ℤ → View → ℕ → Type 0
NoRoom early t v j = D v j <ℤ (t +ℤ L v j)
NoRoom late t v j = t <ℤ (E v j +ℤ L v j)

pub gone_short : (b : Board) (s : Side) (j : ℕ) (t : ℤ) → Live (view b) j → Infers (view b) (is_bound s j (turned s t)) → NoRoom s t (view b) j → Gone b j
gone_short b early j t live infers h = (
  live,
  λ w up obeys.
      let (place, above) = forced (view b) w up obeys (is_bound early j t) infers in
      invalid_unless w j place λ lw. obeys (is_invalid j) (r6 j lw (short_early b j live w up lw t (above lw) h)),
)
gone_short b late j t live infers h = (
  live,
  λ w up obeys.
      let (place, above) = forced (view b) w up obeys (is_bound late j (turned late t)) infers in
      invalid_unless w j place λ lw. obeys (is_invalid j) (r6 j lw (short_late b j live w up lw t (above lw) h)),
)

-- R2: the members of w have arcs both ways to a job of the set
pub record Crossed (before after : List ℕ) (set w : ℕ) : Type 0 where
  pub members : (x : ℕ) → bit w x ≡ true → (k : ℕ) × (bit set k ≡ true) × (bit (get_or before k 0) x ≡ true) × (bit (get_or after k 0) x ≡ true)

pub crossed_none : (before after : List ℕ) (set : ℕ) → Crossed before after set 0
crossed_none before after set = record { members = λ x e. absurd (refuted (bit_zero x) e) }

pub crossed_more : (before after : List ℕ) (set found k : ℕ) → Crossed before after set found → bit set k ≡ true → (more next : ℕ)
    → more ≡ intersection (get_or before k 0) (get_or after k 0) → next ≡ union found more → Crossed before after set next
crossed_more before after set found k h member more next e d =
    record { members = λ x m. go x (either (bit found x) (bit more x) (sym (ap (λ w. bit w x) d ∙ bit_union found more x) ∙ m)) }
  where
    go : (x : ℕ) → (bit found x ≡ true) ⊎ (bit more x ≡ true)
        → (i : ℕ) × (bit set i ≡ true) × (bit (get_or before i 0) x ≡ true) × (bit (get_or after i 0) x ≡ true)
    go x (inl old) = h.members x old
    go x (inr new) =
        let into = get_or before k 0 in
        let onward = get_or after k 0 in
        let (p, q) = and_parts (bit into x) (bit onward x) (sym (ap (λ w. bit w x) e ∙ bit_intersection into onward x) ∙ new) in
        (k, member, p, q)

pub crossed_gone : (b : Board) → Within b → (set w : ℕ) → ((x : ℕ) → bit set x ≡ true → Valid (view b) x) → Crossed b.before b.after set w → AllGone b w
crossed_gone b h set w valids crossed = record { gone = excluded }
  where
    excluded : (x : ℕ) → bit w x ≡ true → Gone b x
    excluded x e =
        let (k, member, into, onward) = crossed.members x e in
        let back = sym (h.twice x k) ∙ into in
        let live = (h.limits.arcs x k back).0 in
        (live, λ v up obeys. forced (view b) v up obeys (is_invalid x) (r2 k x (valids k member) live onward back))

-- R6: the members of w are jobs of the set whose windows are too short for them
pub record Unfit (earliest latest lengths : List ℤ) (set w : ℕ) : Type 0 where
  pub members : (x : ℕ) → bit w x ≡ true
      → (bit set x ≡ true) × (le_z (get_or earliest x (pos 0) +ℤ get_or lengths x (pos 0)) (get_or latest x (pos 0)) ≡ false)

pub unfit_none : (earliest latest lengths : List ℤ) (set : ℕ) → Unfit earliest latest lengths set 0
unfit_none earliest latest lengths set = record { members = λ x e. absurd (refuted (bit_zero x) e) }

pub unfit_more : (earliest latest lengths : List ℤ) (set found k : ℕ) → Unfit earliest latest lengths set found → bit set k ≡ true
    → le_z (get_or earliest k (pos 0) +ℤ get_or lengths k (pos 0)) (get_or latest k (pos 0)) ≡ false → Unfit earliest latest lengths set (with found k)
unfit_more earliest latest lengths set found k h member short =
    record { members = λ x m. go x (either (bit found x) (eqb k x) (sym (bit_with found k x) ∙ m)) }
  where
    Short_at : ℕ → Type 0
    Short_at x = (bit set x ≡ true) × (le_z (get_or earliest x (pos 0) +ℤ get_or lengths x (pos 0)) (get_or latest x (pos 0)) ≡ false)

    go : (x : ℕ) → (bit found x ≡ true) ⊎ (eqb k x ≡ true) → Short_at x
    go x (inl old) = h.members x old
    go x (inr new) = subst Short_at (eqb-true k x new) (member, short)

pub unfit_gone : (b : Board) (set w : ℕ) → ((x : ℕ) → bit set x ≡ true → Live (view b) x) → Unfit b.earliest b.latest b.lengths set w → AllGone b w
unfit_gone b set w lives unfit = record { gone = shut }
  where
    shut : (x : ℕ) → bit w x ≡ true → Gone b x
    shut x e =
        let (member, short) = unfit.members x e in
        let live = lives x member in
        (live, λ v up obeys. forced (view b) v up obeys (is_invalid x) (r6 x live (omega whole)))
