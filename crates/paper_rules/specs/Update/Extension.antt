-- What a step up from a board does, said by the order alone: the least board above b, within the limits, that meets a
-- demand, as that a fact holds, that an entry is shown or that the rules are obeyed.
use Rattle.std.specs.Prelude.{◌≡◌, refl, ℕ, suc, ◌<◌}
use Rattle.std.proofs.Math.Option.{Option, none, some}
use Rattle.paper_board.specs.declared.Board.{Board}
use Rattle.paper_board.specs.Paper.View.{Row, View, view}
use Rattle.paper_board.specs.Paper.Facts.{Fact, Holds}
use Rattle.paper_rules.specs.Inference.Infers.{Obeys}
use Rattle.paper_rules.specs.Paper.Entries.{Shown, ◌⊑◌}
use Rattle.paper_rules.specs.Order.OrderLaws.{⊑_refl}
use Rattle.paper_board.specs.Paper.Limits.{Within}

-- c is b with more shown: within the limits, with n jobs, the same books, and above b
pub record Above (n : ℕ) (b c : Board) : Type 0 where
  pub within : Within c
  pub jobs : c.jobs ≡ n
  pub books : c.books ≡ b.books
  pub above : view b ⊑ view c

-- a board within its limits is above itself
pub above_self : (b : Board) → Within b → Above b.jobs b b
above_self b h =
    record {
      within = h;
      jobs = refl;
      books = refl;
      above = ⊑_refl (view b) h.limits;
    }

-- c is the least board above b that meets P
pub record Extension (n : ℕ) (P : View → Type 0) (b c : Board) : Type 0 where
  pub more : Above n b c
  pub meets : P (view c)
  pub least : (w : View) → view b ⊑ w → Obeys w → P w → view c ⊑ w

-- that board; or none, and no view above b that obeys the rules meets P
abbrev pub Extends : ℕ → (View → Type 0) → Board → Option Board → Type 0
Extends n P b (some c) = Extension n P b c
Extends n P b none = (w : View) → view b ⊑ w → Obeys w → P w → ⊥

-- one more fact
abbrev pub Extended : Board → Fact → Board → Type 0
Extended b f = Extension b.jobs (λ w. Holds w f) b

abbrev pub Updated : Board → Fact → Option Board → Type 0
Updated b f = Extends b.jobs (λ w. Holds w f) b

-- one more job, numbered n, whose row shows r
abbrev pub HasRow : ℕ → Row → View → Type 0
HasRow n r w = (n < w.jobs) × Shown r (w.row n)

abbrev pub Appended : Board → Row → Board → Type 0
Appended b r = Extension (suc b.jobs) (HasRow b.jobs r) b
