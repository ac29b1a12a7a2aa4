-- Steps up from a board compose, and there is one extension: whichever way it was found, the least board is the same.
use Rattle.std.specs.Prelude.{◌≡◌, refl, ℕ}
use Rattle.std.proofs.Common.{sym, ◌∙◌, ap}
use Rattle.std.proofs.Math.Option.{Option, none, some}
use Rattle.paper_board.specs.declared.Board.{Board}
use Rattle.paper_board.specs.Paper.View.{View, view}
use Rattle.paper_rules.specs.Inference.Infers.{Obeys}
use Rattle.paper_rules.specs.Paper.Entries.{◌⊑◌}
use Rattle.paper_rules.specs.Order.OrderLaws.{⊑_trans}
use Rattle.paper_rules.specs.Order.LeastUnique.{alike_boards, equal_boards}
use Rattle.paper_rules.specs.Update.Updates.{◌and_then◌}
use Rattle.paper_rules.specs.Update.Extension.{Extension, Extends}

-- an extension for P is one for Q, where P gives Q, and Q gives P in the views above b that obey the rules
pub extends_same : (n : ℕ) (P Q : View → Type 0) (b : Board) → ((w : View) → P w → Q w)
    → ((w : View) → view b ⊑ w → Obeys w → Q w → P w) → (o : Option Board) → Extends n P b o → Extends n Q b o
extends_same n P Q b to from none x = λ w up obeys q. x w up obeys (from w up obeys q)
extends_same n P Q b to from (some c) x =
    record { more = x.more; meets = to (view c) x.meets; least = λ w up obeys q. x.least w up obeys (from w up obeys q) }

-- A step that meets P and one from there that meets Q make one that meets R, where P is kept above, P and Q give R, and R
-- gives both in the views above b that obey the rules.
module _ (n : ℕ) (P Q R : View → Type 0) (b : Board)
    (kept : (v w : View) → v ⊑ w → P v → P w)
    (join : (w : View) → P w → Q w → R w)
    (split : (w : View) → view b ⊑ w → Obeys w → R w → P w × Q w) where
  pub onward : (c : Board) (o : Option Board) → Extension n P b c → Extends c.jobs Q c o → Extends n R b o
  onward c none x y = λ w up obeys r. let (p, q) = split w up obeys r in y w (x.least w up obeys p) obeys q
  onward c (some d) x y =
      record {
        more =
            record {
              within = y.more.within;
              jobs = y.more.jobs ∙ x.more.jobs;
              books = y.more.books ∙ x.more.books;
              above = ⊑_trans (view b) (view c) (view d) x.more.above y.more.above;
            };
        meets = join (view d) (kept (view c) (view d) y.more.above x.meets) y.meets;
        least = λ w up obeys r. let (p, q) = split w up obeys r in y.least w (x.least w up obeys p) obeys q;
      }

  pub extends_then : (o : Option Board) (k : Board → Option Board) → Extends n P b o
      → ((c : Board) → Extension n P b c → Extends c.jobs Q c (k c)) → Extends n R b (o and_then k)
  unfolding ◌and_then◌
  extends_then none k x y = λ w up obeys r. x w up obeys (split w up obeys r).0
  extends_then (some c) k x y = onward c (k c) x (y c x)

-- where P asks that the rules are obeyed, there is one extension
module _ (n : ℕ) (P : View → Type 0) (b : Board) (obeys : (w : View) → P w → Obeys w) where
  same_extension : (c d : Board) → Extension n P b c → Extension n P b d → c ≡ d
  same_extension c d x y =
      let below : (c d : Board) → Extension n P b c → Extension n P b d → view c ⊑ view d =
      λ c d x y. x.least (view d) y.more.above (obeys (view d) y.meets) y.meets
      in
      let alike = alike_boards c d x.more.within y.more.within (below c d x y) (below d c y x) in
      equal_boards c d x.more.within y.more.within (record { alike = alike; books = x.more.books ∙ sym y.more.books })

  pub one_extension : (o p : Option Board) → Extends n P b o → Extends n P b p → o ≡ p
  one_extension none none x y = refl
  one_extension none (some d) x y = absurd (x (view d) y.more.above (obeys (view d) y.meets) y.meets)
  one_extension (some c) none x y = absurd (y (view c) x.more.above (obeys (view c) x.meets) x.meets)
  one_extension (some c) (some d) x y = ap some (same_extension c d x y)
