-- Laws of endings: tries add up, one ending after another, and what the tries of a list of jobs find.
use Rattle.std.specs.Prelude.{◌≡◌, refl, true, ℕ, ◌+◌}
use Rattle.std.proofs.Common.{sym, ap, arith}
use mathlib.Core.List.{List, [], ◌∷◌}
use Rattle.std.proofs.Math.Decide.{ℕ_discrete}
use Rattle.ground_arithmetic.specs.Bools.{refuted}
use Rattle.paper_board.specs.Paper.View.{View}
use Rattle.paper_plans.specs.Paper.Lists.{among}
use Rattle.paper_plans.specs.Paper.Tries.{Ending, found, none, add, ◌or_else◌, try, from}
use Rattle.paper_plans.specs.ListLaws.{none_among, among_first, among_rest, among_later}

-- ---- tries add up

pub add_zero : (o : Ending) → add 0 o ≡ o
unfolding add
add_zero (found u ps) = ap (λ (n : ℕ). found n ps) (omega arith)
add_zero (none u) = ap none (omega arith)

pub add_add : (s t : ℕ) (o : Ending) → add s (add t o) ≡ add (s + t) o
unfolding add
add_add s t (found u ps) = ap (λ (n : ℕ). found n ps) (omega arith)
add_add s t (none u) = ap none (omega arith)

pub add_or_else : (t : ℕ) (a b : Ending) → add t (a or_else b) ≡ add t a or_else b
unfolding add ◌or_else◌
add_or_else t (found u ps) b = refl
add_or_else t (none u) b = add_add t u b

pub or_else_assoc : (a b c : Ending) → (a or_else b) or_else c ≡ a or_else (b or_else c)
unfolding ◌or_else◌
or_else_assoc (found u ps) b c = refl
or_else_assoc (none u) b c = sym (add_or_else u b c)

pub or_else_none : (o : Ending) → o or_else none 0 ≡ o
unfolding add ◌or_else◌
or_else_none (found t ps) = refl
or_else_none (none t) = ap none (omega arith)

-- ---- what is found

-- what the tries find, if they find something, has the property
abbrev pub IfFound : (List ℕ → Type 0) → Ending → Type 0
IfFound P (found t ps) = P ps
IfFound P (none t) = Unit {0}

abbrev pub IsFound : Ending → Type 0
IsFound (found t ps) = Unit {0}
IsFound (none t) = ⊥

module _ (P : List ℕ → Type 0) where
  add_if : (t : ℕ) (o : Ending) → IfFound P o → IfFound P (add t o)
  unfolding add
  add_if t (found u ps) h = h
  add_if t (none u) h = tt

  or_else_if : (a b : Ending) → IfFound P a → IfFound P b → IfFound P (a or_else b)
  unfolding ◌or_else◌
  or_else_if (found u ps) b h g = h
  or_else_if (none u) b h g = add_if u b g

add_is : (t : ℕ) (o : Ending) → IsFound o → IsFound (add t o)
unfolding add
add_is t (found u ps) h = tt
add_is t (none u) h = h

first_is : (a b : Ending) → IsFound a → IsFound (a or_else b)
unfolding ◌or_else◌
first_is (found u ps) b h = tt
first_is (none u) b h = absurd h

second_is : (a b : Ending) → IsFound b → IsFound (a or_else b)
unfolding ◌or_else◌
second_is (found u ps) b h = tt
second_is (none u) b h = add_is u b h

module _ (v : View) (order : List ℕ) (deeper : List ℕ → Ending) (ps : List ℕ) where
  -- what is found from a list of jobs was found by the try of one of them
  pub from_if : (P : List ℕ → Type 0) (js : List ℕ)
      → ((j : ℕ) → among js j ≡ true → IfFound P (try v order deeper ps j)) → IfFound P (from v order deeper ps js)
  unfolding from
  from_if P [] h = tt
  from_if P (j ∷ js) h =
      or_else_if P _ _ (add_if P 1 _ (h j (among_first j js))) (from_if P js λ k a. h k (among_later j js k a))

  -- where the try of one job finds something, it is found, or something was found before
  pub from_is : (js : List ℕ) (j : ℕ) → among js j ≡ true → IsFound (try v order deeper ps j) → IsFound (from v order deeper ps js)
  unfolding from
  from_is [] j a h = absurd (refuted (none_among j) a)
  from_is (i ∷ is) j a h = go (ℕ_discrete i j) λ ne. from_is is j (rw (← among_rest i is j ne) a) h
    where
      go : Dec (i ≡ j) → ((i ≡ j → ⊥) → IsFound (from v order deeper ps is)) → IsFound (add 1 (try v order deeper ps i) or_else from v order deeper ps is)
      go (yes d) ih = first_is _ _ (add_is 1 _ (rw d h))
      go (no ne) ih = second_is _ _ (ih ne)
