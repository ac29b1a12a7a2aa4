-- What a page holds, and a text written on it: the page holds what it held before, and then the text.
use Rattle.std.specs.Prelude.{ℕ, ◌+◌, ◌≤◌, length, take, List, [], ◌++◌, ◌≡◌, refl}
use Rattle.std.proofs.Common.{arith, append_assoc, append-nil, sym, ◌∙◌}
use Rattle.text_decimals.specs.declared.Page.{Page}

-- the bytes written so far
abbrev pub text_of : Page → List ℕ
text_of page = take page.written page.buffer.now

-- how many there may be
abbrev pub capacity_of : Page → ℕ
capacity_of page = length page.buffer.now

-- one lent buffer for both
abbrev pub SameBuffer : Page → Page → Type 0
SameBuffer old new = new.buffer.ghost_name ≡ old.buffer.ghost_name

abbrev pub HasRoom : Page → ℕ → Type 0
HasRoom page most = length (text_of page) + most ≤ capacity_of page

-- x is written after what stood there, in at most so many bytes
pub record Written (old new : Page) (x : List ℕ) (most : ℕ) : Type 0 where
  pub text : text_of new ≡ text_of old ++ x
  pub capacity : capacity_of new ≡ capacity_of old
  pub growth : length (text_of new) ≤ length (text_of old) + most
  pub same_buffer : SameBuffer old new

pub nothing_written : (o : Page) → Written o o [] 0
nothing_written o = record { text = sym (append-nil (text_of o)); capacity = refl; growth = omega arith; same_buffer = refl }

pub weaken_written : {o p : Page} {x : List ℕ} {m n : ℕ} → Written o p x m → m ≤ n → Written o p x n
weaken_written w h = record { text = w.text; capacity = w.capacity; growth = omega arith; same_buffer = w.same_buffer }

-- one text after another
pub append_written : {o p q : Page} {x y : List ℕ} {m n l : ℕ}
    → Written o p x m → Written p q y n → m + n ≤ l → Written o q (x ++ y) l
append_written {o} {x = x} {y = y} first second h =
    record {
      text = second.text ∙ rw first.text (append_assoc (text_of o) x y);
      capacity = second.capacity ∙ first.capacity;
      growth = omega arith;
      same_buffer = second.same_buffer ∙ first.same_buffer;
    }
