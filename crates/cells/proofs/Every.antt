-- A test of every element of a list, made by a loop that looks at all of them: the answer so far, and the test of those left.
use mathlib.Core.Path.{◌≡◌, refl, sym, ap, ◌∙◌}
use mathlib.Core.Bool.{Bool, true, false}
use mathlib.Core.List.{List, [], ◌∷◌}
use Prim.Native.Nat.{ℕ, suc, ◌+◌, ◌<◌, ◌≤◌}
use native.Mathlib.Numerals.{add-one}
use lib.ListN.{length, drop, get_or, drop_of_length-le}
use lib.Seq.{drop-cons}
use Rattle.std.specs.List.{fold}
use Rattle.cells.specs.Cells.{both}
use Rattle.cells.proofs.Marks.{both_never}

-- every is whether f holds of all
pub record Every (f : ℕ → Bool) (every : List ℕ → Bool) : Type 0 where
  pub none : every [] ≡ true
  pub more : (x : ℕ) (l : List ℕ) → every (x ∷ l) ≡ both (f x) (every l)

module _ (f : ℕ → Bool) (every : List ℕ → Bool) (E : Every f every) (l : List ℕ) (i : ℕ) (b c : Bool) where
  by_next : i < length l → both b (every (drop i l)) ≡ both b (both (f (get_or l i 0)) (every (drop (i + 1) l)))
  by_next h =
      ap (both b)
      (ap every (drop-cons l i 0 h) ∙ E.more (get_or l i 0) (drop (suc i) l) ∙ ap (λ (n : ℕ). both (f (get_or l i 0)) (every (drop n l))) (sym (add-one i)))

  -- one element on, of which f does not hold, or holds
  pub every_not : i < length l → f (get_or l i 0) ≡ false → c ≡ false → both b (every (drop i l)) ≡ both c (every (drop (i + 1) l))
  every_not h e k =
      by_next h ∙ ap (λ (x : Bool). both b (both x (every (drop (i + 1) l)))) e ∙ both_never b
      ∙ ap (λ (x : Bool). both x (every (drop (i + 1) l))) (sym k)

  pub every_so : i < length l → f (get_or l i 0) ≡ true → c ≡ b → both b (every (drop i l)) ≡ both c (every (drop (i + 1) l))
  every_so h e k =
      by_next h ∙ ap (λ (x : Bool). both b (both x (every (drop (i + 1) l)))) e
      ∙ ap (λ (x : Bool). both x (every (drop (i + 1) l))) (sym k)

-- none left
pub every_end : (f : ℕ → Bool) (every : List ℕ → Bool) → Every f every → (l : List ℕ) (i : ℕ) (b : Bool) → length l ≤ i → both b (every (drop i l)) ≡ b
every_end f every E l i true h = ap every (drop_of_length-le l h) ∙ E.none
every_end f every E l i false h = refl

-- the same of a fold that takes the test of each element to the answer so far
pub every_fold : (f : ℕ → Bool) (every : List ℕ → Bool) → Every f every → (l : List ℕ) (b : Bool) → fold (λ b x. both b (f x)) b l ≡ both b (every l)
every_fold f every E [] true = sym E.none
every_fold f every E [] false = refl
every_fold f every E (x ∷ l) true = every_fold f every E l (f x) ∙ sym (E.more x l)
every_fold f every E (x ∷ l) false = every_fold f every E l false
