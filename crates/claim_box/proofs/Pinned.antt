-- How tightly it is pinned: every contract is an equation with the model, so any two outcomes that meet it coincide.
use mathlib.Core.Path.{◌≡◌, sym, ◌∙◌}

pub one_outcome : {A : Type 0} {said one other : A} → one ≡ said → other ≡ said → one ≡ other
one_outcome p q = p ∙ sym q
