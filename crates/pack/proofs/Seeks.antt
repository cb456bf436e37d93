-- A seek that is accepted goes to a cylinder and a head of the pack.
use Prim.Native.Nat.{ℕ, ◌<◌}
use mathlib.Core.Path.{◌≡◌, refl}
use mathlib.Core.Bool.{Bool, true, false}
use lib.Dec.{eqb}
use borrow.Author.Tests.{ltb-true}
use Rattle.cells.specs.Cells.{pick, both}
use Rattle.cells.proofs.Tests.{first_of, second_of}
use Rattle.rows.specs.declared.Row.TheVariants.{BadSeek}
use Rattle.pack.specs.declared.{Cylinder.Cylinder, Head.Head, Shape.Shape}
use Rattle.pack.specs.Pack.{cylinder_on, head_on, seek_to, seek_head, OnPack}
use Rattle.std.specs.Prelude.{Ok, Err, Result}
use Rattle.rows.specs.declared.{Row.Row}

abbrev pub SoughtOn : Shape → Result (Cylinder × Head) Row → Type 0
SoughtOn g (Ok (c, h)) = OnPack g c h
SoughtOn g (Err row) = Unit {0}

pub seek_to_on : (g : Shape) (bb : ℕ) (c : Cylinder) (h : Head) → SoughtOn g (seek_to g bb c h)
unfolding seek_to
seek_to_on g bb c h = go (both (eqb bb 0) (both (cylinder_on g c) (head_on g h))) refl
  where
    go : (b : Bool) → both (eqb bb 0) (both (cylinder_on g c) (head_on g h)) ≡ b → SoughtOn g (pick b (Ok (c, h)) (Err BadSeek))
    go true e =
        let f = second_of (eqb bb 0) _ e in
        record { cylinder = ltb-true _ _ (first_of (cylinder_on g c) _ f); head = ltb-true _ _ (second_of (cylinder_on g c) _ f) }
    go false e = tt

pub seek_head_on : (g : Shape) (c : Cylinder) → c.0 < g.cylinders → (h : Head) → SoughtOn g (seek_head g c h)
unfolding seek_head
seek_head_on g c on h = go (head_on g h) refl
  where
    go : (b : Bool) → head_on g h ≡ b → SoughtOn g (pick b (Ok (c, h)) (Err BadSeek))
    go true e = record { cylinder = on; head = ltb-true _ _ e }
    go false e = tt
