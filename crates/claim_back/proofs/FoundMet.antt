-- A chain that meets all that the claim asks: each side computes. That the IDs of its track differ: the last byte of an ID names the record.
use Prim.Native.Nat.{ℕ, zero, suc, ◌+◌}
use mathlib.Core.Path.{◌≡◌, refl, sym, ap, ◌∙◌, subst}
use mathlib.Core.Bool.{Bool, true, false, false≢true}
use mathlib.Core.List.{List, [], ◌∷◌}
use native.Mathlib.Omega.{arith}
use native.Mathlib.Nat.{add-zero, zero-add}
use lib.ListN.{get_or}
use lib.Dec.{lit≤}
use Rattle.cells.specs.Cells.{pick, marks}
use Rattle.words.specs.Words.{tested}
use Rattle.hunt.specs.declared.{Spot.Spot}
use Rattle.hunt.specs.declared.Spot.TheVariants.{R0, Marker}
use Rattle.hunt.specs.Hunt.{spot_fits}
use Rattle.command.specs.Command.{id_of}
use Rattle.channel.specs.Channel.{World}
use Rattle.chain.specs.Step.{track_under}
use Rattle.sound.specs.Sound.{Sound}
use Rattle.claim_track.specs.Damage.{IsRecord}
use Rattle.claim_box.specs.Figures.{one_pack}
use Rattle.claim_box.specs.Reading.{stocked, started_on, chained}
use Rattle.claim_box.proofs.Opened.{track, box}
use Rattle.claim_box.proofs.Reading.{reading}
use Rattle.claim_back.specs.Found.{id_at, IdsDiffer, search_id, Seeks}
use Rattle.std.specs.Prelude.{Ok}
use Rattle.words.specs.declared.{Directive.Directive}

-- the cells that hold a marker
unfoldable pub cells_with : List Bool → ℕ → List ℕ
cells_with [] i = []
cells_with (b ∷ m) i = pick b (i ∷ cells_with m (suc i)) (cells_with m (suc i))

abbrev pub All : (ℕ → Type 0) → List ℕ → Type 0
All P [] = Unit {0}
All P (x ∷ l) = P x × All P l

-- what holds of them holds of every marker
of_all : (P : ℕ → Type 0) (m : List Bool) (i : ℕ) → All P (cells_with m i) → (q : ℕ) → get_or m q false ≡ true → P (i + q)
unfolding cells_with
of_all P [] i a q e = absurd (false≢true e)
of_all P (true ∷ m) i a zero e = subst P (sym (add-zero i)) a.0
of_all P (true ∷ m) i a (suc q) e = subst P {x = suc i + q} (omega arith) (of_all P m (suc i) a.1 q e)
of_all P (false ∷ m) i a zero e = absurd (false≢true e)
of_all P (false ∷ m) i a (suc q) e = subst P {x = suc i + q} (omega arith) (of_all P m (suc i) a q e)

-- on a track t whose records are named by the last byte of their IDs
module _ (t : List ℕ) (named : ℕ → Spot) where
  abbrev Named : Spot → Type 0
  Named x = named (get_or (id_at t x) 4 0) ≡ x

  abbrev pub Marked : ℕ → Type 0
  Marked q = Named (Marker q)

  module _ (r0 : Named R0) (each : All Marked (cells_with (marks t) 0)) where
    by_r : (x : Spot) → IsRecord t x → Named x
    unfolding spot_fits
    by_r R0 e = r0
    by_r (Marker q) e = subst Marked (zero-add q) (of_all Marked (marks t) 0 each q e)

    pub ids_differ : IdsDiffer t
    ids_differ x y f h e = sym (by_r x f) ∙ ap (λ (v : List ℕ). named (get_or v 4 0)) e ∙ by_r y h

-- ---- claim_box:Reading's track

abbrev chain : World
chain = started_on stocked (chained 0x12 8) 3

abbrev named : ℕ → Spot
named zero = R0
named (suc zero) = Marker 32
named (suc (suc zero)) = Marker 53
named (suc (suc (suc n))) = Marker 75

differ : IdsDiffer stocked
unfolding track stocked id_at id_of cells_with
differ = ids_differ stocked named refl (refl, (refl, (refl, tt)))

under_is : track_under one_pack chain ≡ stocked
unfolding box stocked
under_is = refl

pub met : Seeks one_pack chain 128 0x40 (Marker 75)
unfolding box stocked id_at
met = record {
  loops = record {
    legal = record { whole = record { cylinders = lit≤ tt; heads = lit≤ tt; count = refl }; room = lit≤ tt; held = refl };
    going = refl;
    tally = refl;
    loop = record { search = search; chained = refl; back = refl };
    sound = subst Sound (sym under_is) reading.sound;
    differ = subst IdsDiffer (sym under_is) differ;
  };
  there = refl;
  sent = refl;
}
  where
    search : (tic : Bool) → tested chain.storage chain.held.channel.next tic ≡ Ok (Directive.Obey (search_id 128 0x40))
    search true = refl
    search false = refl
