-- The premises compute: the one track of the pack is the track that was damaged, no cell lies beside it, and each word's areas are found by running it.
-- What demand 3 then says of it is the theorem's.
use Prim.Native.Nat.{ℕ, ◌<◌}
use mathlib.Core.Path.{◌≡◌, refl, sym, ◌∙◌, subst}
use mathlib.Core.Bool.{true}
use mathlib.Core.List.{List}
use mathlib.Core.Logic.{◌⊎◌, ⊎_elim}
use native.Mathlib.Omega.{arith}
use lib.ListN.{length, get_or-eq_default}
use lib.Dec.{lit<}
use Rattle.table.specs.Table as Table
use Rattle.held.specs.Held.{fresh}
use Rattle.chain.specs.Step as Step
use Rattle.host.specs.Host.{if_passes}
use Rattle.sound.specs.Sound.{Sound}
use Rattle.claim_track.specs.Damage.{Own, Damaged, any, part_no, same_area}
use Rattle.claim_box.specs.Figures.{one_pack}
use Rattle.claim_box.specs.Reading.{stocked, hurt_count, one_count}
use Rattle.claim_box.specs.Demand3.{track, Harmed, next_writes, is_it, reads_it, spared, hear, left, spared_call, spared_calls, FirstReads}
use Rattle.claim_box.specs.Example.{passing, passing_calls, passed, Met}
use Rattle.claim_box.proofs.Opened as Opened
use Rattle.claim_box.proofs.Reading.{not_empty}
use Rattle.claim_box.proofs.Demand3.{demand_3}

-- the pack is its one track
whole : track stocked 0 ≡ stocked
unfolding Opened.box stocked
whole = refl

whole_hurt : track hurt_count 0 ≡ hurt_count
unfolding Opened.box stocked hurt_count
whole_hurt = refl

same_long : length hurt_count ≡ length stocked
unfolding Opened.box stocked hurt_count
same_long = refl

long : length stocked ≡ 4096
unfolding Opened.box stocked
long = refl

harmed : Harmed 0 48 one_count stocked hurt_count
harmed = record {
  long = same_long;
  elsewhere = λ i o.
      ⊎_elim (λ h. absurd (omega (arith, h)))
      (λ h. get_or-eq_default hurt_count 0 (omega (arith, h, same_long, long)) ∙ sym (get_or-eq_default stocked 0 (omega (arith, h, long)))) o;
  sound = subst Sound (sym whole) not_empty.sound;
  own = subst (λ (t : List ℕ). Own t one_count) (sym whole) not_empty.count_own;
  damaged = subst (λ (t : List ℕ). Damaged 48 one_count t (track hurt_count 0)) (sym whole) (subst (Damaged 48 one_count stocked) (sym whole_hurt) not_empty.count_damaged);
}

spares : spared_calls one_pack 0 one_count passing_calls (passing stocked) ≡ true
unfolding Opened.box stocked spared_calls spared_call spared next_writes reads_it is_it any same_area part_no hear if_passes Step.tested_writes Table.is_write
spares = refl

first : FirstReads one_pack 0 one_count 2 1 (passed stocked)
unfolding Opened.box stocked spared next_writes reads_it is_it any same_area part_no hear left Step.tested_writes Table.is_write
first = record { passes = refl; within = lit< tt; before = refl; going = refl; reads = refl; nowrite = refl }

pub met : Met
met = record {
  harmed = harmed;
  spared = spares;
  first = first;
  agrees = (demand_3 one_pack 0 48 one_count stocked hurt_count harmed).agrees fresh _ passing_calls spares;
  ends = (demand_3 one_pack 0 48 one_count stocked hurt_count harmed).ends fresh _ passing_calls spares 2 1 first;
}
