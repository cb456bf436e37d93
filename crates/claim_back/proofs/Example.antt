-- The example: each side computes. That storage holds bytes is one computed test, and so is that the track is soundly written.
use Prim.Native.Nat.{ℕ, zero, suc, ◌<◌}
use mathlib.Core.Path.{◌≡◌, refl}
use mathlib.Core.Bool.{Bool, true, false}
use lib.Dec.{lit<}
use Rattle.words.specs.Words.{tested}
use Rattle.hunt.specs.declared.{Spot.Spot}
use Rattle.hunt.specs.declared.Spot.TheVariants.{R0, Marker}
use Rattle.held.specs.Held.{fresh}
use Rattle.table.specs.declared.{Write.Write}
use Rattle.channel.specs.Channel.{fetched}
use Rattle.chain.specs.Step.{track_under, Legal}
use Rattle.host.proofs.Laws.{passes_legal}
use Rattle.sound.proofs.Test.{soundly_sound}
use Rattle.claim_box.specs.Boxes.{all_under}
use Rattle.claim_box.specs.Figures.{one_pack}
use Rattle.claim_box.specs.Reading.{stocked}
use Rattle.claim_box.proofs.Opened.{box}
use Rattle.claim_back.specs.Back.{selected, behind, left_by, comes_to, by_marker, taken_by, new_sent, update_sent, sent_by, asked, names_key, passes_key, now, start, host, counts_on, Wrote, sent_at}
use Rattle.claim_back.specs.Found.{id_at, search_id, Loops, id_sent, Left}
use Rattle.claim_back.specs.Example.{to_write, to_read, the_write, new, loop_storage, searching, key_gap, over, Example}
use Rattle.claim_back.proofs.FoundMet.{cells_with, ids_differ}
use Rattle.claim_back.proofs.Found.{found}
use Rattle.std.specs.Prelude.{Ok}
use Rattle.words.specs.declared.{Directive.Directive}

-- ---- 1D, then 1E

new_write : Legal one_pack (to_write new)
unfolding box
new_write = passes_legal one_pack (to_write new) refl

new_read : Legal one_pack (to_read new)
unfolding box
new_read = passes_legal one_pack (to_read new) refl

new_wrote : Wrote one_pack (to_write new) (the_write new) Write.CountKeyData
unfolding box all_under
new_wrote = record { legal = new_write; lent = refl; word = refl; act = refl; done = refl }

-- ---- the loop that the host brings after it

left : Left one_pack (to_write new) (the_write new) Write.CountKeyData searching (Marker 28)
unfolding behind left_by box
left = record { wrote = new_wrote; since = start (host fresh loop_storage now); is = refl }

loops : Loops one_pack searching 128 0x40
unfolding box id_at cells_with
loops = record {
  legal = passes_legal one_pack searching refl;
  going = refl;
  tally = refl;
  loop = record { search = search; chained = refl; back = refl };
  sound = soundly_sound (track_under one_pack searching) refl;
  differ = ids_differ (track_under one_pack searching) named refl (refl, tt);
}
  where
    search : (tic : Bool) → tested searching.storage searching.held.channel.next tic ≡ Ok (Directive.Obey (search_id 128 0x40))
    search true = refl
    search false = refl

    named : ℕ → Spot
    named zero = R0
    named (suc n) = Marker 28

id : fetched searching.storage (search_id 128 0x40) ≡ id_sent (sent_at one_pack (to_write new) (the_write new) Write.CountKeyData)
unfolding box new_sent sent_by
id = refl

-- ---- 05, then 16

over_write : Legal one_pack (to_write over)
unfolding box stocked key_gap
over_write = passes_legal one_pack (to_write over) refl

over_read : Legal one_pack (to_read over)
unfolding box stocked key_gap
over_read = passes_legal one_pack (to_read over) refl

over_wrote : Wrote one_pack (to_write over) (the_write over) (Write.Update false)
unfolding box stocked key_gap all_under
over_wrote = record { legal = over_write; lent = refl; word = refl; act = refl; done = refl }

-- ---- both

pub example : Example
unfolding box stocked key_gap selected behind left_by comes_to by_marker taken_by new_sent update_sent sent_by asked names_key passes_key counts_on
example = record {
  rereads = record { wrote = new_wrote; since = now; legal = new_read; word = refl; act = refl; track = refl; takes = refl };
  names = refl;
  bytes = refl;
  placed = refl;
  left = left;
  loops = loops;
  id = id;
  comes = found.comes_to_it one_pack (to_write new) (the_write new) Write.CountKeyData searching (Marker 28) 128 0x40 left refl loops id;
  unreadable = record { spot = R0; is = refl; some = lit< tt; unreadable = refl };
  over_rereads = record { wrote = over_wrote; since = now; legal = over_read; word = refl; act = refl; track = refl; takes = refl };
  over_names = refl;
  over_status = refl;
  over-sense = refl;
}
