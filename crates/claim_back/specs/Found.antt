-- On a soundly written track whose IDs, R0's too, differ, a loop of 31 over five bytes and TIC from any place, with index tally 0 and allowance enough,
-- comes to the record whose ID was sent (REFERENCE 9.6). Document 01, "Where the head stands", "Commands" and "Channel words".
use Rattle.std.specs.Prelude.{ℕ, ◌+◌, ◌-◌, ◌*◌, ◌<◌, ◌≤◌, ◌≡◌, Bool, true, false, List, [], ◌∷◌, ◌⊎◌, take, ltb, Ok, Some}
use Rattle.cells.specs.Cells.{pick, marks}
use Rattle.words.specs.declared.{Word.Word, Directive.Directive}
use Rattle.words.specs.Words.{word_bytes, along, chains, tested}
use Rattle.areas.specs.Areas.{counts_at}
use Rattle.hunt.specs.declared.{Spot.Spot}
use Rattle.hunt.specs.Hunt.{count_first}
use Rattle.pack.specs.declared.{Shape.Shape}
use Rattle.table.specs.declared.{Write.Write}
use Rattle.held.specs.declared.{Held.Held}
use Rattle.held.specs.Held.{no_sense}
use Rattle.command.specs.Command.{id_bytes, id_of}
use Rattle.channel.specs.Channel.{fetched, World, world}
use Rattle.chain.specs.Step.{track_under, step, run, Legal}
use Rattle.host.specs.Host.{guard_of, ran, goes, no_refusal}
use Rattle.sound.specs.Sound.{Sound}
use Rattle.claim_track.specs.Damage.{IsRecord}
use Rattle.claim_box.specs.Figures.{one_pack}
use Rattle.claim_box.specs.Reading.{stocked, started_on, chained}
use Rattle.claim_box.specs.Confined.{track_on}
use Rattle.claim_box.specs.Demand3.{track}
use Rattle.claim_back.specs.Back.{OnRecord, left_by, Sent, Since, Wrote, sent_at}

-- ---- the track

-- the ID of a record, CCHHR, as its count area says
unfoldable pub id_at : List ℕ → Spot → List ℕ
id_at t r = id_of (counts_at t (count_first r)).cc (counts_at t (count_first r)).hh (counts_at t (count_first r)).r

-- IDs, R0's too, differ
abbrev pub IdsDiffer : List ℕ → Type 0
IdsDiffer t = (r r' : Spot) → IsRecord t r → IsRecord t r' → id_at t r ≡ id_at t r' → r ≡ r'

-- how many markers there are
unfoldable pub marked : List Bool → ℕ
marked [] = 0
marked (b ∷ m) = pick b 1 0 + marked m

-- ---- the loop

-- 31 over the five bytes at an address
abbrev pub search_id : ℕ → ℕ → Word
search_id p flags = record { code = 0x31; address = p; flags = flags; count = id_bytes }

-- at address a such a word, which chains and passes its tests, after a TIC too; 8 on a TIC back to it
pub record Loop (s : List ℕ) (a p flags : ℕ) : Type 0 where
  pub search : (after_tic : Bool) → tested s a after_tic ≡ Ok (Directive.Obey (search_id p flags))
  pub chained : chains (search_id p flags) ≡ true
  pub back : tested s (along a word_bytes) false ≡ Ok (Directive.Jump a)

-- a chain whose next word is such a loop's first, at any place, with index tally 0, on such a track
pub record Loops (g : Shape) (w : World) (p flags : ℕ) : Type 0 where
  pub legal : Legal g w
  pub going : w.held.channel.going ≡ true
  pub tally : w.held.orders.tally ≡ 0
  pub loop : Loop w.storage w.held.channel.next p flags
  pub sound : Sound (track_under g w)
  pub differ : IdsDiffer (track_under g w)

-- .. and the five bytes are the ID of record r of the track under the head
pub record Seeks (g : Shape) (w : World) (p flags : ℕ) (r : Spot) : Type 0 where
  pub loops : Loops g w p flags
  pub there : IsRecord (track_under g w) r
  pub sent : fetched w.storage (search_id p flags) ≡ id_at (track_under g w) r

-- ---- what it comes to

-- 31 was satisfied by r, over its whole field, which licenses a write: r is selected, the place is behind its marker, the index point was passed unless r lay
-- ahead of the place before, and the next word is 16 on. Sense is clear, and the mask stands
unfoldable pub found_held : Held → Spot → Held
found_held h r = record {
  position = record { cylinder = h.position.cylinder; head = h.position.head; place = count_first r; sense = no_sense };
  orders = record {
    mask = h.orders.mask;
    mask_set = h.orders.mask_set;
    before = 0x31;
    whole = true;
    tally = pick (ltb h.position.place (count_first r)) 0 1;
    selection = Some r;
  };
  channel = record { going = true; key = h.channel.key; next = along h.channel.next (word_bytes + word_bytes); after_tic = false };
}

-- storage and pack are as they were
abbrev pub found_at : World → Spot → World
found_at w r = world (found_held w.held r) w.storage w.cells

-- on the way the chain is at one of the loop's two words, storage and pack as they were
pub record InLoop (w v : World) : Type 0 where
  pub going : v.held.channel.going ≡ true
  pub word : (v.held.channel.next ≡ w.held.channel.next) ⊎ (v.held.channel.next ≡ along w.held.channel.next word_bytes)
  pub storage : v.storage ≡ w.storage
  pub cells : v.cells ≡ w.cells

-- after so many words: R0 and each record with a marker is searched at most once, and a TIC stands between two searches
pub record Comes (g : Shape) (w : World) (r : Spot) : Type 0 where
  pub words : ℕ
  pub most : words ≤ 2 * marked (marks (track_under g w)) + 1
  -- one allowance, of at most 65,535 words, is enough
  pub allowed : words ≤ 65535
  pub before : (i : ℕ) → i < words → InLoop w (run g i w)
  pub found : run g words w ≡ found_at w r
  -- any allowance that is enough passes there, a go's too
  pub enough : (n : ℕ) → words ≤ n → run g n w ≡ run g (n - words) (found_at w r)
  pub by_go : (n : ℕ) → words ≤ n → guard_of g w ≡ no_refusal → goes g n w ≡ ran (run g (n - words) (found_at w r))

-- ---- "comes to it": to what a write left

-- the ID of what was sent; 05 and 0D leave it as it was
abbrev pub id_sent : Sent → List ℕ
id_sent x = take id_bytes x.count

-- a write left record r, and no later one was done on that track
pub record Left (g : Shape) (w : World) (d : Word) (k : Write) (u : World) (r : Spot) : Type 0 where
  pub wrote : Wrote g w d k
  pub since : Since g (track_on g w) (step g w) u
  pub is : left_by k (track_under g w) w.held.orders.selection ≡ OnRecord r

-- it is a record of that track, and has that ID
pub record StillThere (t : List ℕ) (x : Sent) (r : Spot) : Type 0 where
  pub there : IsRecord t r
  pub named : id_at t r ≡ id_sent x

pub record Found : Type 0 where
  pub comes : (g : Shape) (w : World) (p flags : ℕ) (r : Spot) → Seeks g w p flags r → Comes g w r
  pub left : (g : Shape) (w : World) (d : Word) (k : Write) (u : World) (r : Spot) → Left g w d k u r
      → StillThere (track u.cells (track_on g w)) (sent_at g w d k) r
  -- so the loop with the ID sent comes to it
  pub comes_to_it : (g : Shape) (w : World) (d : Word) (k : Write) (u : World) (r : Spot) (p flags : ℕ) → Left g w d k u r → track_on g u ≡ track_on g w
      → Loops g u p flags → fetched u.storage (search_id p flags) ≡ id_sent (sent_at g w d k) → Comes g u r
  -- such chains there are: on claim_box:Reading's track, from a fresh box, for its last record
  pub met : Seeks one_pack (started_on stocked (chained 0x12 8) 3) 128 0x40 (Spot.Marker 75)
