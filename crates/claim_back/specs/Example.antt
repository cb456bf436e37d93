-- Reading back, by example, on two tracks: the premises of `Back` and `Found` are met, and what they promise is there. On a track with home address and R0, Search
-- ID finds R0, 1D writes record 1 behind it with two bytes of its data missing, and 1E comes to it by its marker, past the index point; or the host brings
-- another chain after the 1D, a loop of 31 and TIC, which comes to it by the ID sent. On a track whose R0 has a key that cannot be read, 05 writes R0's
-- data, and 16 reads R0.
use Rattle.std.specs.Prelude.{ℕ, ◌≡◌, true, false, List, [], ◌∷◌, ◌++◌, set, replicate}
use Rattle.cells.specs.Cells.{part, gap}
use Rattle.rows.specs.Rows.{sense}
use Rattle.words.specs.declared.{Word.Word}
use Rattle.words.specs.Words.{word_at}
use Rattle.hunt.specs.declared.{Spot.Spot}
use Rattle.held.specs.Held.{fresh}
use Rattle.table.specs.declared.{Write.Write}
use Rattle.table.specs.Table.{rule_of}
use Rattle.channel.specs.Channel.{fetched, World, world}
use Rattle.chain.specs.Step.{step}
use Rattle.host.specs.Host.{starts, goes}
use Rattle.sound.specs.Tracks.{home_and_r0}
use Rattle.claim_box.specs.Figures.{word, storage_with, one_pack, status_of}
use Rattle.claim_box.specs.Reading.{stocked, r0_key}
use Rattle.claim_back.specs.Back.{names_key, Rereads, names_passed, sent_at, asked_by, KeyUnreadable}
use Rattle.claim_back.specs.Found.{search_id, Loops, Comes, id_sent, Left}

-- what a start leaves of a fresh box with this track: at 256 Search ID equal with the ID at 128, which R0 satisfies, at 272 a write of the bytes at 160, at
-- 280 a read to 192
abbrev pub begun : List ℕ → List ℕ → List ℕ → List ℕ → World
begun t write sent read =
    (starts one_pack
    (world fresh (storage_with (word 0x31 128 0x40 5 ++ replicate 8 0 ++ write ++ read) (replicate 32 0 ++ sent)) t)).left

-- the write is the next word; the read is
abbrev pub to_write : World → World
to_write v = step one_pack v

abbrev pub to_read : World → World
to_read v = step one_pack (to_write v)

abbrev pub the_write : World → Word
the_write v = word_at v.storage 272

abbrev pub the_read : World → Word
the_read v = word_at v.storage 280

-- record 1: KL 2, DL 4; its key; two bytes of its data
abbrev pub record_sent : List ℕ
record_sent = 0 ∷ 0 ∷ 0 ∷ 0 ∷ 1 ∷ 2 ∷ 0 ∷ 4 ∷ 0xC1 ∷ 0xC2 ∷ 5 ∷ 6 ∷ []

abbrev pub new : World
new = begun home_and_r0 (word 0x1D 160 0x60 12) record_sent (word 0x1E 192 0x00 14)

-- another chain, which the host brings after the 1D: at 256 Search ID equal with the ID at 128, that of record 1, and a TIC back to it
abbrev pub loop_storage : List ℕ
loop_storage = storage_with (word 0x31 128 0x40 5 ++ word 0x08 256 0x00 0) (0 ∷ 0 ∷ 0 ∷ 0 ∷ 1 ∷ [])

abbrev pub searching : World
searching = (starts one_pack (world fresh loop_storage (to_read new).cells)).left

-- a gap in R0's key
unfoldable pub key_gap : List ℕ
key_gap = set stocked r0_key.first gap

abbrev pub over : World
over = begun key_gap (word 0x05 160 0x60 2) (5 ∷ 6 ∷ []) (word 0x16 192 0x00 18)

pub record Example : Type 0 where
  pub rereads : Rereads one_pack (to_write new) (the_write new) Write.CountKeyData (to_read new) (the_read new) true
  pub names : names_passed one_pack (to_write new) Write.CountKeyData (the_read new) ≡ false
  pub bytes : asked_by (the_read new) true (sent_at one_pack (to_write new) (the_write new) Write.CountKeyData) ≡ record_sent ++ (0 ∷ 0 ∷ [])
  pub placed : part (goes one_pack 3 new).left.storage 192 14 ≡ record_sent ++ (0 ∷ 0 ∷ [])
  -- the loop, and where it comes to
  pub left : Left one_pack (to_write new) (the_write new) Write.CountKeyData searching (Spot.Marker 28)
  pub loops : Loops one_pack searching 128 0x40
  pub id : fetched searching.storage (search_id 128 0x40) ≡ id_sent (sent_at one_pack (to_write new) (the_write new) Write.CountKeyData)
  pub comes : Comes one_pack searching (Spot.Marker 28)
  -- the key that cannot be read: Unit Check, and no byte moved
  pub unreadable : KeyUnreadable one_pack (to_write over)
  pub over_rereads : Rereads one_pack (to_write over) (the_write over) (Write.Update false) (to_read over) (the_read over) true
  pub over_names : names_key (rule_of (the_read over).code).names ≡ true
  pub over_status : status_of (goes one_pack 3 over) ≡ 0x00 ∷ 0x00 ∷ 0x01 ∷ 0x20 ∷ 0x0E ∷ 0x00 ∷ 0x00 ∷ 0x12 ∷ []
  pub over-sense : (goes one_pack 3 over).left.held.position.sense ≡ sense 0x08 0x00
