-- Document 01, "Where the head stands"; REFERENCE 4.7, 11.2: work on a record reads its count area first, then every area it names; an area passed over is
-- not read, nor the data area where DL = 0. Examples of it on one track, and of demand 3: damage that is passed over, and damage that is read.
use Rattle.std.specs.Prelude.{ℕ, zero, suc, ◌≡◌, Bool, true, false, List, [], ◌∷◌, ◌++◌, set, replicate}
use Rattle.cells.specs.Cells.{pick, either, part, overlay, marker, cell_of}
use Rattle.house_check.specs.Check.{cells_with_check}
use Rattle.rows.specs.Rows.{sense}
use Rattle.words.specs.Words.{status_at}
use Rattle.areas.specs.declared.{Area.Area, Part.Part}
use Rattle.areas.specs.Areas.{area, home_area, r0_first, count_area}
use Rattle.pack.specs.Pack.{head}
use Rattle.held.specs.Held.{fresh}
use Rattle.turn.specs.Turn.{TrackArea}
use Rattle.command.specs.Command.{on_head}
use Rattle.channel.specs.Channel.{World, world}
use Rattle.chain.specs.Step.{step, word_reads}
use Rattle.host.specs.declared.{Answer.Answer}
use Rattle.host.specs.Host.{Hears, starts, goes}
use Rattle.sound.specs.Sound.{Sound}
use Rattle.sound.specs.Tracks.{track_of, home_with, count_with, home_and_r0}
use Rattle.claim_track.specs.Damage.{Own, Damaged, any, same_area}
use Rattle.claim_box.specs.Figures.{word, storage_with, one_pack, status_of, position_left, position_on}

-- ---- the track: R0 with a key, records 1 and 2 with key and data, record 3 with a key and DL 0

unfoldable pub stocked : List ℕ
stocked =
    track_of
    (home_with 0
    ++ count_with 0x00 0 2 0 8 ++ cells_with_check (0xD9 ∷ 0xF0 ∷ []) ++ cells_with_check (replicate 8 0)
    ++ (marker ∷ count_with 0x80 1 2 0 3) ++ cells_with_check (0xC1 ∷ 0xC2 ∷ []) ++ cells_with_check (1 ∷ 2 ∷ 3 ∷ [])
    ++ (marker ∷ count_with 0x00 2 4 0 2) ++ cells_with_check (0xC1 ∷ 0xC2 ∷ 0xC3 ∷ 0xC4 ∷ []) ++ cells_with_check (4 ∷ 5 ∷ [])
    ++ (marker ∷ count_with 0x80 3 4 0 0) ++ cells_with_check (0xC5 ∷ 0xC6 ∷ 0xC7 ∷ 0xC8 ∷ []) ++ cells_with_check (0 ∷ []))

-- its areas, by their first cells and their bytes: R0's
abbrev pub r0_count : Area
r0_count = count_area r0_first

abbrev pub r0_key : Area
r0_key = area Part.Key 18 2

abbrev pub r0_data : Area
r0_data = area Part.Data 22 8

-- record 1's, whose marker is in cell 32
abbrev pub one_count : Area
one_count = count_area 33

abbrev pub one_key : Area
one_key = area Part.Key 44 2

abbrev pub one_data : Area
one_data = area Part.Data 48 3

-- record 3's, whose marker is in cell 75
abbrev pub three_count : Area
three_count = count_area 76

abbrev pub three_key : Area
three_key = area Part.Key 87 4

-- one bit of record 1's count area changed: its KL, in cell 39, is 3 for 2
unfoldable pub hurt_count : List ℕ
hurt_count = set stocked 39 (cell_of 3)

-- one bit of record 1's data area changed: its first byte, in cell 48, is 0 for 1
unfoldable pub hurt_data : List ℕ
hurt_data = set stocked 48 (cell_of 0)

-- ---- chains, as a host starts them

-- what the start leaves of a fresh box with this track, these words at 256, and at 128 the ID 00000000 and a byte
abbrev pub started_on : List ℕ → List ℕ → ℕ → World
started_on t words byte = (starts one_pack (world fresh (storage_with words (0 ∷ 0 ∷ 0 ∷ 0 ∷ byte ∷ [])) t)).left

-- one word, with 160 as its address
abbrev pub one_word : ℕ → ℕ → List ℕ
one_word code count = word code 160 0x00 count

-- .. chained from Search ID equal, which a TIC brings back to until it is satisfied
abbrev pub chained : ℕ → ℕ → List ℕ
chained code count = word 0x31 128 0x40 5 ++ word 0x08 256 0x00 0 ++ one_word code count

-- the areas that a chain's next word reads, after so many words
abbrev pub reads_after : ℕ → World → List TrackArea
reads_after n w = word_reads one_pack (goes one_pack n w).left

-- areas of the one track, under head 0
abbrev pub under0 : List Area → List TrackArea
under0 l = on_head (head 0) l

-- what each word reads, area by area and in order
pub record Reading : Type 0 where
  pub sound : Sound stocked
  pub sound_alone : Sound home_and_r0
  -- home address work
  pub search_home : reads_after 0 (started_on stocked (one_word 0x39 4) 0) ≡ under0 (home_area ∷ [])
  pub read_home : reads_after 0 (started_on stocked (one_word 0x1A 5) 0) ≡ under0 (home_area ∷ [])
  -- Search ID: the count only. It comes to R0, and back by the TIC, which reads nothing, to record 1
  pub search_id : reads_after 0 (started_on stocked (chained 0x06 3) 1) ≡ under0 (r0_count ∷ [])
  pub tic : reads_after 1 (started_on stocked (chained 0x06 3) 1) ≡ []
  pub search_id-next : reads_after 2 (started_on stocked (chained 0x06 3) 1) ≡ under0 (one_count ∷ [])
  -- chained from it, satisfied by record 1. Read Data: count and data of the record selected, the key is passed over
  pub read_data : reads_after 3 (started_on stocked (chained 0x06 3) 1) ≡ under0 (one_count ∷ one_data ∷ [])
  pub read_key_data : reads_after 3 (started_on stocked (chained 0x0E 5) 1) ≡ under0 (one_count ∷ one_key ∷ one_data ∷ [])
  pub search_key : reads_after 3 (started_on stocked (chained 0x29 2) 1) ≡ under0 (one_count ∷ one_key ∷ [])
  pub space_record : reads_after 3 (started_on stocked (chained 0x0F 1) 1) ≡ []
  -- .. satisfied by R0, at once
  pub read_data_r0 : reads_after 1 (started_on stocked (chained 0x06 8) 0) ≡ under0 (r0_count ∷ r0_data ∷ [])
  -- Read Count: the count only, of the next record, so that R0 is passed
  pub read_count : reads_after 0 (started_on stocked (one_word 0x12 8) 0) ≡ under0 (one_count ∷ [])
  -- Read R0: not the home address; the key if there is one
  pub read_r0 : reads_after 0 (started_on stocked (one_word 0x16 18) 0) ≡ under0 (r0_count ∷ r0_key ∷ r0_data ∷ [])
  pub read_r0_keyless : reads_after 0 (started_on home_and_r0 (one_word 0x16 16) 0) ≡ under0 (r0_count ∷ area Part.Data 18 8 ∷ [])
  -- Read CKD; and of a record with DL 0, the next after record 2 was found
  pub read_count_key_data : reads_after 0 (started_on stocked (one_word 0x1E 13) 0) ≡ under0 (one_count ∷ one_key ∷ one_data ∷ [])
  pub read_count_key_data_empty : reads_after 5 (started_on stocked (chained 0x1E 12) 2) ≡ under0 (three_count ∷ three_key ∷ [])
  -- a row that ends a command first, so that it reads nothing: no marker on the track, 00 02
  pub no_marker : reads_after 0 (started_on home_and_r0 (one_word 0x29 2) 0) ≡ []
  pub no_marker-sense : (position_left (goes one_pack 1 (started_on home_and_r0 (one_word 0x29 2) 0))).sense ≡ sense 0x00 0x02
  -- the second index point, 00 08: the first Search ID, below place 7, passes none, the second passes one, the third another
  pub first_index : reads_after 2 (started_on home_and_r0 (chained 0x06 3) 1) ≡ under0 (r0_count ∷ [])
  pub second_index : reads_after 4 (started_on home_and_r0 (chained 0x06 3) 1) ≡ []
  pub second_index_sense : (position_left (goes one_pack 5 (started_on home_and_r0 (chained 0x06 3) 1))).sense ≡ sense 0x00 0x08
  -- a count that is not readable: the count alone, its lengths are not used
  pub bad_count : reads_after 0 (started_on hurt_count (one_word 0x1E 13) 0) ≡ under0 (one_count ∷ [])

-- ---- demand 3 by example

-- whether one of the next n words of a chain reads an area
unfoldable pub touches : Area → ℕ → World → Bool
touches x zero w = false
touches x (suc n) w =
    pick w.held.channel.going (either (any (λ (a : TrackArea). same_area x a.area) (word_reads one_pack w)) (touches x n (step one_pack w))) false

-- Search ID, satisfied by R0; Space Record, which passes record 1's marker; Read CKD of record 2
abbrev pub past_one : List ℕ → World
past_one t = started_on t (word 0x31 128 0x40 5 ++ replicate 8 0 ++ word 0x0F 128 0x40 1 ++ one_word 0x1E 14) 0

abbrev pub passes_one : List ℕ → Hears
passes_one t = goes one_pack 3 (past_one t)

-- Read Count, and Read Data, of record 1
abbrev pub count_of_one : List ℕ → World
count_of_one t = started_on t (one_word 0x12 8) 0

abbrev pub data_of_one : List ℕ → World
data_of_one t = started_on t (one_word 0x06 3) 0

abbrev pub one_word_on : World → Hears
one_word_on w = goes one_pack 1 w

-- n of the bytes that a chain has moved there
abbrev pub moved_to : Hears → ℕ → List ℕ
moved_to x n = part x.left.storage 160 n

-- a soundly written track, and damage to one of its areas within 16 bits: from bit 48 of a count area, where KL begins, and from bit 0 of a
-- data area; then what chains make of it
pub record NotEmpty : Type 0 where
  pub sound : Sound stocked
  pub count_own : Own stocked one_count
  pub count_damaged : Damaged 48 one_count stocked hurt_count
  pub data_own : Own stocked one_data
  pub data_damaged : Damaged 0 one_data stocked hurt_data
  -- no word reads the damaged count: the chain ends well, and all is as it would be, but for the damage itself
  pub past_unread : touches one_count 3 (past_one hurt_count) ≡ false
  pub past_end : (passes_one hurt_count).answer ≡ Answer.ChainEnded
  pub past_status : status_of (passes_one hurt_count) ≡ 0x00 ∷ 0x00 ∷ 0x01 ∷ 0x20 ∷ 0x0C ∷ 0x00 ∷ 0x00 ∷ 0x00 ∷ []
  pub past_bytes : moved_to (passes_one hurt_count) 14 ≡ 0 ∷ 0 ∷ 0 ∷ 0 ∷ 2 ∷ 4 ∷ 0 ∷ 2 ∷ 0xC1 ∷ 0xC2 ∷ 0xC3 ∷ 0xC4 ∷ 4 ∷ 5 ∷ []
  pub past_cells : (passes_one hurt_count).left.cells ≡ hurt_count
  pub past_undamaged_unread : touches one_count 3 (past_one stocked) ≡ false
  pub past_undamaged_end : (passes_one stocked).answer ≡ Answer.ChainEnded
  pub past_same_held : (passes_one hurt_count).left.held ≡ (passes_one stocked).left.held
  pub past_same_storage : (passes_one hurt_count).left.storage ≡ (passes_one stocked).left.storage
  -- a word reads the damaged count: 08 80, no byte moves, and nothing is stored but the status word
  pub count_read : touches one_count 1 (count_of_one hurt_count) ≡ true
  pub count_end : (one_word_on (count_of_one hurt_count)).answer ≡ Answer.ChainEnded
  pub count_storage : (one_word_on (count_of_one hurt_count)).left.storage
      ≡ overlay (count_of_one hurt_count).storage status_at (0x00 ∷ 0x00 ∷ 0x01 ∷ 0x08 ∷ 0x0E ∷ 0x00 ∷ 0x00 ∷ 0x08 ∷ [])
  pub count_position : position_left (one_word_on (count_of_one hurt_count)) ≡ position_on 0 0 0 0x08 0x80
  pub count_cells : (one_word_on (count_of_one hurt_count)).left.cells ≡ hurt_count
  -- .. and without the damage its 8 bytes
  pub count_undamaged_end : (one_word_on (count_of_one stocked)).answer ≡ Answer.ChainEnded
  pub count_undamaged_status : status_of (one_word_on (count_of_one stocked)) ≡ 0x00 ∷ 0x00 ∷ 0x01 ∷ 0x08 ∷ 0x0C ∷ 0x00 ∷ 0x00 ∷ 0x00 ∷ []
  pub count_undamaged_bytes : moved_to (one_word_on (count_of_one stocked)) 8 ≡ 0 ∷ 0 ∷ 0 ∷ 0 ∷ 1 ∷ 2 ∷ 0 ∷ 3 ∷ []
  -- a word reads the damaged data: 08 00
  pub data_read : touches one_data 1 (data_of_one hurt_data) ≡ true
  pub data_end : (one_word_on (data_of_one hurt_data)).answer ≡ Answer.ChainEnded
  pub data_storage : (one_word_on (data_of_one hurt_data)).left.storage
      ≡ overlay (data_of_one hurt_data).storage status_at (0x00 ∷ 0x00 ∷ 0x01 ∷ 0x08 ∷ 0x0E ∷ 0x00 ∷ 0x00 ∷ 0x03 ∷ [])
  pub data_position : position_left (one_word_on (data_of_one hurt_data)) ≡ position_on 0 0 0 0x08 0x00
  pub data_cells : (one_word_on (data_of_one hurt_data)).left.cells ≡ hurt_data
  -- .. and without the damage its 3 bytes
  pub data_undamaged_end : (one_word_on (data_of_one stocked)).answer ≡ Answer.ChainEnded
  pub data_undamaged_status : status_of (one_word_on (data_of_one stocked)) ≡ 0x00 ∷ 0x00 ∷ 0x01 ∷ 0x08 ∷ 0x0C ∷ 0x00 ∷ 0x00 ∷ 0x00 ∷ []
  pub data_undamaged_bytes : moved_to (one_word_on (data_of_one stocked)) 3 ≡ 1 ∷ 2 ∷ 3 ∷ []
