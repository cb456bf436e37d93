-- Document 01, "Figures to check"; REFERENCE 11.1, 11.3: the starred figures, in one table.
use Rattle.std.specs.Prelude.{ℕ, suc, ◌/◌, ◌%◌, ◌≡◌, true, false, List, [], ◌∷◌, ◌++◌, pos, negsuc, length, replicate, Ok, Err}
use Rattle.cells.specs.Cells.{number, part, overlay, track_cells}
use Rattle.house_check.specs.Check.{cells_with_check}
use Rattle.areas.specs.declared.{Counts.Counts}
use Rattle.areas.specs.Areas.{r0_first, end_by, needed}
use Rattle.room.specs.Room.{room_left, fits}
use Rattle.table.specs.Table.{is_mask}
use Rattle.rows.specs.declared.{Row.Row}
use Rattle.rows.specs.Rows.{sense}
use Rattle.words.specs.Words.{address_word, status_at}
use Rattle.pack.specs.declared.{Shape.Shape}
use Rattle.pack.specs.Pack.{cylinder, head, seek_to, seek_head}
use Rattle.std.specs.declared.cmp.Ordering.{Ordering}
use Rattle.compare.specs.Compare.{compared}
use Rattle.held.specs.declared.{Position.Position}
use Rattle.held.specs.Held.{fresh, rested}
use Rattle.turn.specs.Turn.{position_at}
use Rattle.channel.specs.Channel.{world}
use Rattle.host.specs.declared.{Answer.Answer}
use Rattle.host.specs.Host.{Hears, beginning, starts, goes}
use Rattle.sound.specs.Sound.{Sound}
use Rattle.sound.specs.Tracks.{track_of, home_with, count_with, home_and_r0}

-- a count by its lengths; the rest of it makes no difference here
abbrev pub lengths : ℕ → ℕ → Counts
lengths kl dl = record { flag = 0; cc = 0; hh = 0; r = 0; kl = kl; dl = dl }

-- the cell after an R0 with DL 8
abbrev pub after_r0 : ℕ
after_r0 = end_by r0_first (lengths 0 8)

abbrev pub full_pack : Shape
full_pack = record { cylinders = 203; heads = 10 }

-- ---- the box at work

-- a command word
abbrev pub word : ℕ → ℕ → ℕ → ℕ → List ℕ
word code address flags count =
    code ∷ address / 65536 ∷ address / 256 % 256 ∷ address % 256 ∷ flags ∷ 0 ∷ count / 256 ∷ count % 256 ∷ []

-- 512 bytes of storage: 72 holds 00000100, these words are at 256, these bytes at 128, and all else is zero
abbrev pub storage_with : List ℕ → List ℕ → List ℕ
storage_with words bytes =
    overlay (overlay (overlay (replicate 512 0) address_word (0x00 ∷ 0x00 ∷ 0x01 ∷ 0x00 ∷ [])) 256 words) 128 bytes

-- a pack of one track, all zero
abbrev pub one_pack : Shape
one_pack = record { cylinders = 1; heads = 1 }

abbrev pub zero_track : List ℕ
zero_track = replicate track_cells 0

-- the status word that is left, the next word's address, and where the head is left
abbrev pub status_of : Hears → List ℕ
status_of x = part x.left.storage status_at 8

abbrev pub next_of : Hears → ℕ
next_of x = x.left.held.channel.next

abbrev pub position_left : Hears → Position
position_left x = x.left.held.position

-- where the head stands, and sense
abbrev pub position_on : ℕ → ℕ → ℕ → ℕ → ℕ → Position
position_on cc hh place byte0 byte1 = position_at (cylinder cc) (head hh) place (sense byte0 byte1)

-- 1: at 256 Search HA, count 4, flag 40; at 272 No-op, count 1; at 128 the cylinder and head of the track's home address
abbrev pub search_then_no_op : List ℕ
search_then_no_op = storage_with (word 0x39 128 0x40 4 ++ replicate 8 0 ++ word 0x03 128 0x00 1) (0 ∷ 0 ∷ 0 ∷ 0 ∷ [])

-- the start on a fresh box; then a go with an allowance of so many words, on what the start left
abbrev pub started : Hears
started = starts one_pack (world fresh search_then_no_op home_and_r0)

abbrev pub gone : ℕ → Hears
gone n = goes one_pack n started.left

-- 4 and 5: one Set File Mask word with these flags, and its byte
abbrev pub mask_word : ℕ → ℕ → Hears
mask_word flags byte =
    goes one_pack 1 (world (beginning fresh 0 256) (storage_with (word 0x1F 128 flags 1) (byte ∷ [])) zero_track)

-- 6 and 7: one Seek word from cylinder 100, head 5, place 7, on a full pack with any cells
abbrev pub seek_word : List ℕ → ℕ → ℕ → Hears
seek_word cells cc hh =
    goes full_pack 1
    (world (beginning (rested (position_on 100 5 7 0 0)) 0 256) (storage_with (word 0x07 128 0x40 6) (0 ∷ 0 ∷ 0 ∷ cc ∷ 0 ∷ hh ∷ [])) cells)

-- 8: a track whose R0 has ID 0000000002, no key and eight bytes; one Search ID word, count 5, against 00000000 and a byte
unfoldable pub id_two : List ℕ
id_two = track_of (home_with 0 ++ count_with 0 2 0 0 8 ++ cells_with_check (replicate 8 0))

abbrev pub id_word : ℕ → ℕ → Hears
id_word code byte =
    goes one_pack 1 (world (beginning fresh 0 256) (storage_with (word code 128 0x40 5) (0 ∷ 0 ∷ 0 ∷ 0 ∷ byte ∷ [])) id_two)

-- 9: on that track, fresh: Search ID equal with flag 20 over so many bytes of 0000000002; at 272 Write Data, count 8
abbrev pub search_then_write : ℕ → ℕ → Hears
search_then_write n bytes =
    goes one_pack n
    (world (beginning fresh 0 256) (storage_with (word 0x31 128 0x60 bytes ++ replicate 8 0 ++ word 0x05 128 0x00 8) (0 ∷ 0 ∷ 0 ∷ 0 ∷ 2 ∷ [])) id_two)

-- a fact of a full pack, whatever its 8,314,880 cells hold
abbrev pub OnFullPack : (List ℕ → Type 0) → Type 0
OnFullPack fact = (cells : List ℕ) → length cells ≡ 8314880 → fact cells

pub record Figures : Type 0 where
  -- 1. 72 holds 00000100; at 256 Search HA (count 4, flag 40) satisfied; at 272 No-op, count 1. Status word: 00 00 01 18 0C 00 00 01
  pub one_sound : Sound home_and_r0
  pub one_start : started.answer ≡ Answer.AllowanceUsed
  pub one_start_going : started.left.held.channel.going ≡ true
  pub one_start-next : next_of started ≡ 256
  pub one_search : (gone 1).answer ≡ Answer.AllowanceUsed
  pub one_search_next : next_of (gone 1) ≡ 272
  pub one_search_whole : (gone 1).left.held.orders.whole ≡ true
  pub one_search_position : position_left (gone 1) ≡ position_on 0 0 1 0 0
  pub one_end : (gone 2).answer ≡ Answer.ChainEnded
  pub one_status : status_of (gone 2) ≡ 0x00 ∷ 0x00 ∷ 0x01 ∷ 0x18 ∷ 0x0C ∷ 0x00 ∷ 0x00 ∷ 0x01 ∷ []
  -- 2. R0 with DL 8 ends at cell 27; then DL 4,054 without key has room 0 and fits; 4,055 has room -1
  pub two_ends : after_r0 ≡ suc 27
  pub two_room : room_left after_r0 (needed (lengths 0 4054)) ≡ pos 0
  pub two_fits : fits after_r0 (needed (lengths 0 4054)) ≡ true
  pub two_below : room_left after_r0 (needed (lengths 0 4055)) ≡ negsuc 0
  pub two_not : fits after_r0 (needed (lengths 0 4055)) ≡ false
  -- 3. KL 4, DL 0 needs 21 cells
  pub three : needed (lengths 4 0) ≡ 21
  -- 4. mask D8 legal
  pub four : is_mask 0xD8 ≡ true
  pub four_going : (mask_word 0x40 0xD8).answer ≡ Answer.AllowanceUsed
  pub four_held : (mask_word 0x40 0xD8).left.held.orders.mask ≡ 0xD8
  pub four_end : (mask_word 0x00 0xD8).answer ≡ Answer.ChainEnded
  pub four_status : status_of (mask_word 0x00 0xD8) ≡ 0x00 ∷ 0x00 ∷ 0x01 ∷ 0x08 ∷ 0x0C ∷ 0x00 ∷ 0x00 ∷ 0x00 ∷ []
  -- 5. 04 and 20 not
  pub five_04 : is_mask 0x04 ≡ false
  pub five_04_end : (mask_word 0x40 0x04).answer ≡ Answer.ChainEnded
  pub five_04_status : status_of (mask_word 0x40 0x04) ≡ 0x00 ∷ 0x00 ∷ 0x01 ∷ 0x08 ∷ 0x0E ∷ 0x00 ∷ 0x00 ∷ 0x00 ∷ []
  pub five_04_sense : (position_left (mask_word 0x40 0x04)).sense ≡ sense 0x80 0x00
  pub five_20 : is_mask 0x20 ≡ false
  pub five_20_end : (mask_word 0x40 0x20).answer ≡ Answer.ChainEnded
  pub five_20_status : status_of (mask_word 0x40 0x20) ≡ 0x00 ∷ 0x00 ∷ 0x01 ∷ 0x08 ∷ 0x0E ∷ 0x00 ∷ 0x00 ∷ 0x00 ∷ []
  pub five_20_sense : (position_left (mask_word 0x40 0x20)).sense ≡ sense 0x80 0x00
  -- 6. on a full pack cylinder 202, head 9 accepted
  pub six : seek_to full_pack 0 (cylinder 202) (head 9) ≡ Ok (cylinder 202, head 9)
  pub six_going : OnFullPack (λ cells. (seek_word cells 202 9).answer ≡ Answer.AllowanceUsed)
  pub six_position : OnFullPack (λ cells. position_left (seek_word cells 202 9) ≡ position_on 202 9 0 0 0)
  pub six_head : seek_head full_pack (cylinder 202) (head 9) ≡ Ok (cylinder 202, head 9)
  -- 7. 203 or head 10 not
  pub seven_cylinder : seek_to full_pack 0 (cylinder 203) (head 9) ≡ Err Row.BadSeek
  pub seven_cylinder_end : OnFullPack (λ cells. (seek_word cells 203 9).answer ≡ Answer.ChainEnded)
  pub seven_cylinder_status : OnFullPack (λ cells. status_of (seek_word cells 203 9) ≡ 0x00 ∷ 0x00 ∷ 0x01 ∷ 0x08 ∷ 0x0E ∷ 0x00 ∷ 0x00 ∷ 0x00 ∷ [])
  pub seven_cylinder_position : OnFullPack (λ cells. position_left (seek_word cells 203 9) ≡ position_on 100 5 7 0x81 0x00)
  pub seven_head : seek_to full_pack 0 (cylinder 202) (head 10) ≡ Err Row.BadSeek
  pub seven_head_end : OnFullPack (λ cells. (seek_word cells 202 10).answer ≡ Answer.ChainEnded)
  pub seven_head_status : OnFullPack (λ cells. status_of (seek_word cells 202 10) ≡ 0x00 ∷ 0x00 ∷ 0x01 ∷ 0x08 ∷ 0x0E ∷ 0x00 ∷ 0x00 ∷ 0x00 ∷ [])
  pub seven_head_position : OnFullPack (λ cells. position_left (seek_word cells 202 10) ≡ position_on 100 5 7 0x81 0x00)
  pub seven_head_only : seek_head full_pack (cylinder 202) (head 10) ≡ Err Row.BadSeek
  -- 8. ID 0000000002 on track against 0000000001: high, not equal
  pub eight : compared (number (0 ∷ 0 ∷ 0 ∷ 0 ∷ 2 ∷ [])) (number (0 ∷ 0 ∷ 0 ∷ 0 ∷ 1 ∷ [])) ≡ Ordering.Greater
  -- at the level of the box: satisfied is the word 16 on, 272; not satisfied the word 8 on, 264
  pub eight_sound : Sound id_two
  pub eight_high : next_of (id_word 0x51 1) ≡ 272
  pub eight_equal : next_of (id_word 0x31 1) ≡ 264
  pub eight_equal_or_high : next_of (id_word 0x71 1) ≡ 272
  -- against 0000000003 none of the three
  pub eight_low_high : next_of (id_word 0x51 3) ≡ 264
  pub eight_low_equal : next_of (id_word 0x31 3) ≡ 264
  pub eight_low_equal_or_high : next_of (id_word 0x71 3) ≡ 264
  -- 9. with flag 20, equal on 4 of 5 ID bytes satisfies 31, yet 05 after it gets 80 10, and no cell changes
  pub nine_satisfied : next_of (search_then_write 1 4) ≡ 272
  pub nine_not_whole : (search_then_write 1 4).left.held.orders.whole ≡ false
  pub nine_end : (search_then_write 2 4).answer ≡ Answer.ChainEnded
  pub nine_status : status_of (search_then_write 2 4) ≡ 0x00 ∷ 0x00 ∷ 0x01 ∷ 0x18 ∷ 0x0E ∷ 0x00 ∷ 0x00 ∷ 0x08 ∷ []
  pub nine_sense : (position_left (search_then_write 2 4)).sense ≡ sense 0x80 0x10
  pub nine_cells : (search_then_write 2 4).left.cells ≡ id_two
  -- equal on all 5 it is licensed, and writes
  pub nine_whole : (search_then_write 1 5).left.held.orders.whole ≡ true
  pub nine_written : status_of (search_then_write 2 5) ≡ 0x00 ∷ 0x00 ∷ 0x01 ∷ 0x18 ∷ 0x0C ∷ 0x00 ∷ 0x00 ∷ 0x00 ∷ []
