-- The fault that lost a pack (REFERENCE 1.5, 2.8): room that went below zero and became huge. A record that does not fit is refused with 00 40, the lesser
-- of its count and 8 bytes moved, and no cell changes: at room -1, and behind a count that puts its first cell tens of thousands past the track's end. What
-- holds of every such write is `Confined`; these are two of them, by a go.
use Rattle.std.specs.Prelude.{ℕ, ◌≡◌, List, [], ◌∷◌, ◌++◌, negsuc, replicate}
use Rattle.house_check.specs.Check.{cells_with_check}
use Rattle.areas.specs.Areas.{r0_first, end_by, needed}
use Rattle.room.specs.Room.{room_left}
use Rattle.rows.specs.Rows.{sense}
use Rattle.held.specs.Held.{fresh}
use Rattle.channel.specs.Channel.{world}
use Rattle.host.specs.declared.{Answer.Answer}
use Rattle.host.specs.Host.{Hears, beginning, goes}
use Rattle.sound.specs.Tracks.{track_of, home_with, count_with}
use Rattle.claim_box.specs.Figures.{lengths, word, storage_with, one_pack, status_of, position_left, id_two}

-- Search ID equal over the whole ID of R0, 0000000002; at 272 Write Count Key Data, count 12, of these two bytes of DL, no key
abbrev pub writes_behind : List ℕ → ℕ → ℕ → Hears
writes_behind track high low =
    goes one_pack 2
    (world (beginning fresh 0 256)
    (storage_with (word 0x31 128 0x40 5 ++ replicate 8 0 ++ word 0x1D 133 0x00 12) (0 ∷ 0 ∷ 0 ∷ 0 ∷ 2 ∷ 0 ∷ 0 ∷ 0 ∷ 0 ∷ 1 ∷ 0 ∷ high ∷ low ∷ []))
    track)

-- an R0 whose readable count says DL 65,535
unfoldable pub far : List ℕ
far = track_of (home_with 0 ++ count_with 0 2 0 0xFF 0xFF ++ cells_with_check (replicate 8 0))

pub record NotWritten (track : List ℕ) (x : Hears) : Type 0 where
  pub ended : x.answer ≡ Answer.ChainEnded
  -- 8 of 12 bytes moved
  pub status : status_of x ≡ 0x00 ∷ 0x00 ∷ 0x01 ∷ 0x18 ∷ 0x0E ∷ 0x00 ∷ 0x00 ∷ 0x04 ∷ []
  pub sensed : (position_left x).sense ≡ sense 0x00 0x40
  pub cells : x.left.cells ≡ track

pub record Lost : Type 0 where
  -- DL 4,055 behind an R0 of DL 8: room -1
  pub below : room_left (end_by r0_first (lengths 0 8)) (needed (lengths 0 4055)) ≡ negsuc 0
  pub below_refused : NotWritten id_two (writes_behind id_two 0x0F 0xD7)
  -- one byte less fits, and is written
  pub fits_written : status_of (writes_behind id_two 0x0F 0xD6) ≡ 0x00 ∷ 0x00 ∷ 0x01 ∷ 0x18 ∷ 0x0C ∷ 0x40 ∷ 0x00 ∷ 0x00 ∷ []
  -- DL 0 behind a count that says 65,535: its first cell would be 65,555
  pub far_first : end_by r0_first (lengths 0 65535) ≡ 65555
  pub far_refused : NotWritten far (writes_behind far 0 0)
