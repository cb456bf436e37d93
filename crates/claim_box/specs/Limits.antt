-- Both sides of each limit of a pack, and room far past a track (REFERENCE 2.1, 2.8).
use Rattle.std.specs.Prelude.{ℕ, ◌*◌, ◌≡◌, Bool, true, false, negsuc}
use Rattle.cells.specs.Cells.{track_cells}
use Rattle.areas.specs.Areas.{end_by, needed}
use Rattle.room.specs.Room.{room_left, fits}
use Rattle.pack.specs.Pack.{pack_fits}
use Rattle.box_export.specs.Calls.{shape}
use Rattle.claim_box.specs.Figures.{lengths}

-- a shape with the cells that it says
abbrev pub as_said : ℕ → ℕ → Bool
as_said c h = pack_fits (shape c h) (c * h * track_cells)

pub record Limits : Type 0 where
  pub cylinders_0 : as_said 0 1 ≡ false
  pub cylinders_1 : as_said 1 1 ≡ true
  pub cylinders_203 : as_said 203 10 ≡ true
  pub cylinders_204 : as_said 204 10 ≡ false
  pub heads_0 : as_said 1 0 ≡ false
  pub heads_10 : as_said 1 10 ≡ true
  pub heads_11 : as_said 1 11 ≡ false
  pub cells_few : pack_fits (shape 203 10) 8314879 ≡ false
  pub cells_right : pack_fits (shape 203 10) 8314880 ≡ true
  pub cells_many : pack_fits (shape 203 10) 8314881 ≡ false
  -- the furthest first cell that a readable count can name: its count area is the last that lies on the track, KL 255 and DL 65,535
  pub far_end : end_by 4085 (lengths 255 65535) ≡ 69890
  pub far_room : room_left 69890 (needed (lengths 0 1)) ≡ negsuc 65808
  pub far_not : fits 69890 (needed (lengths 0 1)) ≡ false
